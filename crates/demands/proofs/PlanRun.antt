-- The steps of a plan run (docs/RULES.md, "What a plan promises"), and what they leave is the polynomial's value: its needed powers can be made, and
-- they hold what its tree uses (CommonRun). So it is at every split from 1 up, whether or not a leading slice is listed again.
use mathlib.Core.Path.{◌≡◌}
use mathlib.Core.List.{List}
use mathlib.Core.Bool.{Bool}
use mathlib.Core.Option.{some}
use Prim.Native.Nat.{ℕ, ◌≤◌, ◌<◌}
use native.Mathlib.Omega.{arith}
use lib.IntN.{ℤ}
use lib.ListN.{length}
use Rattle.algebra.specs.Operations.{whole_ops}
use Rattle.algebra.specs.Allowed.{HasParity}
use Rattle.algebra.specs.Value.{value}
use Rattle.algebra.specs.declared.Basis.{Basis}
use Rattle.algebra.specs.declared.Parity.{Parity}
use Rattle.number.specs.Limits.{plan_limit}
use Rattle.number.specs.Tests.{degree_of}
use Rattle.needed.specs.Needed.{NeededPower}
use Rattle.needed.specs.NeededList.{needed_list}
use Rattle.needed.proofs.Promises.{needed_powers}
use Rattle.lists.specs.Tree.{tree_of}
use Rattle.lists.specs.Lists.{lists_of}
use Rattle.walk.specs.Rules.{exact_rules}
use Rattle.walk.specs.Walk.{walk_of}
use Rattle.walk.specs.WalksHeld.{numbered}
use Rattle.plan.specs.PlanSteps.{power_steps, steps_at}
use Rattle.demands.proofs.CommonRun.{Common, common_walk}

-- the needed powers of a degree can be made, and are listed rising
needed_common : (parity : Parity) (basis : Basis) (degree split : ℕ) → 0 < degree → degree ≤ plan_limit
    → Common basis (NeededPower parity basis degree split) (needed_list parity basis degree split)
needed_common parity basis degree split from to =
    let known = needed_powers parity basis degree split in
    record {
      makeable = record {
        closed = known.least.closed;
        from_two = known.from_two;
        to_limit = λ m needed. let within = known.within from m needed in omega arith;
      };
      rising = known.rising;
      listed = known.listed;
    }

pub steps_walk : (leading : Bool) (parity : Parity) (basis : Basis) (split : ℕ) (c : List ℤ) (y : ℤ) → 1 ≤ split → 1 < length c
    → degree_of c ≤ plan_limit → HasParity whole_ops parity c
    → walk_of exact_rules parity basis (numbered (lists_of whole_ops basis (tree_of leading (degree_of c) (degree_of c) split) c))
    (steps_at leading parity basis (degree_of c) split) y
    ≡ some (value whole_ops basis y c)
unfolding steps_at power_steps
steps_walk leading parity basis split c y from_one several few fits =
    common_walk leading parity basis split c y from_one several few fits (NeededPower parity basis (degree_of c) split)
    (needed_list parity basis (degree_of c) split) (needed_common parity basis (degree_of c) split (omega arith) few) (λ m needed. needed)
