-- `sets::own::own_slicing` meets its contract: the base is a power of two, and has one binary digit more than its exponent says.
use Prim.Native.Nat.{◌-◌}
use mathlib.Core.Path.{◌≡◌, refl}
use native.Mathlib.Omega.{arith}
use Rattle.plan.proofs.HeadCounts.{planned_at}
use Rattle.sets.specs.Own.{own_split}
use Rattle.sets.proofs.HeadLaws.{base_digits}
use Rattle.sets.proofs.own.own_slicing.Goals as goal
use Rattle.sets.proofs.own.own_slicing.Goals.{After-bit_len}

split_is : (c : After-bit_len) → c.bit_len.result - 1 ≡ own_split c.args.head.now
split_is c = omega (arith, c.bit_len.ensures, base_digits c.requires)

pub overflow_sub-result : goal.overflow_sub-result
overflow_sub-result c = omega (arith, c.bit_len.ensures, base_digits c.requires)

pub invariant_of-result : goal.invariant_of-result
invariant_of-result c =
    let head = c.args.head.now in
    record {
      planned = planned_at head.strategy head.parity head.basis head.degree c.requires.degrees (split_is (goal.at.invariant_of-result c).After-bit_len);
    }

pub returns : goal.returns
returns c = (refl, split_is (goal.at.returns c).After-bit_len)
