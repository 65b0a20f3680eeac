-- Demand 3, "every accepted whole-number polynomial": which these are. On an interval whose lower bound is below its upper one a plan is made of it, if
-- the lent buffers are long enough.
use Rattle.std.specs.Prelude.{◌≡◌, Bool, true, ◌↔◌, List, ℕ, ◌^◌, ◌≤◌, Float, ℤ, length}
use Rattle.algebra.specs.Operations.{whole_ops}
use Rattle.algebra.specs.Allowed.{HasParity}
use Rattle.algebra.specs.Magnitude.{sum_abs}
use Rattle.algebra.specs.declared.Basis.{Basis}
use Rattle.algebra.specs.declared.Parity.{Parity}
use Rattle.algebra.specs.declared.Parity.TheVariants.{Full, Even, Odd}
use Rattle.number.specs.Interval.{Ordered}
use Rattle.number.specs.Tests.{degree_of}
use Rattle.counts.specs.declared.choice.SplitStrategy.{SplitStrategy}
use Rattle.plan.specs.PlanCall.{Accepted}
use Rattle.plan.specs.PlanSizes.{sizes_for, HasSizes}

-- folding is for Even from degree 2 on and for Odd from degree 3 on
abbrev pub Foldable : Parity → (degree : ℕ) → Type 0
Foldable Full degree = ⊥
Foldable Even degree = 2 ≤ degree
Foldable Odd degree = 3 ≤ degree

-- "This covers degrees up to 4,095, magnitudes summing to at most 2^30, both bases, all parities, both strategies, folded or not." Basis and
-- strategy are free.
pub record Covered (folded : Bool) (parity : Parity) (c : List ℤ) : Type 0 where
  pub degree_from : 1 ≤ degree_of c
  pub degree_to : degree_of c ≤ 4095
  pub magnitudes : sum_abs c ≤ 2 ^ 30
  pub right_parity : HasParity whole_ops parity c
  pub foldable : folded ≡ true → Foldable parity (degree_of c)

-- these are accepted, and no others
abbrev pub CoveredAccepted : Type 0
CoveredAccepted = (folded : Bool) (parity : Parity) (c : List ℤ) → Accepted folded parity c ↔ Covered folded parity c

-- what brings a plan: an accepted polynomial, bounds in order, and long enough buffers, which have the sizes of the plan
pub record BringsPlan (strategy : SplitStrategy) (parity : Parity) (basis : Basis) (folded : Bool) (c : List ℤ) (a b : Float) (out : List ℤ)
    (bounds steps : List ℕ) : Type 0 where
  pub accepted : Accepted folded parity c
  pub ordered : Ordered a b
  pub long_enough : HasSizes (sizes_for strategy parity basis folded c) (length out) (length bounds) (length steps)
