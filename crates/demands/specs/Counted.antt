-- Demand 3: what a plan reports is what its steps and lists cost. For every accepted polynomial (specs/Accepts), each basis, parity and strategy,
-- folded or not.
use Rattle.std.specs.Prelude.{◌≡◌, Bool, true, false, List, [], ◌∷◌, ℕ, ◌+◌, ◌-◌, Float, ℤ, take}
use Rattle.algebra.specs.declared.Basis.{Basis}
use Rattle.algebra.specs.declared.Parity.{Parity}
use Rattle.algebra.specs.declared.Parity.TheVariants.{Even, Odd}
use Rattle.counts.specs.declared.choice.SplitStrategy.{SplitStrategy}
use Rattle.walk.specs.Lent.{lent_steps}
use Rattle.walk.specs.declared.plan.Head.{Head}
use Rattle.walk.specs.declared.plan.Step.{Step}
use Rattle.plan.specs.Reported.{of_kind, allowed_in, transform_cost}
use Rattle.plan.specs.PlanCall.{planned_transform, PlanCall, Planned}
use Rattle.demands.specs.Accepts.{BringsPlan}

-- ---- "Encrypted multiplications reported = steps of kind 1 + steps of kind 3 + 0, 1 or 2 for the transform."

-- the lengths of lists, by the places where they end
unfoldable pub lengths_from : (at : ℕ) → (bounds : List ℕ) → List ℕ
lengths_from at [] = []
lengths_from at (bound ∷ bounds) = (bound - at) ∷ lengths_from bound bounds

-- the counts of a head, by steps and the lengths of lists
pub record Reports (head : Head) (lengths : List ℕ) (steps : List Step) : Type 0 where
  pub encrypted : head.ct ≡ of_kind 1 steps + of_kind 3 steps + transform_cost head.transform
  -- the plain ones are the allowed powers from 1 up over all lists, and the steps of kind 4
  pub plain : head.pt ≡ allowed_in head.parity lengths + of_kind 4 steps

-- the steps and boundaries are those that the call left in the lent buffers
abbrev pub PlansReport : Type 0
PlansReport = (strategy : SplitStrategy) (parity : Parity) (basis : Basis) (folded : Bool) (c : List ℤ) (a b : Float) (out : List ℤ)
    (bounds steps : List ℕ) (r : Planned) (out' : List ℤ) (bounds' steps' : List ℕ) → BringsPlan strategy parity basis folded c a b out bounds steps
    → PlanCall strategy parity basis folded c a b out bounds steps r out' bounds' steps'
    → Reports r.head (lengths_from 0 (take r.head.lists bounds')) (lent_steps r.head steps')

-- the transform's are 0 without folding, 1 for Even, 2 for Odd
pub record TransformCosts (basis : Basis) : Type 0 where
  pub unfolded : (parity : Parity) → transform_cost (planned_transform false parity basis) ≡ 0
  pub even : transform_cost (planned_transform true Even basis) ≡ 1
  pub odd : transform_cost (planned_transform true Odd basis) ≡ 2
