-- "Stored plans must keep their meaning." A plan that was stored before request Q-2 may have kind 3 where today's has kind 4, and its head has the counts
-- of that time. The walk reads no count, and combines alike by both kinds: so the trial walk gives the right value of such a plan too.
use Rattle.std.specs.Prelude.{◌≡◌, Bool, cond, List, ◌++◌, map, ℕ, ◌*◌, ◌≤◌, eqb, ℤ, length}
use Rattle.algebra.specs.declared.Basis.{Basis}
use Rattle.algebra.specs.declared.Parity.{Parity}
use Rattle.counts.specs.declared.choice.SplitStrategy.{SplitStrategy}
use Rattle.walk.specs.Lent.{lent_steps}
use Rattle.walk.specs.declared.plan.Head.{Head}
use Rattle.walk.specs.declared.plan.Step.{Step}
use Rattle.plan.specs.PlanCall.{planned_parity, planned_transform, Accepted, coefficients_for, boundaries_for}
use Rattle.plan.specs.PlanSizes.{sizes_for}
use Rattle.demands.specs.Right.{steps_for, WalksRight}

-- a step, a plain combine being taken as any other
abbrev pub any_combine : Step → Step
any_combine step = record { kind = cond (eqb step.kind 4) 3 step.kind; x = step.x; y = step.y; z = step.z }

-- a head and buffers with a plan of c in their first places, behind it anything: each combine may be of kind 3 or 4, and the head's other fields anything
pub record StoredEarlier (strategy : SplitStrategy) (parity : Parity) (basis : Basis) (folded : Bool) (c : List ℤ) (head : Head)
    (coefficients : List ℤ) (bounds steps : List ℕ) : Type 0 where
  pub basis_is : head.basis ≡ basis
  pub parity_is : head.parity ≡ planned_parity folded parity
  pub transform_is : head.transform ≡ planned_transform folded parity basis
  pub coefficient_count_lem : head.coefficients ≡ (sizes_for strategy parity basis folded c).coefficients
  pub list_count_lem : head.lists ≡ (sizes_for strategy parity basis folded c).lists
  pub more_coefficients : List ℤ
  pub more_bounds : List ℕ
  pub coefficients_are : coefficients ≡ coefficients_for strategy parity basis folded c ++ more_coefficients
  pub bounds_are : bounds ≡ boundaries_for strategy parity basis folded c ++ more_bounds
  pub step_places : 4 * head.steps ≤ length steps
  pub steps_are : map any_combine (lent_steps head steps) ≡ map any_combine (steps_for strategy parity basis folded c)

abbrev pub EarlierRight : Type 0
EarlierRight = (strategy : SplitStrategy) (parity : Parity) (basis : Basis) (folded : Bool) (c : List ℤ) (head : Head) (coefficients : List ℤ)
    (bounds steps : List ℕ) (x : ℤ) → Accepted folded parity c → StoredEarlier strategy parity basis folded c head coefficients bounds steps
    → WalksRight head coefficients bounds steps basis c x
