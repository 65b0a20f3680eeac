-- What the functions of the plan call ask of one another and leave (docs/RULES.md, "Steps and the walk" and "Refusals").
use Rattle.std.specs.Prelude.{◌≡◌, Bool, true, false, List, ℕ, ◌+◌, ◌-◌, ◌*◌, ◌≤◌, ℤ, length}
use Rattle.std.proofs.lemmas.List.Edits.{sets}
use Rattle.algebra.specs.Fold.{folded_length}
use Rattle.algebra.specs.Magnitude.{sum_abs}
use Rattle.algebra.specs.declared.Basis.{Basis}
use Rattle.algebra.specs.declared.Parity.{Parity}
use Rattle.number.specs.Limits.{plan_limit, sum_limit}
use Rattle.number.specs.Refusal.{first_refusal}
use Rattle.number.specs.Tests.{degree_of}
use Rattle.number.specs.inside.Between.{Between}
use Rattle.number.specs.inside.Folding.{Foldable}
use Rattle.counts.specs.Choice.{split_for}
use Rattle.counts.specs.declared.choice.SplitStrategy.{SplitStrategy}
use Rattle.lists.specs.Tree.{plan_tree}
use Rattle.lists.specs.Arrange.{leaves_of}
use Rattle.plan.specs.PlanSteps.{plan_steps}
use Rattle.plan.specs.PlanCall.{planned_coefficients, planned_parity, buffer_tests, coefficients_for, boundaries_for, numbers_for}
use Rattle.plan.specs.inside.Outlines.{outline_for}
use Rattle.plan.specs.declared.outline.Outline.{Outline}

-- how many of n coefficients are planned
abbrev pub planned_count : (folded : Bool) → Parity → (n : ℕ) → ℕ
planned_count true parity n = folded_length parity n
planned_count false parity n = n

-- what buffers of so many places are refused with, for so many coefficients, lists and steps
unfoldable pub buffer_refusal : (coefficients lists steps : ℕ) → (room boundaries numbers : ℕ) → ℕ
buffer_refusal coefficients lists steps room boundaries numbers = first_refusal (buffer_tests coefficients lists steps room boundaries numbers)

-- a place for each planned coefficient, of which none grows too large
pub record CoefficientsFit (folded : Bool) (parity : Parity) (c out : List ℤ) : Type 0 where
  pub foldable : folded ≡ true → Foldable parity c out
  pub copy_room : folded ≡ false → length c ≤ length out
  pub sum_limit_lem : sum_abs c ≤ sum_limit

-- the coefficients are accepted, their number and split are worked out, and their lists have their places, the boundaries from boundary `list` on
pub record ListsFit (strategy : SplitStrategy) (parity : Parity) (basis : Basis) (folded : Bool) (count split list : ℕ) (c out : List ℤ)
    (bounds : List ℕ) : Type 0 where
  pub coefficients_fit : CoefficientsFit folded parity c out
  pub input_limit : degree_of c ≤ plan_limit
  pub count_is : count ≡ length (planned_coefficients folded parity basis c)
  pub split_is : split ≡ split_for strategy (planned_parity folded parity) basis (count - 1)
  pub degrees : Between 1 (count - 1) plan_limit
  pub room : count ≤ length out
  pub boundary_room : list + leaves_of (plan_tree strategy (planned_parity folded parity) basis (count - 1)) ≤ length bounds

-- the lists stand there, with as many coefficients as are planned
pub record ListsPut (strategy : SplitStrategy) (parity : Parity) (basis : Basis) (folded : Bool) (list : ℕ) (c out : List ℤ) (bounds : List ℕ)
    (out' : List ℤ) (bounds' : List ℕ) : Type 0 where
  pub coefficients : out' ≡ sets out 0 (coefficients_for strategy parity basis folded c)
  pub boundaries : bounds' ≡ sets bounds list (boundaries_for strategy parity basis folded c)
  pub size : length (coefficients_for strategy parity basis folded c) ≡ length (planned_coefficients folded parity basis c)

-- every test is passed, and the number of planned coefficients and their outline are worked out
pub record PlanFits (strategy : SplitStrategy) (parity : Parity) (basis : Basis) (folded : Bool) (count : ℕ) (outline : Outline)
    (c out : List ℤ) (bounds steps : List ℕ) : Type 0 where
  pub coefficients_fit : CoefficientsFit folded parity c out
  pub input_limit : degree_of c ≤ plan_limit
  pub count_is : count ≡ length (planned_coefficients folded parity basis c)
  pub outline_is : outline ≡ outline_for strategy (planned_parity folded parity) basis (count - 1)
  pub degrees : Between 1 (count - 1) plan_limit
  pub room : count ≤ length out
  pub boundary_room : leaves_of (plan_tree strategy (planned_parity folded parity) basis (count - 1)) ≤ length bounds
  pub step_room_lem : 4 * length (plan_steps strategy (planned_parity folded parity) basis (count - 1)) ≤ length steps

-- the buffers hold the plan in their first places
pub record PlanPut (strategy : SplitStrategy) (parity : Parity) (basis : Basis) (folded : Bool) (c out : List ℤ) (bounds steps : List ℕ)
    (out' : List ℤ) (bounds' steps' : List ℕ) : Type 0 where
  pub coefficients : out' ≡ sets out 0 (coefficients_for strategy parity basis folded c)
  pub boundaries : bounds' ≡ sets bounds 0 (boundaries_for strategy parity basis folded c)
  pub numbers : steps' ≡ sets steps 0 (numbers_for strategy parity basis folded c)
