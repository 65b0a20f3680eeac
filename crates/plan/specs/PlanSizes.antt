-- The sizes of a plan before its curve is there (docs/RULES.md, "The sizes of a plan"): degree and settings alone decide how many coefficients, lists
-- and steps it has, and so how long its buffers must be.
use Rattle.std.specs.Prelude.{Bool, true, false, Result, List, ℕ, suc, ◌+◌, ◌-◌, ◌*◌, ◌/◌, ◌≤◌, ℤ}
use Rattle.algebra.specs.declared.Basis.{Basis}
use Rattle.algebra.specs.declared.Parity.{Parity}
use Rattle.algebra.specs.declared.Parity.TheVariants.{Full, Even, Odd}
use Rattle.number.specs.Refusal.{first_refusal, unless_refused}
use Rattle.number.specs.Refused.{numbered}
use Rattle.number.specs.declared.refusal.Refusal.{Refusal}
use Rattle.needed.specs.NeededList.{needed_count}
use Rattle.counts.specs.Choice.{split_for}
use Rattle.counts.specs.declared.choice.SplitStrategy.{SplitStrategy}
use Rattle.lists.specs.Tree.{plan_tree}
use Rattle.lists.specs.Arrange.{leaves_of}
use Rattle.walk.specs.declared.plan.Head.{Head}
use Rattle.plan.specs.PlanCall.{planned_parity, settings_tests, planned_degree}
use Rattle.plan.specs.declared.sizes.Sizes.{Sizes}

-- ---- the answer

-- 0 or the number of the refusal, and how many coefficients, lists and steps a plan has, which are zero after a refusal
pub record PlanSizes : Type 0 where
  pub refusal : ℕ
  pub coefficients : ℕ
  pub lists : ℕ
  pub steps : ℕ

-- ---- the degree that is planned

-- of a fold: half the degree, for Odd of one less
abbrev pub folded_degree : Parity → (degree : ℕ) → ℕ
folded_degree Full degree = degree
folded_degree Even degree = degree / 2
folded_degree Odd degree = (degree - 1) / 2

-- with folding that of the fold, without it the degree itself
abbrev pub degree_to_plan : (folded : Bool) → Parity → (degree : ℕ) → ℕ
degree_to_plan true parity degree = folded_degree parity degree
degree_to_plan false parity degree = degree

-- ---- the sizes of a degree

-- a step makes each needed power, one loads each list, and a combine takes up each list but the first
abbrev pub step_count : (powers lists : ℕ) → ℕ
step_count powers lists = powers + lists + (lists - 1)

-- one coefficient more than the degree, the lists of its tree, and the steps of its needed powers and lists
unfoldable pub sizes_of : SplitStrategy → Parity → Basis → (degree : ℕ) → PlanSizes
sizes_of strategy parity basis degree = record {
  refusal = 0;
  coefficients = suc degree;
  lists = leaves_of (plan_tree strategy parity basis degree);
  steps = step_count (needed_count parity basis degree (split_for strategy parity basis degree)) (leaves_of (plan_tree strategy parity basis degree));
}

-- those of the plan of a polynomial
abbrev pub sizes_for : SplitStrategy → Parity → Basis → (folded : Bool) → List ℤ → PlanSizes
sizes_for strategy parity basis folded c = sizes_of strategy (planned_parity folded parity) basis (planned_degree strategy parity basis folded c)

-- those that a head tells
abbrev pub sizes_in : Head → PlanSizes
sizes_in head = record { refusal = 0; coefficients = head.coefficients; lists = head.lists; steps = head.steps }

-- after a refusal zeros
abbrev pub no_sizes : (refusal : ℕ) → PlanSizes
no_sizes refusal = record { refusal = refusal; coefficients = 0; lists = 0; steps = 0 }

-- the answer that a call's result is
abbrev pub plan_sizes_in : Result Sizes Refusal → PlanSizes
plan_sizes_in =
    numbered (λ (s : Sizes). record { refusal = 0; coefficients = s.coefficients; lists = s.lists; steps = s.steps }) no_sizes

-- buffers with so many places have these sizes: a place for each coefficient, a boundary for each list, four numbers for each step
pub record HasSizes (sizes : PlanSizes) (out bounds steps : ℕ) : Type 0 where
  pub coefficients : sizes.coefficients ≤ out
  pub boundaries : sizes.lists ≤ bounds
  pub numbers : 4 * sizes.steps ≤ steps

-- ---- the call

-- the first test that holds: 2, 1, with folding 5, 6
abbrev pub sizes_refusal : (folded : Bool) → Parity → (degree : ℕ) → ℕ
sizes_refusal folded parity degree = first_refusal (settings_tests folded parity degree)

-- `plan_sizes`: the sizes of what is planned
unfoldable pub sizes_call : SplitStrategy → Parity → Basis → (folded : Bool) → (degree : ℕ) → PlanSizes
sizes_call strategy parity basis folded degree =
    let refusal : ℕ = sizes_refusal folded parity degree in
    unless_refused refusal (sizes_of strategy (planned_parity folded parity) basis (degree_to_plan folded parity degree)) (no_sizes refusal)
