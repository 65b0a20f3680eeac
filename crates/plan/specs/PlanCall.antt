-- The plan call on whole coefficients (docs/RULES.md, "Steps and the walk" and "Refusals"): its tests in order, its answer, and what it leaves in
-- the buffers.
use Rattle.std.specs.Prelude.{◌≡◌, Bool, true, false, Result, List, [], ◌∷◌, ◌++◌, ℕ, Float, ℤ, length}
use Rattle.std.proofs.lemmas.List.Edits.{sets}
use Rattle.algebra.specs.Operations.{whole_ops}
use Rattle.algebra.specs.Fold.{fold}
use Rattle.algebra.specs.Transform.{transform_of}
use Rattle.algebra.specs.declared.Basis.{Basis}
use Rattle.algebra.specs.declared.Parity.{Parity}
use Rattle.algebra.specs.declared.Parity.TheVariants.{Full}
use Rattle.algebra.specs.declared.PolynomialInputTransform.{PolynomialInputTransform}
use Rattle.algebra.specs.declared.PolynomialInputTransform.TheVariants.{Identity}
use Rattle.number.specs.Interval.{change_of_basis}
use Rattle.number.specs.Limits.{plan_limit}
use Rattle.number.specs.Numbers.{whole_numbers}
use Rattle.number.specs.Refusal.{Test, first_refusal, unless_refused}
use Rattle.number.specs.Refused.{numbered}
use Rattle.number.specs.Tests.{degree_of, too_high, no_degree, full_parity, too_low, wrong_parity, too_large, unordered, no_room, no_boundaries, no_steps}
use Rattle.number.specs.declared.refusal.Refusal.{Refusal}
use Rattle.counts.specs.declared.choice.SplitStrategy.{SplitStrategy}
use Rattle.lists.specs.Tree.{Tree, plan_tree}
use Rattle.lists.specs.Arrange.{arranged, ends_of}
use Rattle.walk.specs.WalksHeld.{flat}
use Rattle.walk.specs.declared.plan.Head.{Head}
use Rattle.plan.specs.PlanSteps.{plan_steps}
use Rattle.plan.specs.PlanHead.{head_of, no_head}

-- ---- the answer

-- 0 or the number of the refusal, and the head, which is all zero after a refusal
pub record Planned : Type 0 where
  pub refusal : ℕ
  pub head : Head

-- the answer that a call's result is
abbrev pub planned_in : Result Head Refusal → Planned
planned_in = numbered (λ (head : Head). record { refusal = 0; head = head }) (λ (refusal : ℕ). record { refusal = refusal; head = no_head })

-- ---- what is planned: with folding the fold, of parity Full and behind its transform; without it the polynomial itself

abbrev pub planned_coefficients : (folded : Bool) → Parity → Basis → List ℤ → List ℤ
planned_coefficients true parity basis c = fold whole_ops parity basis c
planned_coefficients false parity basis c = c

abbrev pub planned_parity : (folded : Bool) → Parity → Parity
planned_parity true parity = Full
planned_parity false parity = parity

abbrev pub planned_transform : (folded : Bool) → Parity → Basis → PolynomialInputTransform
planned_transform true parity basis = transform_of parity basis
planned_transform false parity basis = Identity

-- ---- the tests ahead of 21

-- with folding 5, 6
abbrev pub foldable_tests : (folded : Bool) → Parity → (degree : ℕ) → List Test
foldable_tests true parity degree = full_parity parity ∷ too_low parity degree ∷ []
foldable_tests false parity degree = []

-- 2, 1, then these: degree and settings alone decide them
abbrev pub settings_tests : (folded : Bool) → Parity → (degree : ℕ) → List Test
settings_tests folded parity degree = too_high plan_limit degree ∷ no_degree degree ∷ foldable_tests folded parity degree

-- 4, 3: the coefficients decide them
abbrev pub coefficient_tests : Parity → List ℤ → List Test
coefficient_tests parity c = wrong_parity whole_numbers parity c ∷ too_large whole_numbers c ∷ []

-- those, then these
abbrev pub input_tests : (folded : Bool) → Parity → List ℤ → List Test
input_tests folded parity c = settings_tests folded parity (degree_of c) ++ coefficient_tests parity c

-- a polynomial is accepted with its settings if it passes them all
abbrev pub Accepted : (folded : Bool) → Parity → List ℤ → Type 0
Accepted folded parity c = first_refusal (input_tests folded parity c) ≡ 0

-- behind them 7, which the interval decides
abbrev pub early_tests : (folded : Bool) → Parity → List ℤ → (a b : Float) → List Test
early_tests folded parity c a b = input_tests folded parity c ++ (unordered a b ∷ [])

-- ---- the tests from 21 on

-- 21, 22, 23: buffers of so many places, for so many coefficients, lists and steps
abbrev pub buffer_tests : (coefficients lists steps : ℕ) → (room boundaries numbers : ℕ) → List Test
buffer_tests coefficients lists steps room boundaries numbers = no_room room coefficients ∷ no_boundaries boundaries lists ∷ no_steps numbers steps ∷ []

-- ---- the call

module _ (strategy : SplitStrategy) (parity : Parity) (basis : Basis) (folded : Bool) (c : List ℤ) where
  -- the coefficients that are planned, and their degree
  abbrev pub planned : List ℤ
  planned = planned_coefficients folded parity basis c

  abbrev pub planned_degree : ℕ
  planned_degree = degree_of planned

  -- the tree that they are cut by
  abbrev pub tree : Tree
  tree = plan_tree strategy (planned_parity folded parity) basis planned_degree

  -- what is planned: the lists one after another, their boundaries, the numbers of the steps
  abbrev pub coefficients_for : List ℤ
  coefficients_for = arranged whole_ops basis tree planned

  abbrev pub boundaries_for : List ℕ
  boundaries_for = ends_of tree 0 (length planned)

  abbrev pub numbers_for : List ℕ
  numbers_for = flat (plan_steps strategy (planned_parity folded parity) basis planned_degree)

  -- and on the interval from a to b the head, which has it with its change pair, folded or not
  abbrev pub head_for : (a b : Float) → Head
  head_for a b = head_of strategy (planned_parity folded parity) basis (planned_transform folded parity basis) (change_of_basis basis a b) planned_degree

  module _ (a b : Float) (out : List ℤ) (bounds steps : List ℕ) where
    -- the tests of polynomial and interval, then 21, 22, 23
    abbrev pub plan_tests : List Test
    plan_tests =
        early_tests folded parity c a b
        ++ buffer_tests (head_for a b).coefficients (head_for a b).lists (head_for a b).steps (length out) (length bounds) (length steps)

    unfoldable pub plan_refusal : ℕ
    plan_refusal = first_refusal plan_tests

    -- the answer
    unfoldable pub plan_answer : Planned
    plan_answer =
        unless_refused plan_refusal (record { refusal = 0; head = head_for a b }) (record { refusal = plan_refusal; head = no_head })

    -- the buffers: what is planned in their first places, and the places beyond unchanged; after a refusal all of them unchanged
    unfoldable pub plan_coefficients : List ℤ
    plan_coefficients = unless_refused plan_refusal (sets out 0 coefficients_for) out

    unfoldable pub plan_boundaries : List ℕ
    plan_boundaries = unless_refused plan_refusal (sets bounds 0 boundaries_for) bounds

    unfoldable pub plan_numbers : List ℕ
    plan_numbers = unless_refused plan_refusal (sets steps 0 numbers_for) steps

    -- what a call says, and what it leaves in the three buffers
    pub record PlanCall (r : Planned) (out' : List ℤ) (bounds' steps' : List ℕ) : Type 0 where
      pub answer : r ≡ plan_answer
      pub coefficients : out' ≡ plan_coefficients
      pub boundaries : bounds' ≡ plan_boundaries
      pub numbers : steps' ≡ plan_numbers
