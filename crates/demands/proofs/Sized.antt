-- The sizes of degree and settings are those of every plan (request Q-1). What is planned of a polynomial has the degree that its own degree and the
-- settings say, so the head tells these sizes, whatever its interval, and the tests of the buffers are made against them; and the tests of the settings
-- are the first that a plan call makes.
use mathlib.Core.Path.{◌≡◌, refl, ap, sym, subst, ◌∙◌}
use mathlib.Core.Bool.{Bool}
use mathlib.Core.List.{List}
use Prim.Native.Nat.{ℕ, zero, suc, ◌-◌, ◌<◌}
use native.Mathlib.Omega.{arith}
use lib.Ieee.{Float}
use lib.IntN.{ℤ}
use lib.ListN.{length}
use Rattle.algebra.specs.declared.Basis.{Basis}
use Rattle.algebra.specs.declared.Parity.{Parity}
use Rattle.number.specs.Interval.{Ordered}
use Rattle.number.specs.Refusal.{Test, first_refusal}
use Rattle.number.specs.Tests.{degree_of}
use Rattle.number.proofs.FirstRefusal.{first_kept, refusal_of, when_accepted}
use Rattle.counts.specs.declared.choice.SplitStrategy.{SplitStrategy}
use Rattle.plan.specs.PlanCall.{planned_parity, settings_tests, coefficient_tests, input_tests, Accepted, early_tests, buffer_tests, planned_degree, Planned}
use Rattle.plan.specs.PlanCall.{head_for, plan_refusal}
use Rattle.plan.specs.PlanSizes.{degree_to_plan, sizes_for, sizes_in, sizes_of, HasSizes, sizes_refusal, sizes_call, PlanSizes}
use Rattle.plan.proofs.PlanTests.{settings_accepted, planned_length, degree_planned, early_kept, early_accepted, early_ordered, early_most}
use Rattle.demands.specs.Accepts.{BringsPlan}
use Rattle.demands.specs.Sized.{PlansSized, SizesOrder}
use Rattle.demands.proofs.Refusals.{sizes_told, late_tests, late_refusal, plan_made_lem, made_brings}
use Rattle.demands.proofs.Right.{plans_right}
use Rattle.demands.proofs.Total.{refusal_is}

-- the tests of three buffers against sizes
abbrev tests_of : PlanSizes → (out : List ℤ) → (bounds steps : List ℕ) → List Test
tests_of sizes out bounds steps = buffer_tests sizes.coefficients sizes.lists sizes.steps (length out) (length bounds) (length steps)

-- settings that are refused are refused ahead of coefficients and interval
pub settings_decide : (folded : Bool) (parity : Parity) (c : List ℤ) (a b : Float) → 0 < first_refusal (settings_tests folded parity (degree_of c))
    → first_refusal (early_tests folded parity c a b) ≡ first_refusal (settings_tests folded parity (degree_of c))
settings_decide folded parity c a b some =
    let input : first_refusal (input_tests folded parity c) ≡ first_refusal (settings_tests folded parity (degree_of c)) =
    first_kept (settings_tests folded parity (degree_of c)) (coefficient_tests parity c) some in
    early_kept folded parity c a b (omega (arith, input)) ∙ input

module _ (strategy : SplitStrategy) (parity : Parity) (basis : Basis) (folded : Bool) (c : List ℤ) where
  abbrev sizes : PlanSizes
  sizes = sizes_call strategy parity basis folded (degree_of c)

  -- what is planned has the degree of the sizes
  degree_same : planned_degree strategy parity basis folded c ≡ degree_to_plan folded parity (degree_of c)
  degree_same = ap (λ (n : ℕ). n - 1) (planned_length folded parity basis c) ∙ degree_planned folded parity (length c)

  -- so the sizes of an accepted polynomial's plan are these
  plan_sizes : Accepted folded parity c → sizes_for strategy parity basis folded c ≡ sizes
  unfolding sizes_call
  plan_sizes accepted =
      ap (sizes_of strategy (planned_parity folded parity) basis) degree_same ∙ when_accepted _ _ (settings_accepted folded parity c accepted)

  -- their refusal is that of the settings
  sizes_refusal_lem : sizes.refusal ≡ sizes_refusal folded parity (degree_of c)
  unfolding sizes_call sizes_of
  sizes_refusal_lem = refusal_of (sizes_refusal folded parity (degree_of c)) _ _ (λ (s : PlanSizes). s.refusal) refl refl

  module _ (a b : Float) (out : List ℤ) (bounds steps : List ℕ) where
    abbrev refusal : ℕ
    refusal = plan_refusal strategy parity basis folded c a b out bounds steps

    abbrev early : ℕ
    early = first_refusal (early_tests folded parity c a b)

    -- a plan's head tells them, and its buffers have them
    head_tells : BringsPlan strategy parity basis folded c a b out bounds steps → sizes_in (head_for strategy parity basis folded c a b) ≡ sizes
    head_tells brings = sizes_told strategy parity basis folded c a b ∙ plan_sizes brings.accepted

    has_sizes : BringsPlan strategy parity basis folded c a b out bounds steps → HasSizes sizes (length out) (length bounds) (length steps)
    has_sizes brings =
        subst (λ (s : PlanSizes). HasSizes s (length out) (length bounds) (length steps)) (plan_sizes brings.accepted) brings.long_enough

    made_long_enough : Accepted folded parity c → Ordered a b → HasSizes sizes (length out) (length bounds) (length steps) → refusal ≡ 0
    made_long_enough accepted ordered long =
        plan_made_lem strategy parity basis folded c a b out bounds steps
        (record { accepted = accepted; ordered = ordered; long_enough = rw (plan_sizes accepted) long })

    tests_same : Accepted folded parity c → Ordered a b → refusal ≡ first_refusal (tests_of sizes out bounds steps)
    tests_same accepted ordered =
        late_refusal strategy parity basis folded c a b out bounds steps accepted ordered
        ∙ ap (λ (s : PlanSizes). first_refusal (tests_of s out bounds steps)) (sizes_told strategy parity basis folded c a b ∙ plan_sizes accepted)

    -- with buffers of these sizes polynomial and interval decide
    early_decides : HasSizes sizes (length out) (length bounds) (length steps) → refusal ≡ early
    unfolding plan_refusal
    early_decides long = by_early early refl
      where
        by_early : (k : ℕ) → early ≡ k → refusal ≡ early
        by_early zero none = made_long_enough (early_accepted folded parity c a b none) (early_ordered folded parity c a b none) long ∙ sym none
        by_early (suc k) some = first_kept (early_tests folded parity c a b) _ (omega arith)

    -- where the settings are refused, they are refused first
    settings_first : 0 < sizes.refusal → refusal ≡ sizes.refusal
    unfolding plan_refusal
    settings_first some =
        let kept : early ≡ sizes_refusal folded parity (degree_of c) = settings_decide folded parity c a b (omega (arith, sizes_refusal_lem, some)) in
        first_kept (early_tests folded parity c a b) (late_tests strategy parity basis folded c a b out bounds steps)
        (omega (arith, kept, sizes_refusal_lem, some))
        ∙ kept
        ∙ sym sizes_refusal_lem

pub plans_sized : PlansSized
plans_sized strategy parity basis folded c a b out bounds steps r out' bounds' steps' call =
    let same = refusal_is strategy parity basis folded c a b out bounds steps r out' bounds' steps' call in
    record {
      head_sizes = λ made.
          let brings = made_brings strategy parity basis folded c a b out bounds steps (sym same ∙ made) in
          let right = plans_right strategy parity basis folded c a b out bounds steps r out' bounds' steps' brings call in
          ap (λ (p : Planned). sizes_in p.head) right.answer ∙ head_tells strategy parity basis folded c a b out bounds steps brings;
      planned_if_long = λ accepted ordered. (
        λ made. has_sizes strategy parity basis folded c a b out bounds steps
            (made_brings strategy parity basis folded c a b out bounds steps (sym same ∙ made)),
        λ long. same ∙ made_long_enough strategy parity basis folded c a b out bounds steps accepted ordered long,
      );
      short_refused = λ accepted ordered. same ∙ tests_same strategy parity basis folded c a b out bounds steps accepted ordered;
      long_decides = λ long. same ∙ early_decides strategy parity basis folded c a b out bounds steps long;
      never_short = λ long.
          let decides = same ∙ early_decides strategy parity basis folded c a b out bounds steps long in
          let most = early_most folded parity c a b in
          omega arith;
      settings_refused = λ some. same ∙ settings_first strategy parity basis folded c a b out bounds steps some;
    }

pub sizes_order : (parity : Parity) (degree : ℕ) → SizesOrder parity degree
sizes_order parity degree = record { unfolded = refl; with_folding = refl }
