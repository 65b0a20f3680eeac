-- The interval in the head (request Q-7). The head's definition has it. Refusal 7 comes of no other test: those of the polynomial have lower numbers, and
-- those of the buffers higher ones. Of two intervals with their bounds in order neither is refused, and the head's other fields and the buffers are
-- defined without them.
use mathlib.Core.Path.{◌≡◌, refl, ap, sym, ◌∙◌}
use mathlib.Core.Bool.{Bool, true, false}
use mathlib.Core.List.{List, [], ◌∷◌}
use Prim.Native.Nat.{ℕ, zero, suc, ◌*◌}
use native.Mathlib.Omega.{arith}
use lib.Dec.{ltb}
use lib.Ieee.{Float, lt}
use lib.IntN.{ℤ}
use lib.ListN.{length}
use lib.Seq.{sets}
use Rattle.algebra.specs.declared.Basis.{Basis}
use Rattle.algebra.specs.declared.Parity.{Parity}
use Rattle.number.specs.Interval.{Ordered}
use Rattle.number.specs.Refusal.{first_refusal, unless_refused}
use Rattle.number.proofs.FirstRefusal.{first_kept, first_most}
use Rattle.counts.specs.declared.choice.SplitStrategy.{SplitStrategy}
use Rattle.walk.specs.IntervalUnread.{SameButInterval}
use Rattle.walk.specs.declared.plan.Head.{Head}
use Rattle.plan.specs.PlanHead.{head_of, no_head}
use Rattle.plan.specs.PlanCall.{input_tests, Accepted, early_tests, head_for, coefficients_for, boundaries_for, numbers_for, Planned}
use Rattle.plan.specs.PlanCall.{plan_refusal, plan_answer, plan_coefficients, plan_boundaries, plan_numbers}
use Rattle.plan.proofs.PlanTests.{inputs_to, early_kept, early_unordered}
use Rattle.demands.specs.HeadInterval.{IntervalsTold, UnorderedRefused, PlansAlike}
use Rattle.demands.proofs.HeadTold.{heads_told}
use Rattle.demands.proofs.Refusals.{late_tests, late_refusal}
use Rattle.demands.proofs.Total.{refusal_is}

pub intervals_told : IntervalsTold
intervals_told strategy parity basis folded c a b out bounds steps r out' bounds' steps' brings call =
    (heads_told strategy parity basis folded c a b out bounds steps r out' bounds' steps' brings call).interval_is

-- ---- refusal 7

-- a refusal of the buffers has another number
late_not_seven : (short few less : Bool) → first_refusal ((short, 21) ∷ (few, 22) ∷ (less, 23) ∷ []) ≡ 7 → ⊥
late_not_seven true few less seven = omega arith
late_not_seven false true less seven = omega arith
late_not_seven false false true seven = omega arith
late_not_seven false false false seven = omega arith

module _ (strategy : SplitStrategy) (parity : Parity) (basis : Basis) (folded : Bool) (c : List ℤ) (a b : Float) (out : List ℤ)
    (bounds steps : List ℕ) where
  abbrev refusal : ℕ
  refusal = plan_refusal strategy parity basis folded c a b out bounds steps

  seven_accepted : refusal ≡ 7 → Accepted folded parity c
  unfolding plan_refusal
  seven_accepted seven = by_input (first_refusal (input_tests folded parity c)) refl
    where
      by_input : (k : ℕ) → first_refusal (input_tests folded parity c) ≡ k → Accepted folded parity c
      by_input zero none = none
      by_input (suc k) some =
          let most = first_most 6 (input_tests folded parity c) (inputs_to 6 (omega arith) folded parity c) in
          let kept = early_kept folded parity c a b (omega arith) in
          let first = first_kept (early_tests folded parity c a b) (late_tests strategy parity basis folded c a b out bounds steps) (omega arith) in
          absurd (omega (arith, first, kept, most, seven))

  seven_unordered : refusal ≡ 7 → lt a b ≡ false
  seven_unordered seven = by_order (lt a b) refl
    where
      by_order : (below : Bool) → lt a b ≡ below → lt a b ≡ false
      by_order true ordered =
          let head = head_for strategy parity basis folded c a b in
          let late = late_refusal strategy parity basis folded c a b out bounds steps (seven_accepted seven) ordered in
          absurd (late_not_seven (ltb (length out) head.coefficients) (ltb (length bounds) head.lists) (ltb (length steps) (4 * head.steps))
          (sym late ∙ seven))
      by_order false unordered = unordered

  unordered_seven : Accepted folded parity c → lt a b ≡ false → refusal ≡ 7
  unfolding plan_refusal
  unordered_seven accepted unordered =
      let early = early_unordered folded parity c a b accepted unordered in
      first_kept (early_tests folded parity c a b) _ (omega arith) ∙ early

pub unordered_refused : UnorderedRefused
unordered_refused strategy parity basis folded c a b out bounds steps r out' bounds' steps' call =
    let same = refusal_is strategy parity basis folded c a b out bounds steps r out' bounds' steps' call in (
      λ seven. let is = sym same ∙ seven in
          (seven_accepted strategy parity basis folded c a b out bounds steps is, seven_unordered strategy parity basis folded c a b out bounds steps is),
      λ both. same ∙ unordered_seven strategy parity basis folded c a b out bounds steps both.0 both.1,
    )

-- ---- any two intervals

module _ (strategy : SplitStrategy) (parity : Parity) (basis : Basis) (folded : Bool) (c : List ℤ) (a b a' b' : Float) where
  heads_alike : SameButInterval (head_for strategy parity basis folded c a b) (head_for strategy parity basis folded c a' b')
  unfolding head_of
  heads_alike = refl

  module _ (out : List ℤ) (bounds steps : List ℕ) (ordered : Ordered a b) (ordered' : Ordered a' b') where
    refusals_alike : plan_refusal strategy parity basis folded c a b out bounds steps ≡ plan_refusal strategy parity basis folded c a' b' out bounds steps
    unfolding plan_refusal head_of
    refusals_alike = rw (ordered, ordered')

-- whatever their refusal is, the heads of two answers are alike
answers_alike : (k : ℕ) (head other : Head) → SameButInterval head other
    → SameButInterval (unless_refused {X = Planned} k (record { refusal = 0; head = head }) (record { refusal = k; head = no_head })).head
    (unless_refused {X = Planned} k (record { refusal = 0; head = other }) (record { refusal = k; head = no_head })).head
unfolding unless_refused
answers_alike zero head other same = same
answers_alike (suc k) head other same = refl

pub plans_alike : PlansAlike
unfolding plan_answer plan_coefficients plan_boundaries plan_numbers
plans_alike strategy parity basis folded c a b a' b' out bounds steps r other out' out'' bounds' bounds'' steps' steps'' ordered ordered' call call' =
    let same = refusals_alike strategy parity basis folded c a b a' b' out bounds steps ordered ordered' in
    record {
      refusal = refusal_is strategy parity basis folded c a b out bounds steps r out' bounds' steps' call ∙ same
          ∙ sym (refusal_is strategy parity basis folded c a' b' out bounds steps other out'' bounds'' steps'' call');
      heads = rw (call.answer, call'.answer, same) (answers_alike _ _ _ (heads_alike strategy parity basis folded c a b a' b'));
      coefficients = call.coefficients
          ∙ ap (λ (k : ℕ). unless_refused k (sets out 0 (coefficients_for strategy parity basis folded c)) out) same ∙ sym call'.coefficients;
      boundaries = call.boundaries
          ∙ ap (λ (k : ℕ). unless_refused k (sets bounds 0 (boundaries_for strategy parity basis folded c)) bounds) same ∙ sym call'.boundaries;
      numbers = call.numbers
          ∙ ap (λ (k : ℕ). unless_refused k (sets steps 0 (numbers_for strategy parity basis folded c)) steps) same ∙ sym call'.numbers;
    }
