-- A line gets its plan's lines or its refusal's one line, by the definition; each of them is a line, and the first of a plan is the head's.
use mathlib.Core.Path.{◌≡◌, refl, sym}
use mathlib.Core.Bool.{true, false}
use mathlib.Core.List.{List, [], ◌∷◌}
use Prim.Native.Nat.{ℕ, zero, suc, ◌<◌}
use native.Mathlib.Omega.{arith}
use native.Mathlib.Decide.{ℕ_discrete}
use lib.ListN.{length, get_or}
use Rattle.number.proofs.FirstRefusal.{refusals_say, when_accepted, when_refused}
use Rattle.lines.specs.Bytes.{letter_h}
use Rattle.lines.specs.Line.{fold_in, parity_in, coefficients_in}
use Rattle.texts.specs.Text.{line_text, refusal_line}
use Rattle.texts.specs.PlanText.{lines_of}
use Rattle.texts.specs.TextIsLines.{IsLine}
use Rattle.texts.proofs.TextIsLines.{text_is_lines}
use Rattle.demands.specs.Total.{numbers_of}
use Rattle.plan.proofs.PlanTests.{inputs_numbered}
use Rattle.answers.specs.Answer.{answer_tests, answer_refusal, planned_lines, answer_lines}
use Rattle.answers.specs.OneAnswer.{OneAnswers}

module _ (line : List ℕ) where
  planned : answer_refusal line ≡ 0 → answer_lines line ≡ planned_lines line
  unfolding answer_lines
  planned none = sym (when_accepted (planned_lines line) (refusal_line (answer_refusal line) ∷ []) none)

  refused : 0 < answer_refusal line → answer_lines line ≡ refusal_line (answer_refusal line) ∷ []
  unfolding answer_lines
  refused some = sym (when_refused (answer_refusal line) (planned_lines line) (refusal_line (answer_refusal line) ∷ []) some)

  head_first : get_or (get_or (planned_lines line) 0 []) 0 0 ≡ letter_h
  unfolding planned_lines lines_of line_text
  head_first = refl

  planned_each : (k : ℕ) → k < length (planned_lines line) → IsLine (get_or (planned_lines line) k [])
  unfolding planned_lines
  planned_each k within = text_is_lines.plans _ _ _ k within

  refused_each : (refusal k : ℕ) → k < 1 → IsLine (get_or (refusal_line refusal ∷ []) k [])
  refused_each refusal zero within = text_is_lines.refusals refusal
  refused_each refusal (suc k) within = absurd (omega arith)

  each : (k : ℕ) → k < length (answer_lines line) → IsLine (get_or (answer_lines line) k [])
  each k within = by_refusal (ℕ_discrete (answer_refusal line) 0)
    where
      by_refusal : Dec (answer_refusal line ≡ 0) → IsLine (get_or (answer_lines line) k [])
      by_refusal (yes none) = rw (planned none) (planned_each k (rw (planned none) at within))
      by_refusal (no some) =
          let is = refused (omega arith) in
          rw is (refused_each (answer_refusal line) k (rw is at within))

-- the numbers of the tests
numbers_unfolded : (line : List ℕ) → fold_in line ≡ false → numbers_of (answer_tests line) ≡ 12 ∷ 2 ∷ 1 ∷ 4 ∷ 3 ∷ []
numbers_unfolded line e = rw e

numbers_folded : (line : List ℕ) → fold_in line ≡ true → numbers_of (answer_tests line) ≡ 12 ∷ 2 ∷ 1 ∷ 5 ∷ 6 ∷ 4 ∷ 3 ∷ []
numbers_folded line e = rw e

pub one_answers : OneAnswers
one_answers line = record {
  planned = planned line;
  head_first = head_first line;
  refused = refused line;
  says = refusals_say (answer_tests line) (omega arith, inputs_numbered (fold_in line) (parity_in line) (coefficients_in line));
  unfolded = numbers_unfolded line;
  with_folding = numbers_folded line;
  each = each line;
}
