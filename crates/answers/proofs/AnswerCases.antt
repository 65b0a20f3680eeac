-- The two kinds of answers. The test of a line's form comes first, so that a line that isn't refused asks for the plan of an accepted polynomial, and its
-- text is that plan's. Any other line's is that of its refusal, a number of at most 12.
use mathlib.Core.Path.{◌≡◌, ap, sym, ◌∙◌}
use mathlib.Core.Bool.{true, false}
use mathlib.Core.List.{List, [], ◌∷◌, append-nil}
use Prim.Native.Nat.{ℕ, ◌<◌, ◌≤◌}
use native.Mathlib.Omega.{arith}
use Rattle.number.specs.Refusal.{Test, first_refusal}
use Rattle.number.proofs.FirstRefusal.{first_most, when_refused, when_accepted}
use Rattle.lists.specs.Lists.{joined}
use Rattle.plan.specs.PlanCall.{input_tests, Accepted}
use Rattle.plan.proofs.PlanTests.{inputs_to}
use Rattle.lines.specs.Line.{parity_in, fold_in, coefficients_in}
use Rattle.lines.specs.ReadLine.{bad_line}
use Rattle.texts.specs.Text.{refusal_line}
use Rattle.answers.specs.Answer.{answer_tests, answer_refusal, planned_lines, answer_lines, answer_text}

-- a line that isn't refused asks for the plan of an accepted polynomial
later_pass : (test : Test) (tests : List Test) → 0 < test.1 → first_refusal (test ∷ tests) ≡ 0 → first_refusal tests ≡ 0
later_pass (true, k) tests numbered none = absurd (omega (arith, numbered))
later_pass (false, k) tests numbered none = none

pub line_accepted : (line : List ℕ) → answer_refusal line ≡ 0 → Accepted (fold_in line) (parity_in line) (coefficients_in line)
unfolding answer_refusal
line_accepted line none = later_pass (bad_line line) (input_tests (fold_in line) (parity_in line) (coefficients_in line)) (omega arith) none

-- a refusal is the number of one of the tests, which are at most 12
pub refusal_most : (line : List ℕ) → answer_refusal line ≤ 12
unfolding answer_refusal
refusal_most line = first_most 12 (answer_tests line) (omega arith, inputs_to 12 (omega arith) (fold_in line) (parity_in line) (coefficients_in line))

-- the text, by the refusal
pub text_planned : (line : List ℕ) → answer_refusal line ≡ 0 → answer_text line ≡ joined (planned_lines line)
unfolding answer_text answer_lines
text_planned line none = ap joined (sym (when_accepted (planned_lines line) (refusal_line (answer_refusal line) ∷ []) none))

pub text_refused : (line : List ℕ) → 0 < answer_refusal line → answer_text line ≡ refusal_line (answer_refusal line)
unfolding answer_text answer_lines joined
text_refused line some =
    ap joined (sym (when_refused (answer_refusal line) (planned_lines line) (refusal_line (answer_refusal line) ∷ []) some))
    ∙ append-nil (refusal_line (answer_refusal line))
