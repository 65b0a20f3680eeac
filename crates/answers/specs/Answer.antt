-- The answer to a line (docs/RULES.md, "Lines of planlines" and "Refusals"): the lines of its plan, or R and the number of a refusal.
use Rattle.std.specs.Prelude.{List, [], ◌∷◌, ℕ}
use Rattle.number.specs.Refusal.{Test, first_refusal, unless_refused}
use Rattle.lists.specs.Lists.{joined}
use Rattle.plan.specs.PlanCall.{input_tests, head_for}
use Rattle.lines.specs.Line.{basis_in, parity_in, strategy_in, fold_in, coefficients_in}
use Rattle.lines.specs.ReadLine.{bad_line}
use Rattle.texts.specs.Text.{refusal_line}
use Rattle.texts.specs.PlanText.{lines_of}
use Rattle.demands.specs.Right.{lists_for, steps_for}
use Rattle.answers.specs.LineInterval.{minus_one, plus_one}

-- the tests of a line in order: 12 for its form, then those of the plan that it asks for
abbrev pub answer_tests : (line : List ℕ) → List Test
answer_tests line = bad_line line ∷ input_tests (fold_in line) (parity_in line) (coefficients_in line)

unfoldable pub answer_refusal : (line : List ℕ) → ℕ
answer_refusal line = first_refusal (answer_tests line)

-- the lines of the plan of a line's coefficients, by its settings, on the interval of lines
unfoldable pub planned_lines : (line : List ℕ) → List (List ℕ)
planned_lines line =
    lines_of (head_for (strategy_in line) (parity_in line) (basis_in line) (fold_in line) (coefficients_in line) minus_one plus_one)
    (lists_for (strategy_in line) (parity_in line) (basis_in line) (fold_in line) (coefficients_in line))
    (steps_for (strategy_in line) (parity_in line) (basis_in line) (fold_in line) (coefficients_in line))

-- the lines of the answer: those of the plan, or after a refusal its one line
unfoldable pub answer_lines : (line : List ℕ) → List (List ℕ)
answer_lines line = unless_refused (answer_refusal line) (planned_lines line) (refusal_line (answer_refusal line) ∷ [])

-- its text
unfoldable pub answer_text : (line : List ℕ) → List ℕ
answer_text line = joined (answer_lines line)
