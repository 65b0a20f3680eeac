-- Every line gets exactly one answer: a plan, whose first line begins with H, or one line with R and the number of the first test that holds. Its text is
-- whole lines, each with one line feed, at its end.
use Rattle.std.specs.Prelude.{◌≡◌, true, false, List, [], ◌∷◌, ℕ, ◌<◌, length, get_or}
use Rattle.number.specs.Refusal.{RefusalSays}
use Rattle.lines.specs.Bytes.{letter_h}
use Rattle.lines.specs.Line.{fold_in}
use Rattle.texts.specs.Text.{refusal_line}
use Rattle.texts.specs.TextIsLines.{IsLine}
use Rattle.demands.specs.Total.{numbers_of}
use Rattle.answers.specs.Answer.{answer_tests, answer_refusal, planned_lines, answer_lines}

pub record OneAnswer (line : List ℕ) : Type 0 where
  pub planned : answer_refusal line ≡ 0 → answer_lines line ≡ planned_lines line
  pub head_first : get_or (get_or (planned_lines line) 0 []) 0 0 ≡ letter_h
  pub refused : 0 < answer_refusal line → answer_lines line ≡ refusal_line (answer_refusal line) ∷ []
  -- which tests there are, in order, and that a refusal is the first's that holds
  pub says : RefusalSays (answer_tests line)
  pub unfolded : fold_in line ≡ false → numbers_of (answer_tests line) ≡ 12 ∷ 2 ∷ 1 ∷ 4 ∷ 3 ∷ []
  pub with_folding : fold_in line ≡ true → numbers_of (answer_tests line) ≡ 12 ∷ 2 ∷ 1 ∷ 5 ∷ 6 ∷ 4 ∷ 3 ∷ []
  -- whole lines
  pub each : (k : ℕ) → k < length (answer_lines line) → IsLine (get_or (answer_lines line) k [])

-- for any bytes
abbrev pub OneAnswers : Type 0
OneAnswers = (line : List ℕ) → OneAnswer line
