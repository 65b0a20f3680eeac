-- What the program holds between two reads: the bytes of the line that the input so far doesn't end. What it writes in between stands in the contract of
-- `answer_block`.
use Rattle.std.specs.Prelude.{◌≡◌, true, List, ℕ, ◌≤◌, length, take}
use Rattle.answers.specs.Turns.{turn_held}
use Rattle.planlines.specs.declared.block.Answered.{Answered}

-- the first `held` bytes of `line` were held before the block, and the first r.held of `line'` are held behind it
pub record AnswerBlock (block line : List ℕ) (held : ℕ) (line' : List ℕ) (r : Answered) : Type 0 where
  pub within : r.held ≤ length line
  pub line_held : r.written ≡ true → take r.held line' ≡ turn_held (take held line) block
