-- No answer is longer than a fixed number of bytes, so that a buffer of that size has room for each.
use Rattle.std.specs.Prelude.{List, ℕ, ◌≤◌, length}
use Rattle.answers.specs.Limits.{text_limit}
use Rattle.answers.specs.Answer.{answer_text}

abbrev pub TextFits : Type 0
TextFits = (line : List ℕ) → length (answer_text line) ≤ text_limit
