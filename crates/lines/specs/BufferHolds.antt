-- What reading a line leaves in the buffer, said in full.
use Rattle.std.specs.Prelude.{◌≡◌, true, List, ◌++◌, ℕ, ◌≤◌, ℤ, length, take, drop}
use Rattle.lines.specs.Line.{is_line, coefficients_in}
use Rattle.lines.specs.ReadLine.{line_buffer}

-- as many coefficients as it has places for, and behind them what was there; with a place for each, all of them can be read back
pub record BufferHolds (line : List ℕ) (buffer : List ℤ) : Type 0 where
  pub all : line_buffer line buffer ≡ take (length buffer) (coefficients_in line) ++ drop (length (coefficients_in line)) buffer
  pub back : length (coefficients_in line) ≤ length buffer → take (length (coefficients_in line)) (line_buffer line buffer) ≡ coefficients_in line

-- for every line in the form
abbrev pub BuffersHold : Type 0
BuffersHold = (line : List ℕ) (buffer : List ℤ) → is_line line ≡ true → BufferHolds line buffer
