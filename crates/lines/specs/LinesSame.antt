-- Two lines with the same settings and the same coefficients are read alike, however their numbers are written.
use Rattle.std.specs.Prelude.{◌≡◌, true, List, ℕ, ℤ}
use Rattle.lines.specs.Line.{is_line, basis_in, parity_in, strategy_in, fold_in, coefficients_in}
use Rattle.lines.specs.ReadLine.{line_answer, line_buffer}

-- two lines in the form with the same settings and coefficients
pub record SameContent (one other : List ℕ) : Type 0 where
  pub one_is : is_line one ≡ true
  pub other_is : is_line other ≡ true
  pub basis : basis_in one ≡ basis_in other
  pub parity : parity_in one ≡ parity_in other
  pub strategy : strategy_in one ≡ strategy_in other
  pub fold : fold_in one ≡ fold_in other
  pub coefficients : coefficients_in one ≡ coefficients_in other

-- the same answer, and the same left in the buffer
pub record SameReading (one other : List ℕ) : Type 0 where
  pub answer : line_answer one ≡ line_answer other
  pub buffer : (buffer : List ℤ) → line_buffer one buffer ≡ line_buffer other buffer

abbrev pub LinesSame : Type 0
LinesSame = (one other : List ℕ) → SameContent one other → SameReading one other
