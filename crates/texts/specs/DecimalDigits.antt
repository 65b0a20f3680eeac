-- The text of a number is its decimal digits: read as a line's digits are they give the number, and the first is 0 only for the number 0.
use Rattle.std.specs.Prelude.{◌≡◌, true, ℕ, get_or}
use Rattle.lines.specs.Bytes.{digit0}
use Rattle.lines.specs.Whole.{are_digits, number_of}
use Rattle.texts.specs.Decimal.{decimal}

pub record DecimalDigits : Type 0 where
  pub digits : (n : ℕ) → are_digits (decimal n) ≡ true
  pub value : (n : ℕ) → number_of (decimal n) ≡ n
  pub no_leading_zero : (n : ℕ) → get_or (decimal n) 0 0 ≡ digit0 → n ≡ 0
