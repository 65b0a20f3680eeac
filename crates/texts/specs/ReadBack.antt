-- A printed number that a coefficient's 18 digits are enough for is read back: its text has the form of a coefficient, and says the number again.
use Rattle.std.specs.Prelude.{◌≡◌, true, ◌<◌, ◌^◌, ℤ, nat_abs}
use Rattle.lines.specs.Limits.{digit_limit}
use Rattle.lines.specs.Whole.{is_whole, value_of}
use Rattle.texts.specs.Decimal.{signed_decimal}

pub record ReadBack (z : ℤ) : Type 0 where
  pub in_form : is_whole (signed_decimal z) ≡ true
  pub value : value_of (signed_decimal z) ≡ z

abbrev pub NumbersReadBack : Type 0
NumbersReadBack = (z : ℤ) → nat_abs z < 10 ^ digit_limit → ReadBack z
