-- A coefficient may be written in several ways (docs/RULES.md, "Lines of planlines"): leading zeros change no value, and `-0` is 0.
use Rattle.std.specs.Prelude.{◌≡◌, true, List, [], ◌∷◌, ℕ, zero, suc, ◌+◌, ◌≤◌, pos, length}
use Rattle.lines.specs.Bytes.{minus, digit0}
use Rattle.lines.specs.Limits.{digit_limit}
use Rattle.lines.specs.Whole.{is_number, is_whole, value_of}

-- n zeros in front of bytes
abbrev pub zeros : (n : ℕ) → List ℕ → List ℕ
zeros zero bs = bs
zeros (suc n) bs = digit0 ∷ zeros n bs

-- digits with zeros in front of them, up to 18 in all, are a whole number, with a minus and without; and its value is that of the digits
pub record SpelledSame (n : ℕ) (digits : List ℕ) : Type 0 where
  pub whole : n + length digits ≤ digit_limit → is_whole (zeros n digits) ≡ true
  pub negative : n + length digits ≤ digit_limit → is_whole (minus ∷ zeros n digits) ≡ true
  pub value : value_of (zeros n digits) ≡ value_of digits
  pub negative_value : value_of (minus ∷ zeros n digits) ≡ value_of (minus ∷ digits)

-- so it is for all digits, and a minus before zeros alone is 0
pub record Spellings : Type 0 where
  pub zeros_first : (n : ℕ) (digits : List ℕ) → is_number digits ≡ true → SpelledSame n digits
  pub minus_zero : (n : ℕ) → value_of (minus ∷ zeros n []) ≡ pos 0
