-- A coefficient as a field (docs/RULES.md, "Lines of planlines"): an optional minus and 1 to 18 decimal digits.
use Rattle.std.specs.Prelude.{Bool, true, false, cond, ◌&&◌, List, [], ◌∷◌, ℕ, ◌+◌, ◌-◌, ◌*◌, leb, ltb, eqb, ℤ, pos, neg_ℤ, length, get_or, drop}
use Rattle.lines.specs.Bytes.{minus, digit0, digit9}
use Rattle.lines.specs.Limits.{digit_limit}

-- ---- digits

-- `0` to `9`
abbrev pub is_digit : ℕ → Bool
is_digit b = leb digit0 b && leb b digit9

-- every byte is a digit
unfoldable pub are_digits : List ℕ → Bool
are_digits [] = true
are_digits (b ∷ bs) = is_digit b && are_digits bs

-- how many digits a number may have
abbrev pub may_have : (digits : ℕ) → Bool
may_have n = ltb 0 n && leb n digit_limit

-- 1 to 18 digits; leading zeros are digits
unfoldable pub is_number : List ℕ → Bool
is_number bs = may_have (length bs) && are_digits bs

-- the number that digits say behind a number: each digit takes the number before it ten times and adds its own
unfoldable pub number_from : (before : ℕ) → List ℕ → ℕ
number_from n [] = n
number_from n (b ∷ bs) = number_from (n * 10 + (b - digit0)) bs

abbrev pub number_of : List ℕ → ℕ
number_of bs = number_from 0 bs

-- ---- with a sign

-- the field begins with a minus
abbrev pub is_minus : List ℕ → Bool
is_minus f = eqb (get_or f 0 0) minus

-- what is behind the minus; the whole field where there is none
abbrev pub unsigned : List ℕ → List ℕ
unsigned f = drop (cond (is_minus f) 1 0) f

-- n or -n
abbrev pub with_sign : (negative : Bool) → ℕ → ℤ
with_sign true n = neg_ℤ (pos n)
with_sign false n = pos n

-- the field is a whole number
unfoldable pub is_whole : List ℕ → Bool
is_whole f = is_number (unsigned f)

-- the number that it says
unfoldable pub value_of : List ℕ → ℤ
value_of f = with_sign (is_minus f) (number_of (unsigned f))
