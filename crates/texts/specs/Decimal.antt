-- Numbers as text (docs/RULES.md, "Lines of planlines"): decimal digits without a leading zero, and a minus in front of a number below zero.
use Rattle.std.specs.Prelude.{List, [], ◌∷◌, ◌++◌, ℕ, zero, suc, ◌+◌, ◌/◌, ◌%◌, ℤ, pos, negsuc}
use Rattle.lines.specs.Bytes.{minus, digit0}

-- the digits of a number, found in at most so many steps: those of a tenth of it, then the last one; 0 has none
unfoldable pub digits_within : (steps n : ℕ) → List ℕ
digits_within zero n = []
digits_within (suc k) zero = []
digits_within (suc k) (suc n) = digits_within k (suc n / 10) ++ ((digit0 + suc n % 10) ∷ [])

-- n steps are enough for n
abbrev pub digits_of : ℕ → List ℕ
digits_of n = digits_within n n

-- a number as text
unfoldable pub decimal : ℕ → List ℕ
decimal zero = digit0 ∷ []
decimal (suc n) = digits_of (suc n)

-- a whole number as text; negsuc n is -(n + 1)
unfoldable pub signed_decimal : ℤ → List ℕ
signed_decimal (pos n) = decimal n
signed_decimal (negsuc n) = minus ∷ decimal (suc n)
