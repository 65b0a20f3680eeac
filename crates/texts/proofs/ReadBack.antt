-- The digits of a number below 10^18 are 1 to 18, and say the number. Behind a minus they are read alike, and digits alone begin with no minus.
use mathlib.Core.Path.{◌≡◌, refl}
use mathlib.Core.Bool.{Bool, true, false, ◌&&◌, false≢true}
use mathlib.Core.List.{List, [], ◌∷◌}
use Prim.Native.Nat.{ℕ, zero, suc, ◌+◌, ◌/◌, ◌%◌, ◌^◌, ◌<◌, ◌≤◌}
use native.Mathlib.Omega.{arith}
use borrow.Author.Tests.{le-leb, leb-true, lt-ltb, ne_eqb}
use lib.Dec.{leb, lit<}
use lib.IntN.{pos, negsuc}
use lib.ListN.{length, length-append}
use Rattle.lines.specs.Bytes.{minus, digit0, digit9}
use Rattle.lines.specs.Limits.{digit_limit}
use Rattle.lines.specs.Whole.{are_digits, is_number, is_minus, is_whole, value_of}
use Rattle.texts.specs.Decimal.{digits_within, decimal, signed_decimal}
use Rattle.texts.specs.ReadBack.{NumbersReadBack}
use Rattle.texts.proofs.DecimalLaws.{digits_few}
use Rattle.texts.proofs.DecimalDigits.{decimal_digits}

some_digits : (n : ℕ) → 0 < length (decimal n)
unfolding decimal digits_within
some_digits zero = lit< tt
some_digits (suc n) = omega (arith, length-append (digits_within n (suc n / 10)) ((digit0 + suc n % 10) ∷ []))

few_digits : (n : ℕ) → n < 10 ^ digit_limit → length (decimal n) ≤ digit_limit
unfolding decimal
few_digits zero h = omega arith
few_digits (suc n) h = digits_few digit_limit (suc n) (suc n) h

in_form : (n : ℕ) → n < 10 ^ digit_limit → is_number (decimal n) ≡ true
unfolding is_number
in_form n h =
    rw (lt-ltb 0 (length (decimal n)) (some_digits n), le-leb (length (decimal n)) digit_limit (few_digits n h)) (decimal_digits.digits n)

-- digits begin with no minus
no_minus : (bs : List ℕ) → are_digits bs ≡ true → is_minus bs ≡ false
unfolding are_digits
no_minus [] are = refl
no_minus (b ∷ bs) are = by_least (leb digit0 b) refl are
  where
    by_least : (t : Bool) → leb digit0 b ≡ t → ((t && leb b digit9) && are_digits bs) ≡ true → is_minus (b ∷ bs) ≡ false
    by_least true least are = ne_eqb b minus (λ (e : b ≡ minus). omega (arith, leb-true digit0 b least))
    by_least false least are = absurd (false≢true are)

pub numbers_read_back : NumbersReadBack
unfolding is_whole value_of signed_decimal
numbers_read_back (pos n) few =
    let plain = no_minus (decimal n) (decimal_digits.digits n) in
    record { in_form = rw plain (in_form n few); value = rw (plain, decimal_digits.value n) }
numbers_read_back (negsuc n) few = record { in_form = in_form (suc n) few; value = rw (decimal_digits.value (suc n)) }
