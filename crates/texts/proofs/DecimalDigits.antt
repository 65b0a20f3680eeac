-- The digits of a number: those of a tenth of it have that tenth as their value, and the last adds what is left. By recursion on the steps.
use mathlib.Core.Path.{◌≡◌, refl, ◌∙◌}
use mathlib.Core.Bool.{Bool, true, false, ◌&&◌}
use mathlib.Core.List.{List, [], ◌∷◌, ◌++◌}
use Prim.Native.Nat.{ℕ, zero, suc, ◌+◌, ◌-◌, ◌*◌, ◌/◌, ◌%◌, ◌<◌, ◌≤◌}
use native.Mathlib.Nat.{div-lt_self, div-add-mod', mod-lt}
use native.Mathlib.Omega.{arith}
use borrow.Author.Tests.{le-leb}
use lib.Dec.{lit<}
use lib.ListN.{length, get_or, length-append, get_or-append}
use Rattle.lines.specs.Bytes.{digit0, digit9}
use Rattle.lines.specs.Whole.{is_digit, are_digits, number_from, number_of}
use Rattle.texts.specs.Decimal.{digits_within, decimal}
use Rattle.texts.specs.DecimalDigits.{DecimalDigits}

-- ---- the value

value_append : (v : ℕ) (xs ys : List ℕ) → number_from v (xs ++ ys) ≡ number_from (number_from v xs) ys
unfolding number_from
value_append v [] ys = refl
value_append v (x ∷ xs) ys = value_append (v * 10 + (x - digit0)) xs ys

value_within : (k n : ℕ) → n ≤ k → number_of (digits_within k n) ≡ n
unfolding digits_within number_from
value_within zero zero h = refl
value_within zero (suc n) h = absurd (omega arith)
value_within (suc k) zero h = refl
value_within (suc k) (suc n) h =
    let less : suc n / 10 < suc n = div-lt_self (omega arith) (lit< tt) in
    let tenth = value_within k (suc n / 10) (omega arith) in
    value_append 0 (digits_within k (suc n / 10)) ((digit0 + suc n % 10) ∷ []) ∙ omega (arith, tenth, div-add-mod' (suc n) 10)

value_is : (n : ℕ) → number_of (decimal n) ≡ n
unfolding decimal number_from
value_is zero = refl
value_is (suc n) = value_within (suc n) (suc n) (omega arith)

-- ---- bytes that are digits

both : (xs ys : List ℕ) → are_digits xs ≡ true → are_digits ys ≡ true → are_digits (xs ++ ys) ≡ true
unfolding are_digits
both [] ys p q = q
both (x ∷ xs) ys p q = by_first (is_digit x) p (both xs ys)
  where
    by_first : (t : Bool) → (t && are_digits xs) ≡ true → (are_digits xs ≡ true → are_digits ys ≡ true → are_digits (xs ++ ys) ≡ true)
        → (t && are_digits (xs ++ ys)) ≡ true
    by_first true p rest = rest p q
    by_first false p rest = p

digits_within_lem : (k n : ℕ) → are_digits (digits_within k n) ≡ true
unfolding digits_within are_digits
digits_within_lem zero n = refl
digits_within_lem (suc k) zero = refl
digits_within_lem (suc k) (suc n) =
    let below = mod-lt (suc n) (lit< {m = 0} {n = 10} tt) in
    let least : digit0 ≤ digit0 + suc n % 10 = omega arith in
    let most : digit0 + suc n % 10 ≤ digit9 = omega (arith, below) in
    let last : are_digits ((digit0 + suc n % 10) ∷ []) ≡ true =
    rw (le-leb digit0 (digit0 + suc n % 10) least, le-leb (digit0 + suc n % 10) digit9 most) in
    both (digits_within k (suc n / 10)) ((digit0 + suc n % 10) ∷ []) (digits_within_lem k (suc n / 10)) last

digits_are : (n : ℕ) → are_digits (decimal n) ≡ true
unfolding decimal are_digits
digits_are zero = refl
digits_are (suc n) = digits_within_lem (suc n) (suc n)

-- ---- the first digit

record FirstNotZero (digits : List ℕ) : Type 0 where
  some : 0 < length digits
  differs : get_or digits 0 0 ≡ digit0 → ⊥

no_digits : (k : ℕ) → digits_within k 0 ≡ []
unfolding digits_within
no_digits zero = refl
no_digits (suc k) = refl

first_within : (k n : ℕ) → n ≤ k → 0 < n → FirstNotZero (digits_within k n)
unfolding digits_within
first_within zero n h g = absurd (omega arith)
first_within (suc k) zero h g = absurd (omega arith)
first_within (suc k) (suc n) h g =
    let less : suc n / 10 < suc n = div-lt_self (omega arith) (lit< tt) in
    by_tenth (suc n / 10) (suc n % 10) (div-add-mod' (suc n) 10) (first_within k (suc n / 10) (omega arith))
  where
    by_tenth : (q d : ℕ) → q * 10 + d ≡ suc n → (0 < q → FirstNotZero (digits_within k q)) → FirstNotZero (digits_within k q ++ ((digit0 + d) ∷ []))
    by_tenth zero d e first = rw (no_digits k) (record { some = omega arith; differs = λ (z : digit0 + d ≡ digit0). omega arith })
    by_tenth (suc q) d e first =
        let last = (digit0 + d) ∷ [] in
        let f : FirstNotZero (digits_within k (suc q)) = first (omega arith) in
        let same = get_or-append (digits_within k (suc q)) last 0 0 f.some in
        record {
          some = omega (arith, length-append (digits_within k (suc q)) last, f.some);
          differs = λ (z : get_or (digits_within k (suc q) ++ last) 0 0 ≡ digit0). f.differs (omega (arith, same));
        }

first_is : (n : ℕ) → get_or (decimal n) 0 0 ≡ digit0 → n ≡ 0
unfolding decimal
first_is zero e = refl
first_is (suc n) e = absurd ((first_within (suc n) (suc n) (omega arith) (omega arith)).differs e)

pub decimal_digits : DecimalDigits
decimal_digits = record { digits = digits_are; value = value_is; no_leading_zero = first_is }
