-- Numbers as text: the last digit stands behind the digits of a tenth of the number, which is less; so steps are never short, and a number below
-- 10^m has at most m digits.
use mathlib.Core.Path.{◌≡◌, refl, ap, sym, ◌∙◌}
use mathlib.Core.Bool.{true, false, true≢false}
use mathlib.Core.List.{List, [], ◌∷◌, ◌++◌}
use Prim.Native.Nat.{ℕ, zero, suc, ◌+◌, ◌*◌, ◌/◌, ◌%◌, ◌^◌, ◌<◌, ◌≤◌}
use native.Mathlib.Nat.{pow-suc, div-lt_self, div-lt_iff_lt-mul}
use native.Mathlib.Omega.{arith}
use borrow.Author.Tests.{ltb-true}
use lib.Dec.{lit<}
use lib.Signed.{lt_z}
use lib.IntN.{ℤ, pos, negsuc, nat_abs}
use lib.ListN.{length, length-append}
use mir.Syntax.{w64}
use mir.Val.{SFits, to_z, of_z}
use mir.Facts.{to_z-of_z}
use Rattle.lines.specs.Bytes.{minus, digit0}
use Rattle.texts.specs.Put.{Put}
use Rattle.texts.proofs.PutLaws.{put_then, put_same}
use Rattle.texts.specs.Decimal.{digits_within, digits_of, decimal, signed_decimal}

-- the number of steps doesn't matter, if they are enough
enough : (k j n : ℕ) → n ≤ k → n ≤ j → digits_within k n ≡ digits_within j n
unfolding digits_within
enough zero zero n h g = refl
enough zero (suc j) zero h g = refl
enough zero (suc j) (suc n) h g = absurd (omega arith)
enough (suc k) zero zero h g = refl
enough (suc k) zero (suc n) h g = absurd (omega arith)
enough (suc k) (suc j) zero h g = refl
enough (suc k) (suc j) (suc n) h g =
    let less : suc n / 10 < suc n = div-lt_self (omega arith) (lit< tt) in
    ap (λ (ds : List ℕ). ds ++ ((digit0 + suc n % 10) ∷ [])) (enough k j (suc n / 10) (omega arith) (omega arith))

-- 0 has no digits, and any other number one more than a tenth of it
pub no_digits : (n : ℕ) → n ≡ 0 → digits_of n ≡ []
unfolding digits_within
no_digits n e = rw e

pub digits_last : (n : ℕ) → (n ≡ 0 → ⊥) → digits_of n ≡ digits_of (n / 10) ++ ((digit0 + n % 10) ∷ [])
unfolding digits_within
digits_last zero h = absurd (h refl)
digits_last (suc n) h =
    let less : suc n / 10 < suc n = div-lt_self (omega arith) (lit< tt) in
    ap (λ (ds : List ℕ). ds ++ ((digit0 + suc n % 10) ∷ [])) (enough n (suc n / 10) (suc n / 10) (omega arith) (omega arith))

-- a number below 10^m has at most m digits
pub digits_few : (m k n : ℕ) → n < 10 ^ m → length (digits_within k n) ≤ m
unfolding digits_within
digits_few m zero n h = omega arith
digits_few m (suc k) zero h = omega arith
digits_few zero (suc k) (suc n) h = absurd (omega arith)
digits_few (suc m) (suc k) (suc n) h =
    let big : suc n < 10 ^ m * 10 = rw pow-suc at h in
    let tenth : suc n / 10 < 10 ^ m = (div-lt_iff_lt-mul (lit< tt)).1 big in
    omega (arith, digits_few m k (suc n / 10) tenth, length-append (digits_within k (suc n / 10)) ((digit0 + suc n % 10) ∷ []))

-- so has its text, which is one digit for 0; a sign is one byte more
pub decimal_few : (d n : ℕ) → n < 10 ^ suc d → length (decimal n) ≤ suc d
unfolding decimal
decimal_few d zero h = omega arith
decimal_few d (suc n) h = digits_few (suc d) (suc n) (suc n) h

pub signed_few : (d : ℕ) (z : ℤ) → nat_abs z < 10 ^ suc d → length (signed_decimal z) ≤ suc (suc d)
unfolding signed_decimal
signed_few d (pos n) h = omega (arith, decimal_few d n h)
signed_few d (negsuc n) h = omega (arith, decimal_few d (suc n) h)

-- the text by cases, as the code goes
pub zero_text : (n : ℕ) → n ≡ 0 → decimal n ≡ digit0 ∷ []
unfolding decimal
zero_text n e = rw e

pub digits_text : (n : ℕ) → (n ≡ 0 → ⊥) → decimal n ≡ digits_of n
unfolding decimal
digits_text zero h = absurd (h refl)
digits_text (suc n) h = refl

-- how many digits there are
pub digits_length : (n : ℕ) → (n ≡ 0 → ⊥) → length (digits_of n) ≡ length (digits_of (n / 10)) + 1
digits_length n h = ap (λ (ds : List ℕ). length ds) (digits_last n h) ∙ length-append (digits_of (n / 10)) ((digit0 + n % 10) ∷ [])

pub tenth_less : (n : ℕ) → (n ≡ 0 → ⊥) → n / 10 < n
tenth_less zero h = absurd (h refl)
tenth_less (suc n) h = div-lt_self (omega arith) (lit< tt)

-- the last digit behind the others
pub digits_then : {out out' out'' : List ℕ} {at r s : ℕ} (n d : ℕ) → (n ≡ 0 → ⊥) → Put out at (digits_of (n / 10)) out' r → d ≡ digit0 + n % 10
    → Put out' r (d ∷ []) out'' s → Put out at (digits_of n) out'' s
digits_then n d h p e q =
    put_same (put_then p q) (ap (λ (b : ℕ). digits_of (n / 10) ++ (b ∷ [])) e ∙ sym (digits_last n h))

-- ---- whole numbers, as the machine reads them

abbrev pub read : ℤ → ℤ
read z = to_z w64 (of_z w64 z)

module _ (z : ℤ) (fits : SFits w64 z) where
  -- a minus and the magnitude, or the number itself
  pub below_text : (n : ℕ) → lt_z (read z) (pos 0) ≡ true → n ≡ nat_abs (read z) → (minus ∷ []) ++ decimal n ≡ signed_decimal z
  unfolding signed_decimal
  below_text n h e = by_sign z (rw (to_z-of_z fits) at h) (e ∙ ap nat_abs (to_z-of_z fits))
    where
      by_sign : (y : ℤ) → lt_z y (pos 0) ≡ true → n ≡ nat_abs y → (minus ∷ []) ++ decimal n ≡ signed_decimal y
      by_sign (pos a) h e = absurd (omega (arith, ltb-true a 0 h))
      by_sign (negsuc a) h e = ap (λ (k : ℕ). minus ∷ decimal k) e

  pub above_text : (n : ℕ) → lt_z (read z) (pos 0) ≡ false → n ≡ nat_abs (read z) → decimal n ≡ signed_decimal z
  unfolding signed_decimal
  above_text n h e = by_sign z (rw (to_z-of_z fits) at h) (e ∙ ap nat_abs (to_z-of_z fits))
    where
      by_sign : (y : ℤ) → lt_z y (pos 0) ≡ false → n ≡ nat_abs y → decimal n ≡ signed_decimal y
      by_sign (pos a) h e = ap decimal e
      by_sign (negsuc a) h e = absurd (true≢false h)

  -- a number of 64 bits has a magnitude of at most 2^63
  pub magnitude_most : nat_abs (read z) ≤ 2 ^ 63
  magnitude_most = rw (to_z-of_z fits) (by_sign z fits)
    where
      by_sign : (y : ℤ) → SFits w64 y → nat_abs y ≤ 2 ^ 63
      by_sign (pos a) f = omega (arith, f.sfits)
      by_sign (negsuc a) f = omega (arith, f.sfits)

  -- so its text has at most 21 bytes
  pub read_few : length (signed_decimal (read z)) ≤ 21
  read_few = let less : nat_abs (read z) < 10 ^ 20 = omega (arith, magnitude_most) in signed_few 19 (read z) less
