-- A zero in front of digits adds nothing to their number and is a digit itself; digits begin with no minus. By recursion on the zeros.
use mathlib.Core.Path.{◌≡◌, refl, ap, ◌∙◌}
use mathlib.Core.Bool.{true, false}
use mathlib.Core.List.{List, [], ◌∷◌}
use Prim.Native.Nat.{ℕ, zero, suc, ◌+◌, ◌≤◌, ◌<◌}
use native.Mathlib.Omega.{arith}
use borrow.Author.Tests.{ltb-true, lt-ltb, le-leb, ne_eqb}
use lib.Dec.{leb, ltb}
use lib.IntN.{pos}
use lib.ListN.{length}
use Rattle.lines.specs.Bytes.{minus}
use Rattle.lines.specs.Limits.{digit_limit}
use Rattle.lines.specs.Whole.{is_digit, are_digits, may_have, is_number, number_from, number_of, is_minus, with_sign, is_whole, value_of}
use Rattle.lines.specs.SpelledSame.{zeros, SpelledSame, Spellings}
use Rattle.number.proofs.BothHold.{and_left}
use Rattle.lines.proofs.WholeLaws.{all_digits, digit_bounds}

-- ---- zeros in front of digits

digits_same : (n : ℕ) (bs : List ℕ) → are_digits (zeros n bs) ≡ are_digits bs
unfolding are_digits
digits_same zero bs = refl
digits_same (suc n) bs = digits_same n bs

number_same : (n : ℕ) (bs : List ℕ) → number_of (zeros n bs) ≡ number_of bs
unfolding number_from
number_same zero bs = refl
number_same (suc n) bs = number_same n bs

zeros_length : (n : ℕ) (bs : List ℕ) → length (zeros n bs) ≡ n + length bs
zeros_length zero bs = omega arith
zeros_length (suc n) bs = omega (arith, zeros_length n bs)

-- ---- digits alone have no sign

no_sign : (bs : List ℕ) → are_digits bs ≡ true → is_minus bs ≡ false
unfolding are_digits
no_sign [] all = refl
no_sign (b ∷ bs) all =
    let bounds = digit_bounds b (and_left (is_digit b) (are_digits bs) all) in
    ne_eqb b minus (λ (e : b ≡ minus). omega arith)

module _ (n : ℕ) (bs : List ℕ) (ok : is_number bs ≡ true) where
  digits : are_digits (zeros n bs) ≡ true
  digits = digits_same n bs ∙ all_digits bs ok

  some : 0 < length bs
  unfolding is_number
  some = ltb-true 0 (length bs) (and_left (ltb 0 (length bs)) (leb (length bs) digit_limit) (and_left (may_have (length bs)) (are_digits bs) ok))

  number : n + length bs ≤ digit_limit → is_number (zeros n bs) ≡ true
  unfolding is_number
  number few =
      let more : 0 < n + length bs = omega (arith, some) in
      rw (zeros_length n bs, lt-ltb 0 (n + length bs) more, le-leb (n + length bs) digit_limit few, digits)

  spelled : SpelledSame n bs
  unfolding is_whole value_of
  spelled = record {
    whole = λ few. rw (no_sign (zeros n bs) digits) (number few);
    negative = number;
    value = rw (no_sign (zeros n bs) digits, no_sign bs (all_digits bs ok)) (ap pos (number_same n bs));
    negative_value = ap (with_sign true) (number_same n bs);
  }

minus_zero : (n : ℕ) → value_of (minus ∷ zeros n []) ≡ pos 0
unfolding value_of number_from
minus_zero n = ap (with_sign true) (number_same n [])

pub spellings : Spellings
spellings = record { zeros_first = spelled; minus_zero = minus_zero }
