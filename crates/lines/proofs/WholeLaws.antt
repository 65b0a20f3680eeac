-- Laws of the number that digits say: place by place, its bound, and its sign.
use mathlib.Core.Path.{◌≡◌, refl, ap, sym, ◌∙◌}
use mathlib.Core.Bool.{Bool, true, false, ◌&&◌}
use mathlib.Core.List.{List, [], ◌∷◌}
use Prim.Native.Nat.{ℕ, suc, ◌+◌, ◌-◌, ◌*◌, ◌<◌, ◌≤◌, ◌^◌}
use native.Mathlib.Nat.{pow-suc, pow-le-pow_right, add-zero}
use native.Mathlib.Numerals.{add-one}
use native.Mathlib.Omega.{arith}
use borrow.Author.Tests.{leb-true}
use lib.Dec.{leb, ltb, lit<}
use lib.ListN.{length, get_or, drop, drop_of_length-le}
use lib.Seq.{drop-cons}
use Rattle.std.specs.Char.{is_ascii_digit}
use Rattle.std.specs.List.{list_all}
use Rattle.lines.specs.Bytes.{digit0, digit9}
use Rattle.lines.specs.Limits.{digit_limit}
use Rattle.lines.specs.Whole.{is_digit, are_digits, may_have, is_number, number_from, number_of}
use Rattle.number.proofs.BothHold.{and_left, and_right}

-- ---- digits and their number from a place on

module _ (xs : List ℕ) (i : ℕ) where
  pub digits_at : i < length xs → are_digits (drop i xs) ≡ (is_digit (get_or xs i 0) && are_digits (drop (i + 1) xs))
  unfolding are_digits
  digits_at h = rw (add-one, drop-cons xs i 0 h)

  pub digits_end : length xs ≤ i → are_digits (drop i xs) ≡ true
  unfolding are_digits
  digits_end h = rw (drop_of_length-le xs h)

  -- of digits alone the first is one, and so are the others
  pub digit_first : i < length xs → are_digits (drop i xs) ≡ true → is_digit (get_or xs i 0) ≡ true
  digit_first h all = and_left (is_digit (get_or xs i 0)) (are_digits (drop (i + 1) xs)) (sym (digits_at h) ∙ all)

  pub digits_rest : i < length xs → are_digits (drop i xs) ≡ true → are_digits (drop (i + 1) xs) ≡ true
  digits_rest h all = and_right (is_digit (get_or xs i 0)) (are_digits (drop (i + 1) xs)) (sym (digits_at h) ∙ all)

  pub number_at : (n : ℕ) → i < length xs → number_from n (drop i xs) ≡ number_from (n * 10 + (get_or xs i 0 - digit0)) (drop (i + 1) xs)
  unfolding number_from
  number_at n h = rw (add-one, drop-cons xs i 0 h)

  pub number_end : (n : ℕ) → length xs ≤ i → number_from n (drop i xs) ≡ n
  unfolding number_from
  number_end n h = rw (drop_of_length-le xs h)

-- ---- the form of a number

module _ (bs : List ℕ) (ok : is_number bs ≡ true) where
  length_ok : may_have (length bs) ≡ true
  unfolding is_number
  length_ok = and_left (may_have (length bs)) (are_digits bs) ok

  pub all_digits : are_digits bs ≡ true
  unfolding is_number
  all_digits = and_right (may_have (length bs)) (are_digits bs) ok

  pub at_most : length bs ≤ digit_limit
  at_most = leb-true (length bs) digit_limit (and_right (ltb 0 (length bs)) (leb (length bs) digit_limit) length_ok)

module _ (bs : List ℕ) where
  pub wrong_length : may_have (length bs) ≡ false → false ≡ is_number bs
  unfolding is_number
  wrong_length t = rw t

  pub right_length : may_have (length bs) ≡ true → are_digits bs ≡ is_number bs
  unfolding is_number
  right_length t = rw t

-- std's test of a digit, at every byte
pub digits_all : (bs : List ℕ) → list_all is_ascii_digit bs ≡ are_digits bs
unfolding are_digits
digits_all [] = refl
digits_all (b ∷ bs) = ap (λ (t : Bool). is_digit b && t) (digits_all bs)

-- ---- bounds

-- a digit
pub digit_bounds : (b : ℕ) → is_digit b ≡ true → (digit0 ≤ b) × (b ≤ digit9)
digit_bounds b e = (leb-true digit0 b (and_left (leb digit0 b) (leb b digit9) e), leb-true b digit9 (and_right (leb digit0 b) (leb b digit9) e))

-- a number with one digit more
pub grown : (k n d : ℕ) → n < 10 ^ k → d ≤ 9 → n * 10 + d < 10 ^ suc k
grown k n d h g = rw (pow-suc 10 k) (omega arith)

fewer : (k n : ℕ) → k ≤ 17 → n < 10 ^ k → n < 10 ^ 17
fewer k n h g = let m : 10 ^ k ≤ 10 ^ 17 = pow-le-pow_right (lit< tt) h in omega arith

pub room_for_digit : (bs : List ℕ) (k n : ℕ) → is_number bs ≡ true → k < length bs → n < 10 ^ k → n < 10 ^ 17
room_for_digit bs k n ok more small = fewer k n (omega (arith, at_most bs ok)) small

pub some_power : (n : ℕ) → 0 < 10 ^ n
some_power n =
    let z : 0 ≤ n = omega arith in
    let m : 10 ^ 0 ≤ 10 ^ n = pow-le-pow_right (lit< tt) z in
    omega arith

-- digits behind a number
number_bound : (bs : List ℕ) (k n : ℕ) → are_digits bs ≡ true → n < 10 ^ k → number_from n bs < 10 ^ (k + length bs)
unfolding are_digits number_from
number_bound [] k n all h = rw (add-zero k) h
number_bound (b ∷ bs) k n all h =
    let bounds = digit_bounds b (and_left (is_digit b) (are_digits bs) all) in
    let most : b - digit0 ≤ 9 = omega arith in
    let place : k + suc (length bs) ≡ suc k + length bs = omega arith in
    rw place (number_bound bs (suc k) (n * 10 + (b - digit0)) (and_right (is_digit b) (are_digits bs) all) (grown k n (b - digit0) h most))

-- 1 to 18 digits
pub number_small : (bs : List ℕ) → is_number bs ≡ true → number_of bs < 10 ^ 18
number_small bs ok =
    let h : number_of bs < 10 ^ (0 + length bs) = number_bound bs 0 0 (all_digits bs ok) (lit< tt) in
    let few : 0 + length bs ≤ 18 = omega (arith, at_most bs ok) in
    let m : 10 ^ (0 + length bs) ≤ 10 ^ 18 = pow-le-pow_right (lit< tt) few in
    omega arith
