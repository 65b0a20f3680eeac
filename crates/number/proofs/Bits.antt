-- The laws of `bit_len`, `top_power`, `power_below` and `is_power_of_two`. All follow from one fact: n lies below 2 ^ bitLen n and, unless it is 0,
-- not below half of that. So both sides of a cut at the top power have fewer digits than the degree.
use mathlib.Core.Path.{◌≡◌, refl, ap, sym, ◌∙◌}
use mathlib.Core.Bool.{true}
use mathlib.Core.Logic.{◌⊎◌, inl, inr}
use Prim.Native.Nat.{ℕ, zero, suc, ◌+◌, ◌-◌, ◌*◌, ◌/◌, ◌^◌, ◌≤◌, ◌<◌}
use native.Mathlib.Nat.{two-pow-succ, eq-zero-or-pos, le_antisymm, lt_of_not-le}
use native.Mathlib.Omega.{arith}
use borrow.Author.Tests.{eqb-true, eq-eqb}
use lib.Count.{count_leading_zeros, leading_of_zero, leading_top}
use lib.Pow.{pow_mono, pow_pos}
use Rattle.number.specs.Bits.{digits, bit_len, top_power, power_below, is_power_of_two, DigitsByHalving, PowersOfTwo}
use Rattle.number.specs.inside.Between.{Between}

zero_digits : (halvings : ℕ) → digits halvings 0 ≡ 0
unfolding digits
zero_digits zero = refl
zero_digits (suc halvings) = refl

-- from the digits of the half to those of the number
one_digit_more : (n half rest : ℕ) → half ≡ suc n / 2 → half < 2 ^ rest → (0 < half → 2 ^ rest ≤ 2 * half) → (half ≡ 0 → rest ≡ 0)
    → (suc n < 2 ^ suc rest) × (2 ^ suc rest ≤ 2 * suc n)
one_digit_more n half rest is_half above below none = by_half (eq-zero-or-pos half)
  where
    by_half : (half ≡ zero) ⊎ (zero < half) → (suc n < 2 ^ suc rest) × (2 ^ suc rest ≤ 2 * suc n)
    by_half (inl empty) =
        let doubles = two-pow-succ rest in
        let one : 2 ^ rest ≡ 1 = ap (λ (x : ℕ). 2 ^ x) (none empty) in
        (omega arith, omega arith)
    by_half (inr positive) =
        let doubles = two-pow-succ rest in
        let low = below positive in
        (omega arith, omega arith)

-- enough halvings count every digit
digits_hold : (halvings n : ℕ) → n ≤ halvings → (n < 2 ^ digits halvings n) × (0 < n → 2 ^ digits halvings n ≤ 2 * n)
unfolding digits
digits_hold zero n enough = (omega arith, λ positive. omega arith)
digits_hold (suc halvings) zero enough = (omega arith, λ positive. omega arith)
digits_hold (suc halvings) (suc n) enough =
    let rest = digits_hold halvings (suc n / 2) (omega arith) in
    let none : suc n / 2 ≡ 0 → digits halvings (suc n / 2) ≡ 0 = λ empty. ap (digits halvings) empty ∙ zero_digits halvings in
    let more = one_digit_more n (suc n / 2) (digits halvings (suc n / 2)) refl rest.0 rest.1 none in
    (more.0, λ positive. more.1)

-- n has bitLen n digits
pub len_above : (n : ℕ) → n < 2 ^ bit_len n
unfolding bit_len
len_above n = (digits_hold n n (omega arith)).0

-- and no fewer, unless it is 0
pub len_below : (n : ℕ) → 0 < n → 2 ^ bit_len n ≤ 2 * n
unfolding bit_len
len_below n positive = (digits_hold n n (omega arith)).1 positive

exponent_le : (n m k : ℕ) → 2 ^ m ≤ 2 * n → n < 2 ^ k → m ≤ k
exponent_le n m k low high =
    let below : m < suc k = lt_of_not-le (λ (less : suc k ≤ m).
    let doubles = two-pow-succ k in
    let grows : 2 ^ suc k ≤ 2 ^ m = pow_mono less in
    omega arith) in
    omega arith

-- the two bounds name the length
pub len_unique : (n m : ℕ) → 0 < n → n < 2 ^ m → 2 ^ m ≤ 2 * n → m ≡ bit_len n
len_unique n m positive high low = le_antisymm (exponent_le n m (bit_len n) low (len_above n)) (exponent_le n (bit_len n) m (len_below n positive) high)

-- a number below 2 ^ k has at most k digits
pub len_max : (n k : ℕ) → n < 2 ^ k → bit_len n ≤ k
unfolding bit_len digits
len_max zero k high = omega arith
len_max (suc n) k high = exponent_le (suc n) (bit_len (suc n)) k (len_below (suc n) (omega arith)) high

-- the width less the machine's count of leading zeros
pub len_leading : (k n : ℕ) → n < 2 ^ k → k - count_leading_zeros k n ≡ bit_len n
unfolding bit_len digits
len_leading k zero high = let all = leading_of_zero k in omega arith
len_leading k (suc n) high =
    let top = leading_top k (suc n) (omega arith) high in
    let position = top.1 in
    let low = top.2 in
    let below = top.3 in
    let doubles = two-pow-succ top.0 in
    let same : suc top.0 ≡ bit_len (suc n) = len_unique (suc n) (suc top.0) (omega arith) below (omega arith) in
    omega arith

-- a number from 1 up has a digit
pub some_digit : (n : ℕ) → 0 < n → 0 < bit_len n
some_digit n some =
    lt_of_not-le (λ (none : bit_len n ≤ 0).
    let above = len_above n in
    let grows : 2 ^ bit_len n ≤ 2 ^ 0 = pow_mono none in
    omega arith)

-- and without one it is 0
pub digit_some : (n : ℕ) → 0 < bit_len n → 0 < n
unfolding bit_len digits
digit_some zero some = absurd (omega arith)
digit_some (suc n) some = omega arith

-- at most 32 digits up to 4,294,967,295, at most 12 up to 4,095
pub digits_range : (n : ℕ) → Between 1 n 4294967295 → Between 1 (bit_len n) 32
digits_range n range = record { from = some_digit n range.from; to = len_max n 32 (omega arith) }

pub few_digits : (n : ℕ) → n ≤ 4095 → bit_len n ≤ 12
few_digits n most = len_max n 12 (omega arith)

no_digit : bit_len 0 ≡ 0
unfolding bit_len digits
no_digit = refl

-- the digits are one more than those of the half
half_digits : (n : ℕ) → 0 < n → bit_len n ≡ suc (bit_len (n / 2))
half_digits zero some = absurd (omega arith)
half_digits (suc n) some =
    let half = suc n / 2 in
    let none : half ≡ 0 → bit_len half ≡ 0 = λ empty. ap bit_len empty ∙ no_digit in
    let more = one_digit_more n half (bit_len half) refl (len_above half) (len_below half) none in
    sym (len_unique (suc n) (suc (bit_len half)) (omega arith) more.0 more.1)

pub digits_by_halving : DigitsByHalving
digits_by_halving = record { none = no_digit; more = half_digits }

-- ---- powers of two

-- 2^k for k up to 32
pub record PowerRange (k power : ℕ) : Type 0 where
  pub is : power ≡ 2 ^ k
  pub over : k < power
  pub most : power ≤ 4294967296

pub power_range : {k power : ℕ} → k ≤ 32 → power ≡ 2 ^ k → PowerRange k power
power_range {k} within is = rw is (record { is = refl; over = over k; most = pow_mono {j = 32} within })
  where
    over : (k : ℕ) → k < 2 ^ k
    over zero = omega arith
    over (suc k) = omega (arith, over k, two-pow-succ k)

-- the power of two p with p ≤ n < 2p
pub record Top (n p : ℕ) : Type 0 where
  pub positive : 0 < p
  pub within : p ≤ n
  pub reaches : n < p + p

-- twice the top power is the least power of two above n
pub top_doubled : (n : ℕ) → 0 < n → 2 ^ bit_len n ≡ top_power n + top_power n
unfolding top_power
top_doubled n some =
    let one_more : suc (bit_len n - 1) ≡ bit_len n = omega (arith, some_digit n some) in
    sym (ap (λ (x : ℕ). 2 ^ x) one_more) ∙ two-pow-succ (bit_len n - 1)

pub top_power_lem : (n : ℕ) → 0 < n → Top n (top_power n)
top_power_lem n some =
    let doubled = top_doubled n some in
    let above = len_above n in
    let below = len_below n some in
    record { positive = omega arith; within = omega arith; reaches = omega arith }

-- no power of two at most n is greater
pub top_greatest : (n k : ℕ) → 2 ^ k ≤ n → 2 ^ k ≤ top_power n
unfolding top_power
top_greatest n k within =
    let exponent : k < bit_len n = lt_of_not-le (λ (more : bit_len n ≤ k).
    let grows : 2 ^ bit_len n ≤ 2 ^ k = pow_mono more in
    let above = len_above n in
    omega arith) in
    pow_mono (omega arith)

-- the two bounds name it
pub top_unique : (n k : ℕ) → 2 ^ k ≤ n → n < 2 ^ k + 2 ^ k → 2 ^ k ≡ top_power n
unfolding top_power
top_unique n k within reaches =
    let doubles = two-pow-succ k in
    let positive = pow_pos k in
    let length : suc k ≡ bit_len n = len_unique n (suc k) (omega arith) (omega arith) (omega arith) in
    let exponent : k ≡ bit_len n - 1 = omega arith in
    ap (λ (x : ℕ). 2 ^ x) exponent

-- the power of two p with p < n ≤ 2p
pub record Below (n p : ℕ) : Type 0 where
  pub under : p < n
  pub reaches : n ≤ p + p
  pub positive : 0 < p

pub power_below_lem : (n : ℕ) → 2 ≤ n → Below n (power_below n)
unfolding power_below
power_below_lem n from_two = let top = top_power_lem (n - 1) (omega arith) in record { under = omega arith; reaches = omega arith; positive = omega arith }

-- the test names the powers of two: what passes is one
pub power_is : (n : ℕ) → is_power_of_two n ≡ true → n ≡ top_power n
unfolding is_power_of_two
power_is n test = eqb-true n (top_power n) test

-- and each passes
pub is_power : (k : ℕ) → is_power_of_two (2 ^ k) ≡ true
unfolding is_power_of_two
is_power k = let positive = pow_pos k in eq-eqb (2 ^ k) (top_power (2 ^ k)) (top_unique (2 ^ k) k (omega arith) (omega arith))

-- twice the power below n is n exactly where n is a power of two
pub doubled_is_power : (n : ℕ) → n ≡ power_below n + power_below n → is_power_of_two n ≡ true
unfolding power_below top_power
doubled_is_power n doubled =
    let next : n ≡ 2 ^ suc (bit_len (n - 1) - 1) = omega (arith, two-pow-succ (bit_len (n - 1) - 1)) in
    rw next (is_power (suc (bit_len (n - 1) - 1)))

pub power_is_doubled : (n : ℕ) → 2 ≤ n → is_power_of_two n ≡ true → n ≡ power_below n + power_below n
unfolding power_below top_power
power_is_doubled n from_two test = by_exponent (bit_len n - 1) (power_is n test)
  where
    by_exponent : (k : ℕ) → n ≡ 2 ^ k → n ≡ power_below n + power_below n
    by_exponent zero is = absurd (omega arith)
    by_exponent (suc k) is =
        let doubles = two-pow-succ k in
        let positive = pow_pos k in
        let half : 2 ^ k ≡ top_power (n - 1) = top_unique (n - 1) k (omega arith) (omega arith) in
        omega arith

-- each as a power of two
top_is : (n : ℕ) → top_power n ≡ 2 ^ (bit_len n - 1)
unfolding top_power
top_is n = refl

below_is : (n : ℕ) → power_below n ≡ 2 ^ (bit_len (n - 1) - 1)
unfolding power_below
below_is n = top_is (n - 1)

below_greatest : (n k : ℕ) → 2 ^ k < n → 2 ^ k ≤ power_below n
unfolding power_below
below_greatest n k under = top_greatest (n - 1) k (omega arith)

pub powers_of_two : PowersOfTwo
powers_of_two = record {
  top = λ n some. record { exponent = bit_len n - 1; power = top_is n; holds = (top_power_lem n some).within; greatest = top_greatest n };
  below = λ n from_two. record {
    exponent = bit_len (n - 1) - 1;
    power = below_is n;
    holds = (power_below_lem n from_two).under;
    greatest = below_greatest n;
  };
  told = λ n. (λ test. (bit_len n - 1, power_is n test ∙ top_is n), λ power. rw power.1 (is_power power.0));
}

-- ---- cuts

-- both sides of the cut at the top power have fewer digits than the degree
pub record Fall (degree p : ℕ) : Type 0 where
  pub low : bit_len (p - 1) < bit_len degree
  pub high : bit_len (degree - p) < bit_len degree

pub sides_fall : (degree : ℕ) → 0 < degree → Fall degree (top_power degree)
unfolding top_power
sides_fall degree some =
    let digit = some_digit degree some in
    let positive = pow_pos (bit_len degree - 1) in
    let rest = below (top_power_lem degree some) in
    let low = len_max (2 ^ (bit_len degree - 1) - 1) (bit_len degree - 1) (omega arith) in
    let high = len_max (degree - top_power degree) (bit_len degree - 1) rest in
    record { low = omega arith; high = omega arith }
  where
    below : Top degree (top_power degree) → degree - top_power degree < 2 ^ (bit_len degree - 1)
    below top = omega arith

-- a degree from the base on
pub from_base : {base degree : ℕ} (split : ℕ) → base ≡ 2 ^ split → base ≤ degree → 0 < degree
from_base split base_is reached = omega (arith, pow_pos split)

pub record Cut (degree p : ℕ) : Type 0 where
  pub bounds : Top degree p
  pub fall : Fall degree p

pub cut_at : {degree p : ℕ} → 0 < degree → p ≡ top_power degree → Cut degree p
cut_at {degree} some p_is = rw p_is (record { bounds = top_power_lem degree some; fall = sides_fall degree some })
