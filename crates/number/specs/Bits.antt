-- Binary digits, and powers of two.
use Rattle.std.specs.Prelude.{◌≡◌, Bool, true, ◌↔◌, ℕ, zero, suc, ◌-◌, ◌/◌, ◌^◌, ◌≤◌, ◌<◌, eqb}

-- the binary digits of n: one more than those of n / 2. The first argument bounds the halvings.
unfoldable pub digits : (halvings n : ℕ) → ℕ
digits zero n = 0
digits (suc halvings) zero = 0
digits (suc halvings) (suc n) = suc (digits halvings (suc n / 2))

-- `bit_len(n)`: the number of binary digits of n, 0 for 0
unfoldable pub bit_len : (n : ℕ) → ℕ
bit_len n = digits n n

-- the greatest power of two at most n, for n from 1 up
unfoldable pub top_power : (n : ℕ) → ℕ
top_power n = 2 ^ (bit_len n - 1)

-- the greatest power of two below n, for n from 2 up
unfoldable pub power_below : (n : ℕ) → ℕ
power_below n = top_power (n - 1)

-- whether n is a power of two
unfoldable pub is_power_of_two : (n : ℕ) → Bool
is_power_of_two n = eqb n (top_power n)

-- ---- what the words say

-- the digits, without a bound on the halvings
pub record DigitsByHalving : Type 0 where
  pub none : bit_len 0 ≡ 0
  pub more : (n : ℕ) → 0 < n → bit_len n ≡ suc (bit_len (n / 2))

-- p is the greatest power of two of which something holds
pub record GreatestPower (Holds : ℕ → Type 0) (p : ℕ) : Type 0 where
  pub exponent : ℕ
  pub power : p ≡ 2 ^ exponent
  pub holds : Holds p
  pub greatest : (k : ℕ) → Holds (2 ^ k) → 2 ^ k ≤ p

-- the greatest powers of two at most n and below n, and the test for a power of two
pub record PowersOfTwo : Type 0 where
  pub top : (n : ℕ) → 0 < n → GreatestPower (λ (p : ℕ). p ≤ n) (top_power n)
  pub below : (n : ℕ) → 2 ≤ n → GreatestPower (λ (p : ℕ). p < n) (power_below n)
  pub told : (n : ℕ) → (is_power_of_two n ≡ true) ↔ ((k : ℕ) × (n ≡ 2 ^ k))
