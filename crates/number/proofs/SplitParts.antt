-- The laws of the index split that callers use: within the limits the call answers the parts, both at least 1, and they make up n. The third number is
-- their distance.
use mathlib.Core.Path.{◌≡◌, refl, sym, ◌∙◌}
use mathlib.Core.Bool.{Bool, true, false}
use Prim.Native.Nat.{ℕ, ◌+◌, ◌/◌, ◌≤◌, ◌<◌}
use native.Mathlib.Nat.{lt_of_not-le}
use native.Mathlib.Omega.{arith}
use borrow.Author.Tests.{le-ltb, lt-ltb}
use Rattle.algebra.specs.Distance.{distance_of}
use Rattle.number.specs.Bits.{is_power_of_two, power_below}
use Rattle.number.specs.Limits.{degree_limit}
use Rattle.number.specs.Refusal.{unless_refused}
use Rattle.number.specs.Split.{Parts, parts_by, parts_of, no_parts, split_refusal, split_of}
use Rattle.number.proofs.Bits.{power_below_lem, doubled_is_power, power_is_doubled}

-- an index from 2 to 4,294,967,295 is not refused
pub split_accepted : (n : ℕ) → 2 ≤ n → n ≤ degree_limit → split_of n ≡ parts_of n
unfolding split_of split_refusal unless_refused
split_accepted n from_two to_limit = rw (le-ltb n 2 from_two, le-ltb degree_limit n to_limit)

-- an index outside these is refused with 9 and zeros
pub split_below : (n : ℕ) → n < 2 → split_of n ≡ no_parts 9
unfolding split_of split_refusal unless_refused
split_below n under = rw (lt-ltb n 2 under)

pub split_above : (n : ℕ) → degree_limit < n → split_of n ≡ no_parts 9
unfolding split_of split_refusal unless_refused
split_above n over =
    let from_two : 2 ≤ n = omega arith in
    rw (le-ltb n 2 from_two, lt-ltb degree_limit n over)

-- the parts, by the test that the code makes: whether n is twice the greatest power of two below it. Two halves have no distance.
pub parts_doubled : (n : ℕ) → n ≡ power_below n + power_below n → parts_of n ≡ record { refusal = 0; a = n / 2; b = n / 2; distance = 0 }
unfolding parts_of
parts_doubled n doubled =
    let none : distance_of (n / 2) (n / 2) ≡ 0 = omega arith in
    rw (doubled_is_power n doubled, none)

pub parts_other : (n : ℕ) → 2 ≤ n → (n ≡ power_below n + power_below n → ⊥) → parts_of n ≡ parts_by false n
unfolding parts_of
parts_other n from_two other = rw (not_power (is_power_of_two n) refl)
  where
    not_power : (test : Bool) → is_power_of_two n ≡ test → is_power_of_two n ≡ false
    not_power true is = absurd (other (power_is_doubled n from_two is))
    not_power false is = is

-- two parts of n, and their distance
pub record Parted (n : ℕ) (parts : Parts) : Type 0 where
  pub taken : parts.refusal ≡ 0
  pub first : 0 < parts.a
  pub second : 0 < parts.b
  pub whole : parts.a + parts.b ≡ n
  pub distance : parts.distance ≡ distance_of parts.a parts.b

pub parted : (n : ℕ) → 2 ≤ n → Parted n (parts_of n)
unfolding parts_of
parted n from_two = by_test (is_power_of_two n) refl
  where
    by_test : (test : Bool) → is_power_of_two n ≡ test → Parted n (parts_by test n)
    by_test true is =
        let doubled = power_is_doubled n from_two is in
        record { taken = refl; first = omega arith; second = omega arith; whole = omega arith; distance = refl }
    by_test false is =
        let below = power_below_lem n from_two in
        let more : 1 < power_below n = lt_of_not-le (λ (one : power_below n ≤ 1).
        let doubled : n ≡ power_below n + power_below n = omega arith in
        let same : ◌≡◌ {A = Bool} true false = sym (doubled_is_power n doubled) ∙ is in
        let clash : ◌≡◌ {A = ℕ} 0 1 = cc in
        omega arith) in
        record { taken = refl; first = omega arith; second = omega arith; whole = omega arith; distance = refl }
