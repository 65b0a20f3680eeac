-- Halves and remainders of whole numbers as the machine has them, and which numbers it holds.
use mathlib.Core.Path.{◌≡◌, refl}
use mathlib.Core.Bool.{Bool, true, false}
use Prim.Native.Nat.{ℕ, zero, suc, ◌/◌, ◌%◌, ◌≤◌, ◌<◌, ◌^◌}
use native.Mathlib.Omega.{arith}
use borrow.Author.Tests.{ltb-true}
use lib.Dec.{eqb}
use lib.IntN.{ℤ, pos, negsuc, neg_ℤ}
use lib.Signed.{mag, rem_z}
use mir.Syntax.{w64}
use mir.Val.{SFits, of_z}
use Rattle.rebuild.specs.Undo.{half, is_even, fits_i64}

mag_negative : (m a : ℕ) → m ≤ suc a → mag (neg_ℤ (pos m)) ≤ a
mag_negative zero a h = omega arith
mag_negative (suc m) a h = omega arith

pub half_mag : (x : ℤ) → mag (half x) ≤ mag x
half_mag (pos n) = omega arith
half_mag (negsuc n) = mag_negative (suc n / 2) n (omega arith)

-- and half of a number that fits is below 2^62
pub half_near : (x : ℤ) → mag x < 2 ^ 63 → mag (half x) < 2 ^ 62
half_near (pos n) small = omega arith
half_near (negsuc n) small =
    let less = mag_negative (suc n / 2) (n / 2) (omega arith) in
    omega arith

-- the remainder's bits tell
pub even_bits : (x : ℤ) → eqb (of_z w64 (rem_z x (pos 2))) 0 ≡ is_even x
even_bits (pos a) = refl
even_bits (negsuc a) = by_rest (suc a % 2) (omega arith)
  where
    by_rest : (m : ℕ) → m < 2 → eqb (of_z w64 (neg_ℤ (pos m))) 0 ≡ eqb m 0
    by_rest zero h = refl
    by_rest (suc zero) h = refl
    by_rest (suc (suc m)) h = absurd (omega arith)

-- ---- whether a number fits

pub fits_not : (z : ℤ) → (SFits w64 z → ⊥) → fits_i64 z ≡ false
fits_not z beyond = by_test (fits_i64 z) refl
  where
    by_test : (t : Bool) → fits_i64 z ≡ t → fits_i64 z ≡ false
    by_test true h = absurd (beyond (record { sfits = ltb-true (mag z) (2 ^ 63) h }))
    by_test false h = h
