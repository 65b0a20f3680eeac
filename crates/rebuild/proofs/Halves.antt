-- Halving and doubling whole numbers.
use mathlib.Core.Path.{◌≡◌, refl, ap}
use mathlib.Core.Bool.{true}
use Prim.Native.Nat.{ℕ, zero, suc, ◌*◌, ◌/◌, ◌%◌, ◌<◌, ◌^◌}
use native.Mathlib.Omega.{arith}
use borrow.Author.Tests.{eqb-true, eq-eqb, lt-ltb}
use lib.IntN.{ℤ, pos, negsuc, nat_abs, neg_ℤ, ◌*ℤ◌}
use lib.Signed.{quot_z}
use Rattle.algebra.specs.Operations.{whole_ops, double}
use Rattle.algebra.proofs.Magnitudes.{abs_double}
use Rattle.rebuild.specs.Undo.{half, is_even, fits_i64}

-- the double is even
pub double_even : (z : ℤ) → is_even (double whole_ops z) ≡ true
double_even z = let twice = abs_double z in eq-eqb (nat_abs (double whole_ops z) % 2) 0 (omega arith)

-- half of the double
pub half_double : (z : ℤ) → half (double whole_ops z) ≡ z
half_double (pos n) = ap pos (halves n)
  where
    halves : (n : ℕ) → 2 * n / 2 ≡ n
    halves n = omega arith
half_double (negsuc n) = below (2 * suc n) refl
  where
    below : (m : ℕ) → m ≡ 2 * suc n → quot_z (neg_ℤ (pos m)) (pos 2) ≡ negsuc n
    below zero is = absurd (omega arith)
    below (suc m) is = let halves : suc m / 2 ≡ suc n = omega arith in rw halves

-- the double of half an even number
pub double_half : (z : ℤ) → is_even z ≡ true → double whole_ops (half z) ≡ z
double_half (pos n) even = ap pos (doubles (eqb-true (n % 2) 0 even))
  where
    doubles : n % 2 ≡ 0 → 2 * (n / 2) ≡ n
    doubles e = omega arith
double_half (negsuc n) even = below (suc n / 2) refl (eqb-true (suc n % 2) 0 even)
  where
    below : (m : ℕ) → m ≡ suc n / 2 → suc n % 2 ≡ 0 → pos 2 *ℤ neg_ℤ (pos m) ≡ negsuc n
    below zero is e = absurd (omega arith)
    below (suc m) is e = let doubles : 2 * suc m ≡ suc n = omega arith in ap (λ (k : ℕ). neg_ℤ (pos k)) doubles

-- a magnitude below 2^63 fits
pub small_fits : (z : ℤ) → nat_abs z < 2 ^ 63 → fits_i64 z ≡ true
small_fits (pos n) small = lt-ltb n (2 ^ 63) small
small_fits (negsuc n) small = lt-ltb n (2 ^ 63) (omega arith)
