-- When a whole number fits i64: if its magnitude is below 2^63. So a difference or a double does where the magnitudes leave room for it.
use mathlib.Core.Path.{◌≡◌, ap₂}
use Prim.Native.Nat.{◌+◌, ◌≤◌, ◌<◌, ◌^◌}
use native.Mathlib.Omega.{arith}
use lib.IntN.{ℤ, pos, negsuc, nat_abs, ◌-ℤ◌}
use lib.Signed.{mag}
use mir.Syntax.{Width, w64}
use mir.Val.{SFits, to_z, of_z}
use mir.Facts.{to_z-of_z}
use Rattle.algebra.specs.Operations.{double, whole_ops}
use Rattle.algebra.proofs.Magnitudes.{abs_sub, abs_double}

mag_abs : (z : ℤ) → mag z ≤ nat_abs z
mag_abs (pos n) = omega arith
mag_abs (negsuc n) = omega arith

-- a whole number of magnitude below 2^63
pub fits_abs : (z : ℤ) → nat_abs z < 2 ^ 63 → SFits w64 z
fits_abs z h = record { sfits = omega (arith, mag_abs z) }

-- a difference
pub fits_sub : (a b : ℤ) → nat_abs a + nat_abs b < 2 ^ 63 → SFits w64 (a -ℤ b)
fits_sub a b h = fits_abs (a -ℤ b) (omega (arith, abs_sub a b))

-- a double
pub fits_double : (a : ℤ) → nat_abs a < 2 ^ 62 → SFits w64 (double whole_ops a)
fits_double a h = fits_abs (double whole_ops a) (omega (arith, abs_double a))

-- an operation f on x and y, as the machine makes it: both are read out of their bits, and the result too
module _ (w : Width) (f : ℤ → ℤ → ℤ) {x y : ℤ} (hx : SFits w x) (hy : SFits w y) (hf : SFits w (f x y)) where
  operands : f (to_z w (of_z w x)) (to_z w (of_z w y)) ≡ f x y
  operands = ap₂ f (to_z-of_z hx) (to_z-of_z hy)

  -- what the machine asks: the result fits
  pub asked : SFits w (f (to_z w (of_z w x)) (to_z w (of_z w y)))
  asked = rw operands hf

  -- what it gives: the result
  pub given : to_z w (of_z w (f (to_z w (of_z w x)) (to_z w (of_z w y)))) ≡ f x y
  given = rw operands (to_z-of_z hf)
