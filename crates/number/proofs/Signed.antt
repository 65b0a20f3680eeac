-- Signed numbers as the machine has them: a number read out of its bits, and tests against zero. By the sign.
use mathlib.Core.Path.{◌≡◌, refl, sym, ap, ◌∙◌}
use mathlib.Core.Bool.{false, true≢false}
use Prim.Native.Nat.{ℕ, suc, ◌<◌, ◌^◌}
use native.Mathlib.Omega.{arith}
use borrow.Author.Tests.{ne_eqb}
use lib.Dec.{T, eqb}
use lib.IntN.{ℤ, pos, negsuc}
use lib.Signed.{mag, lt_z, non_neg}
use mir.Syntax.{w64}
use mir.Val.{SFits, to_z, of_z}
use mir.Facts.{to_z-of_z}
use Rattle.number.specs.Numbers.{whole_numbers}

-- a number that fits, read out of its bits
pub back : {z x : ℤ} → mag z < 2 ^ 63 → z ≡ x → to_z w64 (of_z w64 z) ≡ x
back {z} h e = to_z-of_z {w = w64} {z = z} (record { sfits = h }) ∙ e

-- a test as the machine makes it: on z, which is x
pub nonnegative : {z x : ℤ} → z ≡ x → lt_z z (pos 0) ≡ false → T (non_neg x)
nonnegative {x = x} e g = by_sign x (rw e at g)
  where
    by_sign : (y : ℤ) → lt_z y (pos 0) ≡ false → T (non_neg y)
    by_sign (pos a) h = tt
    by_sign (negsuc a) h = absurd (true≢false h)

-- a whole number is zero exactly if its bits are
pub zero_bits : (z : ℤ) → SFits w64 z → eqb (of_z w64 z) 0 ≡ whole_numbers.is_zero z
zero_bits (pos n) h = refl
zero_bits (negsuc n) h =
    ne_eqb (of_z w64 (negsuc n)) 0 (λ (e : of_z w64 (negsuc n) ≡ 0). differ (sym (to_z-of_z h) ∙ ap (to_z w64) e))
    ∙ sym (ne_eqb (suc n) 0 (λ (e : suc n ≡ 0). omega arith))
  where
    differ : negsuc n ≡ to_z w64 0 → ⊥
    differ e = let same : ◌≡◌ {A = ℕ} 0 1 = cc in omega arith
