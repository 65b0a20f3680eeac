-- Depth for degrees from 1: by strategy and the test against the threshold. It is from 1 to 33, as a degree has 1 to 32 binary digits.
use mathlib.Core.Path.{◌≡◌, refl, ◌∙◌}
use mathlib.Core.Bool.{cond}
use Prim.Native.Nat.{ℕ, zero, suc, ◌+◌, ◌-◌, ◌/◌, ◌^◌, ◌≤◌, ◌<◌}
use native.Mathlib.Omega.{arith}
use borrow.Author.Tests.{le-leb, lt-leb}
use lib.Dec.{leb}
use lib.Pow.{pow_mono}
use Rattle.number.specs.Bits.{bit_len}
use Rattle.number.specs.Limits.{degree_limit}
use Rattle.number.specs.inside.Between.{Between}
use Rattle.counts.specs.Depth.{threshold, depth_of}
use Rattle.counts.specs.declared.choice.SplitStrategy.{SplitStrategy}
use Rattle.counts.specs.declared.choice.SplitStrategy.TheVariants.{MinDepth, MinMult}
use Rattle.number.proofs.Bits.{digits_range}
use Rattle.needed.proofs.Flags.{at_most_one}

least_is : (degree : ℕ) → 0 < degree → bit_len degree ≡ depth_of MinDepth degree
unfolding depth_of
least_is zero positive = absurd (omega arith)
least_is (suc d) positive = refl

mult_is : (degree : ℕ) → 0 < degree → depth_of MinMult degree ≡ bit_len degree + cond (leb (threshold (bit_len degree)) degree) 1 0
unfolding depth_of
mult_is zero positive = absurd (omega arith)
mult_is (suc d) positive = refl

-- a depth is from 1 to 33
pub depth_bounds : (strategy : SplitStrategy) (degree : ℕ) → Between 1 degree degree_limit → Between 1 (depth_of strategy degree) 33
depth_bounds MinDepth degree range =
    let digits = digits_range degree range in
    let is = least_is degree range.from in
    record { from = omega arith; to = omega arith }
depth_bounds MinMult degree range =
    let digits = digits_range degree range in
    let is = mult_is degree range.from in
    let more = at_most_one (leb (threshold (bit_len degree)) degree) in
    record { from = omega arith; to = omega arith }

-- the threshold's difference does not fall below 0
pub half_fits : (bits : ℕ) {p q : ℕ} → p ≡ 2 ^ bits → q ≡ 2 ^ ((bits - 1) / 2) → q ≤ p
half_fits bits p_is q-is = let grows : 2 ^ ((bits - 1) / 2) ≤ 2 ^ bits = pow_mono (omega arith) in omega (arith, p_is, q-is)

module _ (degree : ℕ) (positive : 0 < degree) {bits : ℕ} (bits_is : bits ≡ bit_len degree) where
  pub depth_least : bits ≡ depth_of MinDepth degree
  depth_least = bits_is ∙ least_is degree positive

  pub depth_more : threshold bits ≤ degree → bits + 1 ≡ depth_of MinMult degree
  depth_more reached =
      let test : threshold (bit_len degree) ≤ degree = rw bits_is at reached in
      rw (mult_is degree positive, le-leb _ _ test, bits_is)

  pub depth_same : degree < threshold bits → bits ≡ depth_of MinMult degree
  depth_same under =
      let test : degree < threshold (bit_len degree) = rw bits_is at under in
      rw (mult_is degree positive, lt-leb _ _ test, bits_is) (omega arith)
