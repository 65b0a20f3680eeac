-- Degrees that have the same bits. Between a degree and its top power all have its bit length, and none is a power of two, so their longest chains
-- without a pt-ct are equal. The chains with one go by the depth, which is equal on each side of the threshold; degree 5 is left out.
use mathlib.Core.Path.{◌≡◌, ap, sym, ◌∙◌}
use Prim.Native.Nat.{ℕ, ◌+◌, ◌-◌, ◌*◌, ◌/◌, ◌^◌, ◌≤◌, ◌<◌, max}
use native.Mathlib.Omega.{arith}
use lib.Pow.{pow_mono}
use Rattle.number.specs.Bits.{bit_len, top_power}
use Rattle.counts.specs.Depth.{threshold}
use Rattle.counts.specs.ConsumedBits.{pure_chain, chain_before, bits_of}
use Rattle.counts.specs.inside.SameBits.{SameDownTo}
use Rattle.counts.specs.declared.choice.SplitStrategy.{SplitStrategy}
use Rattle.counts.specs.declared.choice.SplitStrategy.TheVariants.{MinDepth, MinMult}
use Rattle.number.proofs.Bits.{len_above, len_unique, top_doubled, top_power_lem}
use Rattle.counts.proofs.DepthLaws.{depth_least, depth_more, depth_same}
use Rattle.counts.proofs.ConsumedLaws.{pure_whole, before_least, before_other, bits_from_one}

-- one degree lower leaves none between
pub one_lower : (strategy : SplitStrategy) (degree : ℕ) → 0 < degree → SameDownTo strategy degree (degree - 1)
one_lower strategy degree positive = record {
  under = omega arith;
  same = λ d input coeff above most. ap (λ (x : ℕ). bits_of strategy x input coeff) (omega arith);
}

module _ (degree : ℕ) (positive : 0 < degree) where
  module _ (d : ℕ) (above : top_power degree < d) (most : d ≤ degree) where
    same_length : bit_len degree ≡ bit_len d
    same_length = len_unique d (bit_len degree) (omega arith) (omega (arith, len_above degree))
        (omega (arith, top_doubled degree positive))

    same_power : top_power degree ≡ top_power d
    unfolding top_power
    same_power = ap (λ (bits : ℕ). 2 ^ (bits - 1)) same_length

    same_pure : bit_len degree ≡ pure_chain d
    same_pure = pure_whole d same_length same_power (λ is. omega arith)

  -- where the chains with a pt-ct are equal too
  module _ (strategy : SplitStrategy) (lower before : ℕ) (from : top_power degree ≤ lower) (under : lower < degree)
      (same_before : (d : ℕ) → lower < d → d ≤ degree → before ≡ chain_before strategy d) where
    bits_are : (d input coeff : ℕ) → lower < d → d ≤ degree → bits_of strategy d input coeff ≡ max (bit_len degree * input) (before * input + coeff)
    bits_are d input coeff above most =
        rw (same_pure d (omega arith) most, same_before d above most) (bits_from_one strategy d input coeff (omega arith))

    same_down : SameDownTo strategy degree lower
    same_down = record {
      under = under;
      same = λ d input coeff above most. bits_are d input coeff above most ∙ sym (bits_are degree input coeff under (omega arith));
    }

  module _ {p : ℕ} (p_is : p ≡ top_power degree) (no_power : degree ≡ p → ⊥) where
    under_power : top_power degree < degree
    under_power = let top = top_power_lem degree positive in omega (arith, p_is, no_power)

    -- for MinDepth down to the top power
    pub least_to_power : SameDownTo MinDepth degree p
    least_to_power =
        rw p_is
        (same_down MinDepth (top_power degree) (bit_len degree - 1) (omega arith) under_power
        (λ d above most. before_least d (depth_least d (omega arith) (same_length d above most))))

    -- for MinMult too, below the threshold
    pub mult_to_power : 8 < degree → degree < threshold (bit_len degree) → SameDownTo MinMult degree p
    mult_to_power over_eight low =
        let top = top_power_lem degree positive in
        rw p_is
        (same_down MinMult (top_power degree) (bit_len degree - 1) (omega arith) under_power
        (λ d above most. before_other d (depth_same d (omega arith) (same_length d above most) (omega arith)) (λ five. omega arith)))

  -- and from the threshold on down to the degree below it
  pub mult_to_threshold : 8 < degree → threshold (bit_len degree) ≤ degree → SameDownTo MinMult degree (threshold (bit_len degree) - 1)
  unfolding top_power
  mult_to_threshold over_eight reached =
      let top = top_power_lem degree positive in
      let half : 2 ^ ((bit_len degree - 1) / 2) ≤ 2 ^ (bit_len degree - 1) = pow_mono (omega arith) in
      let doubled = top_doubled degree positive in
      same_down MinMult (threshold (bit_len degree) - 1) (bit_len degree + 1 - 1) (omega arith) (omega arith)
      (λ d above most. before_other d (depth_more d (omega arith) (same_length d (omega arith) most) (omega arith)) (λ five. omega arith))
