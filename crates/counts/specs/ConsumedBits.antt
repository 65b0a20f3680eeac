-- Consumed bits (docs/RULES.md, "Depth and bits"): the published closed form for the weight of the heaviest chain.
-- Each ct-ct multiplication weighs the input scale, and a chain has at most one pt-ct, which weighs the coefficient scale.
use Rattle.std.specs.Prelude.{cond, ℕ, zero, suc, ◌+◌, ◌-◌, ◌*◌, max, eqb}
use Rattle.number.specs.Bits.{bit_len, is_power_of_two}
use Rattle.counts.specs.Depth.{depth_of}
use Rattle.counts.specs.declared.choice.SplitStrategy.{SplitStrategy}
use Rattle.counts.specs.declared.choice.SplitStrategy.TheVariants.{MinDepth, MinMult}

-- the ct-ct multiplications of the longest chain without a pt-ct: the bit length, less one for a power of two
unfoldable pub pure_chain : (degree : ℕ) → ℕ
pure_chain degree = bit_len degree - cond (is_power_of_two degree) 1 0

-- the ct-ct multiplications of the longest chain with a pt-ct: the depth less one, but 1 for MinMult at degree 5
unfoldable pub chain_before : SplitStrategy → (degree : ℕ) → ℕ
chain_before MinDepth degree = depth_of MinDepth degree - 1
chain_before MinMult degree = cond (eqb degree 5) 1 (depth_of MinMult degree - 1)

-- the heavier of the two chains; 0 at degree 0
unfoldable pub bits_of : SplitStrategy → (degree input coeff : ℕ) → ℕ
bits_of strategy zero input coeff = 0
bits_of strategy (suc d) input coeff = max (pure_chain (suc d) * input) (chain_before strategy (suc d) * input + coeff)
