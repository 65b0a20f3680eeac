-- Depth (docs/RULES.md, "Depth and bits").
use Rattle.std.specs.Prelude.{cond, ℕ, zero, suc, ◌+◌, ◌-◌, ◌/◌, ◌^◌, leb}
use Rattle.number.specs.Bits.{bit_len}
use Rattle.counts.specs.declared.choice.SplitStrategy.{SplitStrategy}
use Rattle.counts.specs.declared.choice.SplitStrategy.TheVariants.{MinDepth, MinMult}

-- the least degree of a bit length at which MinMult takes one level more
abbrev pub threshold : (bits : ℕ) → ℕ
threshold bits = 2 ^ bits - 2 ^ ((bits - 1) / 2) + 1

-- the bit length of the degree; for MinMult one more from the threshold on; 0 at degree 0
unfoldable pub depth_of : SplitStrategy → (degree : ℕ) → ℕ
depth_of strategy zero = 0
depth_of MinDepth (suc d) = bit_len (suc d)
depth_of MinMult (suc d) = bit_len (suc d) + cond (leb (threshold (bit_len (suc d))) (suc d)) 1 0
