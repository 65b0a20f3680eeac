-- The split that a strategy chooses, and the pair at it.
use Rattle.std.specs.Prelude.{ℕ, zero, suc}
use Rattle.algebra.specs.declared.Basis.{Basis}
use Rattle.algebra.specs.declared.Parity.{Parity}
use Rattle.number.specs.Bits.{bit_len}
use Rattle.counts.specs.Pair.{pair_at}
use Rattle.counts.specs.MinDepth.{min_depth}
use Rattle.counts.specs.MinMult.{min_mult}
use Rattle.counts.specs.declared.pair.Pair.{Pair}
use Rattle.counts.specs.declared.choice.SplitStrategy.{SplitStrategy}
use Rattle.counts.specs.declared.choice.SplitStrategy.TheVariants.{MinDepth, MinMult}

-- the split of a degree by strategy
unfoldable pub split_for : SplitStrategy → Parity → Basis → (degree : ℕ) → ℕ
split_for MinDepth parity basis degree = min_depth (bit_len degree)
split_for MinMult parity basis degree = min_mult parity basis degree

-- the pair at the chosen split; at degree 0 it is (0, 0)
unfoldable pub counts_of : SplitStrategy → Parity → Basis → (degree : ℕ) → Pair
counts_of strategy parity basis zero = record { ct = 0; pt = 0 }
counts_of strategy parity basis (suc d) = pair_at parity basis (suc d) (split_for strategy parity basis (suc d))
