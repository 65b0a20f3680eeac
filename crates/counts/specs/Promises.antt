-- What is promised of the choice of the split.
use Rattle.std.specs.Prelude.{◌≡◌, ℕ, ◌+◌, ◌-◌, ◌/◌, ◌^◌, ◌≤◌, ◌<◌}
use Rattle.algebra.specs.declared.Basis.{Basis}
use Rattle.algebra.specs.declared.Parity.{Parity}
use Rattle.number.specs.Bits.{bit_len}
use Rattle.number.specs.Limits.{degree_limit, plan_limit}
use Rattle.counts.specs.Pair.{pair_at}
use Rattle.counts.specs.MinDepth.{min_depth, published_min_depth}
use Rattle.counts.specs.MinMult.{Smallest, min_mult}
use Rattle.counts.specs.Choice.{split_for}
use Rattle.counts.specs.declared.choice.SplitStrategy.{SplitStrategy}
use Rattle.counts.specs.declared.choice.SplitStrategy.TheVariants.{MinDepth}

-- of MinDepth's case at a bit length
pub record CasePublished (bits : ℕ) : Type 0 where
  -- it is what the source's formulas a and b give
  pub same : min_depth bits ≡ published_min_depth bits
  -- in them no difference falls below 0 and no sum passes 64 bits, so on the source's unsigned numbers they are the same
  pub exponents : bits / 2 + 1 ≤ bits
  pub a_from_zero : bits / 2 + 3 ≤ 2 ^ (bits / 2) + 2 ^ (bits - bits / 2) + bits
  pub b_from_zero : bits / 2 + 4 ≤ 2 ^ (bits / 2 + 1) + 2 ^ (bits - bits / 2 - 1) + bits
  pub a_fits : 2 ^ (bits / 2) + 2 ^ (bits - bits / 2) + bits < 2 ^ 64
  pub b_fits : 2 ^ (bits / 2 + 1) + 2 ^ (bits - bits / 2 - 1) + bits < 2 ^ 64

-- for every bit length from 1 to 32
abbrev pub CasesPublished : Type 0
CasesPublished = (bits : ℕ) → 1 ≤ bits → bits ≤ 32 → CasePublished bits

-- of the choice, for all parities, bases and degrees
pub record Chosen (parity : Parity) (basis : Basis) (degree : ℕ) : Type 0 where
  -- at degrees from 1 to 4,294,967,295 MinDepth takes the split of the source's formulas
  pub published : 1 ≤ degree → degree ≤ degree_limit → split_for MinDepth parity basis degree ≡ published_min_depth (bit_len degree)
  -- MinMult takes the smallest split from 1 to L with the least pair
  pub least_pair : 1 < bit_len degree → Smallest (pair_at parity basis degree) (bit_len degree) (min_mult parity basis degree)
  -- and there is no other such split
  pub only : 1 < bit_len degree → (s : ℕ) → Smallest (pair_at parity basis degree) (bit_len degree) s → s ≡ min_mult parity basis degree
  -- at degrees from 1 to 4,095 both strategies choose a split from 1 to 12
  pub from_one : (strategy : SplitStrategy) → 1 ≤ degree → degree ≤ plan_limit → 1 ≤ split_for strategy parity basis degree
  pub to_twelve : (strategy : SplitStrategy) → 1 ≤ degree → degree ≤ plan_limit → split_for strategy parity basis degree ≤ 12
