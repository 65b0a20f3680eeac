-- Degrees that have the same bits.
use Rattle.std.specs.Prelude.{◌≡◌, ℕ, ◌≤◌, ◌<◌}
use Rattle.counts.specs.ConsumedBits.{bits_of}
use Rattle.counts.specs.declared.choice.SplitStrategy.{SplitStrategy}

-- a lower degree, such that the degrees between have the bits of the upper one, at any scales
pub record SameDownTo (strategy : SplitStrategy) (degree lower : ℕ) : Type 0 where
  pub under : lower < degree
  pub same : (d input coeff : ℕ) → lower < d → d ≤ degree → bits_of strategy d input coeff ≡ bits_of strategy degree input coeff
