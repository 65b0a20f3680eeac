-- A degree with a split, as the counts take them.
use Rattle.std.specs.Prelude.{ℕ}
use Rattle.number.specs.Limits.{plan_limit}
use Rattle.number.specs.inside.Between.{Between}

-- a degree from 1 to the limit of plans, and a split from 1 to its greatest number of binary digits
pub record Planned (degree split : ℕ) : Type 0 where
  pub degrees : Between 1 degree plan_limit
  pub splits : Between 1 split 12
