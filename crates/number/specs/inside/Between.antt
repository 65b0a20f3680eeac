-- A range of numbers.
use Rattle.std.specs.Prelude.{ℕ, ◌≤◌}

-- n is from low to high
pub record Between (low n high : ℕ) : Type 0 where
  pub from : low ≤ n
  pub to : n ≤ high
