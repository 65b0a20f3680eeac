-- The distance of two numbers.
use Rattle.std.specs.Prelude.{ℕ, ◌+◌, ◌-◌}

-- |a − b|: one of the two differences is 0
abbrev pub distance_of : (a b : ℕ) → ℕ
distance_of a b = (a - b) + (b - a)
