-- What the function that writes the coefficients asks for.
use Rattle.std.specs.Prelude.{◌≡◌, List, ◌<◌, ◌≤◌, length, Float}
use Rattle.number.specs.Limits.{count_limit}

-- as many values as nodes, from 1 to the limit, and a place for each coefficient
pub record Fillable (nodes values out : List Float) : Type 0 where
  pub even : length nodes ≡ length values
  pub some : 0 < length nodes
  pub few : length nodes ≤ count_limit
  pub places : length out ≡ length nodes
