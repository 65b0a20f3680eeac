-- The rule of the slices (docs/RULES.md, "Choosing the split"), without the bound on the cuts.
use Rattle.std.specs.Prelude.{◌≡◌, [], ◌∷◌, ◌++◌, ℕ, ◌-◌, ◌^◌, ◌≤◌, ◌<◌}
use Rattle.number.specs.Bits.{top_power}
use Rattle.counts.specs.Slices.{slices_of}

-- what the slices of a degree are at a split
pub record SliceRule (degree split : ℕ) : Type 0 where
  -- a degree below the base is one slice
  pub one : degree < 2 ^ split → slices_of degree split ≡ degree ∷ []
  -- a larger one is cut at p, the greatest power of two at most the degree: the slices of p − 1, then those of degree − p
  pub cut : 2 ^ split ≤ degree → slices_of degree split ≡ slices_of (top_power degree - 1) split ++ slices_of (degree - top_power degree) split
