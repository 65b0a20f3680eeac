-- The Chebyshev cut of one coefficient and its partner, and of two neighbours, within a list.
use Rattle.std.specs.Prelude.{List, ℕ, ◌+◌, ◌-◌, get_or, set}
use Rattle.algebra.specs.Operations.{Operations, double}

module _ {A : Type 0} (𝓞 : Operations A) (d : A) where
  -- the coefficient at low loses the one at high, which doubles
  unfoldable pub cut_one : List A → ℕ → ℕ → List A
  cut_one c low high = set (set c low (𝓞.sub (get_or c low d) (get_or c high d))) high (double 𝓞 (get_or c high d))

  -- then the next pair outwards as well
  unfoldable pub cut_two : List A → ℕ → ℕ → List A
  cut_two c low high = cut_one (cut_one c low high) (low - 1) (high + 1)

-- both coefficients of a pair have P
pub record EachOfPair {A : Type 0} (P : A → Type 0) (d : A) (c : List A) (low high : ℕ) : Type 0 where
  pub at_low : P (get_or c low d)
  pub at_high : P (get_or c high d)
