-- The magnitudes of whole coefficients.
use Rattle.std.specs.Prelude.{List, [], ◌∷◌, ℕ, ◌+◌, ℤ, nat_abs}

-- the sum of the magnitudes
unfoldable pub sum_abs : List ℤ → ℕ
sum_abs [] = 0
sum_abs (x ∷ xs) = nat_abs x + sum_abs xs
