-- pt-ct multiplications (docs/RULES.md, "Choosing the split"): for each slice the allowed powers from 1 to its degree.
use Rattle.std.specs.Prelude.{◌≡◌, cond, List, [], ◌∷◌, ℕ, zero, suc, ◌+◌, ◌/◌}
use Rattle.algebra.specs.Allowed.{allows}
use Rattle.algebra.specs.declared.Parity.{Parity}
use Rattle.algebra.specs.declared.Parity.TheVariants.{Full, Even, Odd}

-- how many of the powers from 1 to the degree the parity allows
unfoldable pub allowed_to : Parity → (degree : ℕ) → ℕ
allowed_to parity zero = 0
allowed_to parity (suc d) = allowed_to parity d + cond (allows parity (suc d)) 1 0

-- the pt-ct multiplications of all slices, given by their degrees
unfoldable pub plain_count : Parity → (slices : List ℕ) → ℕ
plain_count parity [] = 0
plain_count parity (degree ∷ slices) = allowed_to parity degree + plain_count parity slices

-- all powers for Full, every second one for Even and Odd
pub record AllowedCounts (degree : ℕ) : Type 0 where
  pub full : allowed_to Full degree ≡ degree
  pub even : allowed_to Even degree ≡ degree / 2
  pub odd : allowed_to Odd degree ≡ (degree + 1) / 2
