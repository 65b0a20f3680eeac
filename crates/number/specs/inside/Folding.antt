-- What the fold calls' own functions ask of one another.
use Rattle.std.specs.Prelude.{◌≡◌, Bool, false, not, List, [], ◌∷◌, ℕ, ◌+◌, ◌*◌, ◌-◌, ◌≤◌, length, drop}
use Rattle.algebra.specs.Operations.{Operations}
use Rattle.algebra.specs.Fold.{every_second, folded_length, add_r}
use Rattle.algebra.specs.declared.Parity.{Parity}
use Rattle.number.specs.Limits.{plan_limit}
use Rattle.number.specs.Refusal.{first_refusal}
use Rattle.number.specs.Tests.{too_high, is_full, full_parity, too_low}

-- Even or Odd, and a place for each coefficient of the fold
pub record Foldable {A : Type 0} (parity : Parity) (c out : List A) : Type 0 where
  pub not_full : is_full parity ≡ false
  pub room : folded_length parity (length c) ≤ length out

-- place i of the fold of an odd Chebyshev polynomial: the sum from zero of c[2k+1] times coefficient i of R_k, k rising from i
abbrev pub odd_place : {A : Type 0} → Operations A → (c : List A) → (i : ℕ) → A
odd_place 𝓞 c i = add_r 𝓞 i i 𝓞.zero (every_second (drop (2 * i + 1) c))

-- the refusal of n coefficients, by whether they have the parity, are small enough and find no room
unfoldable pub refusal_by : Parity → (n : ℕ) → (fits small short : Bool) → ℕ
refusal_by parity n fits small short =
    first_refusal (too_high plan_limit (n - 1) ∷ full_parity parity ∷ too_low parity (n - 1) ∷ (not fits, 4) ∷ (not small, 3) ∷ (short, 21) ∷ [])
