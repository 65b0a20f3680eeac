-- Whether coefficients have a parity, and the parity that they have (`Polynomial::new`): one rule for whole numbers and f64.
use Rattle.std.specs.Prelude.{Bool, true, ◌&&◌, ◌||◌, cond, List, [], ◌∷◌, ℕ, suc}
use Rattle.algebra.specs.Allowed.{allows}
use Rattle.algebra.specs.declared.Parity.{Parity}
use Rattle.algebra.specs.declared.Parity.TheVariants.{Full, Even, Odd}
use Rattle.number.specs.Numbers.{Numbers}

module _ {A : Type 0} (numbers : Numbers A) where
  -- from place j on, every coefficient at a place that the parity doesn't allow counts as zero
  unfoldable pub has_parity_from : Parity → (j : ℕ) → List A → Bool
  has_parity_from parity j [] = true
  has_parity_from parity j (c ∷ cs) = (allows parity j || numbers.is_zero c) && has_parity_from parity (suc j) cs

  -- the coefficients have the parity
  abbrev pub has_parity : Parity → List A → Bool
  has_parity parity c = has_parity_from parity 0 c

  -- Even if they have that parity; else Odd if they have that; else Full
  unfoldable pub parity_of : List A → Parity
  parity_of c = cond (has_parity Even c) Even (cond (has_parity Odd c) Odd Full)
