-- What a parity allows: all powers for Full, the even ones for Even, the odd ones for Odd.
use Rattle.std.specs.Prelude.{◌≡◌, Bool, true, false, List, ℕ, ◌%◌, eqb, get_or}
use Rattle.algebra.specs.Operations.{Operations}
use Rattle.algebra.specs.declared.Parity.{Parity}
use Rattle.algebra.specs.declared.Parity.TheVariants.{Full, Even, Odd}

-- the places of a list that count: the allowed powers, and the constant unless Odd
unfoldable pub allows : Parity → ℕ → Bool
allows Full j = true
allows Even j = eqb (j % 2) 0
allows Odd j = eqb (j % 2) 1

-- the coefficients at all other places are zero
abbrev pub HasParity : {A : Type 0} → Operations A → Parity → List A → Type 0
HasParity 𝓞 parity c = (j : ℕ) → allows parity j ≡ false → get_or c j 𝓞.zero ≡ 𝓞.zero
