-- The rows are what they say: over every ring, the sum of row n's coefficients times the elements of `to` is element n of the other basis, times its
-- denominator.
use Rattle.std.specs.Prelude.{◌≡◌, ℕ, ◌-◌, ◌<◌}
use Rattle.algebra.specs.Operations.{Operations, two}
use Rattle.algebra.specs.Power.{pow, power}
use Rattle.algebra.specs.Ring.{Ring}
use Rattle.algebra.specs.Value.{sum}
use Rattle.algebra.specs.declared.Basis.{Basis}
use Rattle.algebra.specs.declared.Basis.TheVariants.{Monomial, Chebyshev}
use Rattle.bases.specs.Rows.{other, row_of}

-- the denominator, as a number of the ring
abbrev pub denominator_in : {A : Type 0} → Operations A → (to : Basis) → (n : ℕ) → A
denominator_in 𝓞 Monomial n = 𝓞.one
denominator_in 𝓞 Chebyshev n = pow 𝓞 (two 𝓞) (n - 1)

-- the sum runs over the places below any number that is more than n
abbrev pub RowsLaw : {A : Type 0} → Ring A → Type 0
RowsLaw {A} 𝓡 = (to : Basis) (x : A) (n places : ℕ) → n < places
    → sum 𝓡.ops (λ i. 𝓡.ops.mul (row_of 𝓡.ops to n i) (power 𝓡.ops to x i)) places
    ≡ 𝓡.ops.mul (denominator_in 𝓡.ops to n) (power 𝓡.ops (other to) x n)
