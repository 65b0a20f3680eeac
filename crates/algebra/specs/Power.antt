-- The powers of a basis: X^n, or T_n.
use Rattle.std.specs.Prelude.{ℕ, zero, suc}
use Rattle.algebra.specs.Operations.{Operations, double}
use Rattle.algebra.specs.declared.Basis.{Basis}
use Rattle.algebra.specs.declared.Basis.TheVariants.{Monomial, Chebyshev}

module _ {A : Type 0} (𝓞 : Operations A) where
  -- X^0 = 1, X^(n+1) = x·X^n
  unfoldable pub pow : A → ℕ → A
  pow x zero = 𝓞.one
  pow x (suc n) = 𝓞.mul x (pow x n)

  -- T_0 = 1, T_1 = x, T_(n+2) = 2x·T_(n+1) - T_n
  unfoldable pub cheb : A → ℕ → A
  cheb x zero = 𝓞.one
  cheb x (suc zero) = x
  cheb x (suc (suc n)) = 𝓞.sub (𝓞.mul (double 𝓞 x) (cheb x (suc n))) (cheb x n)

  -- power n of a basis at x
  abbrev pub power : Basis → A → ℕ → A
  power Monomial x n = pow x n
  power Chebyshev x n = cheb x n
