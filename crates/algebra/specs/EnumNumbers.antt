-- The number of each basis, parity and transform (docs/RULES.md, "Numbers of the kinds"). Answers and lines show them by these numbers.
use Rattle.std.specs.Prelude.{◌≡◌, ℕ}
use Rattle.algebra.specs.declared.Basis.{Basis}
use Rattle.algebra.specs.declared.Basis.TheVariants.{Monomial, Chebyshev}
use Rattle.algebra.specs.declared.Parity.{Parity}
use Rattle.algebra.specs.declared.Parity.TheVariants.{Full, Even, Odd}
use Rattle.algebra.specs.declared.PolynomialInputTransform.{PolynomialInputTransform}
use Rattle.algebra.specs.declared.PolynomialInputTransform.TheVariants.{Identity, Square, SquareTimesInput, ChebyshevT2, ChebyshevT2TimesInput}

abbrev pub basis_number : Basis → ℕ
basis_number Monomial = 0
basis_number Chebyshev = 1

abbrev pub parity_number : Parity → ℕ
parity_number Full = 0
parity_number Even = 1
parity_number Odd = 2

abbrev pub transform_number : PolynomialInputTransform → ℕ
transform_number Identity = 0
transform_number Square = 1
transform_number SquareTimesInput = 2
transform_number ChebyshevT2 = 3
transform_number ChebyshevT2TimesInput = 4

-- no two share a number
pub record NumbersTellApart : Type 0 where
  pub bases : (a b : Basis) → basis_number a ≡ basis_number b → a ≡ b
  pub parities : (a b : Parity) → parity_number a ≡ parity_number b → a ≡ b
  pub transforms : (a b : PolynomialInputTransform) → transform_number a ≡ transform_number b → a ≡ b
