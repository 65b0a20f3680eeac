-- The transforms of a folded polynomial (docs/RULES.md, "Folding" and "Steps and the walk"): what the input goes through before it is evaluated.
use Rattle.algebra.specs.Operations.{Operations, double}
use Rattle.algebra.specs.declared.Basis.{Basis}
use Rattle.algebra.specs.declared.Basis.TheVariants.{Monomial, Chebyshev}
use Rattle.algebra.specs.declared.Parity.{Parity}
use Rattle.algebra.specs.declared.Parity.TheVariants.{Full, Even, Odd}
use Rattle.algebra.specs.declared.PolynomialInputTransform.{PolynomialInputTransform}
use Rattle.algebra.specs.declared.PolynomialInputTransform.TheVariants.{Identity, Square, SquareTimesInput, ChebyshevT2, ChebyshevT2TimesInput}

-- the transform of a fold, by parity and basis; Full has no fold, and nothing is transformed
unfoldable pub transform_of : Parity → Basis → PolynomialInputTransform
transform_of Full basis = Identity
transform_of Even Monomial = Square
transform_of Even Chebyshev = ChebyshevT2
transform_of Odd Monomial = SquareTimesInput
transform_of Odd Chebyshev = ChebyshevT2TimesInput

module _ {A : Type 0} (𝓞 : Operations A) where
  -- y is x, x² or 2x² - 1 by transform
  unfoldable pub input_of : PolynomialInputTransform → A → A
  input_of Identity x = x
  input_of Square x = 𝓞.mul x x
  input_of SquareTimesInput x = 𝓞.mul x x
  input_of ChebyshevT2 x = 𝓞.sub (double 𝓞 (𝓞.mul x x)) 𝓞.one
  input_of ChebyshevT2TimesInput x = 𝓞.sub (double 𝓞 (𝓞.mul x x)) 𝓞.one

  -- a TimesInput transform multiplies the value that is left by x
  unfoldable pub output_of : PolynomialInputTransform → A → A → A
  output_of Identity x v = v
  output_of Square x v = v
  output_of SquareTimesInput x v = 𝓞.mul x v
  output_of ChebyshevT2 x v = v
  output_of ChebyshevT2TimesInput x v = 𝓞.mul x v
