-- No two bases, parities or transforms share a number: case by case.
use mathlib.Core.Path.{◌≡◌, refl}
use native.Mathlib.Omega.{arith}
use Rattle.algebra.specs.EnumNumbers.{basis_number, parity_number, transform_number, NumbersTellApart}
use Rattle.algebra.specs.declared.Basis.{Basis}
use Rattle.algebra.specs.declared.Basis.TheVariants.{Monomial, Chebyshev}
use Rattle.algebra.specs.declared.Parity.{Parity}
use Rattle.algebra.specs.declared.Parity.TheVariants.{Full, Even, Odd}
use Rattle.algebra.specs.declared.PolynomialInputTransform.{PolynomialInputTransform}
use Rattle.algebra.specs.declared.PolynomialInputTransform.TheVariants.{Identity, Square, SquareTimesInput, ChebyshevT2, ChebyshevT2TimesInput}

bases_apart : (a b : Basis) → basis_number a ≡ basis_number b → a ≡ b
bases_apart Monomial Monomial same = refl
bases_apart Monomial Chebyshev same = absurd (omega arith)
bases_apart Chebyshev Monomial same = absurd (omega arith)
bases_apart Chebyshev Chebyshev same = refl

parities_apart : (a b : Parity) → parity_number a ≡ parity_number b → a ≡ b
parities_apart Full Full same = refl
parities_apart Full Even same = absurd (omega arith)
parities_apart Full Odd same = absurd (omega arith)
parities_apart Even Full same = absurd (omega arith)
parities_apart Even Even same = refl
parities_apart Even Odd same = absurd (omega arith)
parities_apart Odd Full same = absurd (omega arith)
parities_apart Odd Even same = absurd (omega arith)
parities_apart Odd Odd same = refl

transforms_apart : (a b : PolynomialInputTransform) → transform_number a ≡ transform_number b → a ≡ b
transforms_apart Identity Identity same = refl
transforms_apart Identity Square same = absurd (omega arith)
transforms_apart Identity SquareTimesInput same = absurd (omega arith)
transforms_apart Identity ChebyshevT2 same = absurd (omega arith)
transforms_apart Identity ChebyshevT2TimesInput same = absurd (omega arith)
transforms_apart Square Identity same = absurd (omega arith)
transforms_apart Square Square same = refl
transforms_apart Square SquareTimesInput same = absurd (omega arith)
transforms_apart Square ChebyshevT2 same = absurd (omega arith)
transforms_apart Square ChebyshevT2TimesInput same = absurd (omega arith)
transforms_apart SquareTimesInput Identity same = absurd (omega arith)
transforms_apart SquareTimesInput Square same = absurd (omega arith)
transforms_apart SquareTimesInput SquareTimesInput same = refl
transforms_apart SquareTimesInput ChebyshevT2 same = absurd (omega arith)
transforms_apart SquareTimesInput ChebyshevT2TimesInput same = absurd (omega arith)
transforms_apart ChebyshevT2 Identity same = absurd (omega arith)
transforms_apart ChebyshevT2 Square same = absurd (omega arith)
transforms_apart ChebyshevT2 SquareTimesInput same = absurd (omega arith)
transforms_apart ChebyshevT2 ChebyshevT2 same = refl
transforms_apart ChebyshevT2 ChebyshevT2TimesInput same = absurd (omega arith)
transforms_apart ChebyshevT2TimesInput Identity same = absurd (omega arith)
transforms_apart ChebyshevT2TimesInput Square same = absurd (omega arith)
transforms_apart ChebyshevT2TimesInput SquareTimesInput same = absurd (omega arith)
transforms_apart ChebyshevT2TimesInput ChebyshevT2 same = absurd (omega arith)
transforms_apart ChebyshevT2TimesInput ChebyshevT2TimesInput same = refl

pub numbers_tell_apart : NumbersTellApart
numbers_tell_apart = record { bases = bases_apart; parities = parities_apart; transforms = transforms_apart }
