-- The transform of a fold has its number: case by case.
use mathlib.Core.Path.{◌≡◌, refl}
use Rattle.algebra.specs.EnumNumbers.{transform_number}
use Rattle.algebra.specs.Transform.{transform_of}
use Rattle.algebra.specs.declared.Basis.{Basis}
use Rattle.algebra.specs.declared.Basis.TheVariants.{Monomial, Chebyshev}
use Rattle.algebra.specs.declared.Parity.{Parity}
use Rattle.algebra.specs.declared.Parity.TheVariants.{Full, Even, Odd}
use Rattle.demands.specs.FoldNumber.{fold_number}

pub fold_numbered_lem : (parity : Parity) (basis : Basis) → transform_number (transform_of parity basis) ≡ fold_number parity basis
unfolding transform_of
fold_numbered_lem Full basis = refl
fold_numbered_lem Even Monomial = refl
fold_numbered_lem Odd Monomial = refl
fold_numbered_lem Even Chebyshev = refl
fold_numbered_lem Odd Chebyshev = refl
