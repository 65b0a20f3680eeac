-- The number of a fold's transform (docs/RULES.md, "Numbers of the kinds" and "Folding"), by parity and basis.
use Rattle.std.specs.Prelude.{ℕ}
use Rattle.algebra.specs.declared.Basis.{Basis}
use Rattle.algebra.specs.declared.Basis.TheVariants.{Monomial, Chebyshev}
use Rattle.algebra.specs.declared.Parity.{Parity}
use Rattle.algebra.specs.declared.Parity.TheVariants.{Full, Even, Odd}

-- 1 to 4; for Full, with which no fold is accepted, 0, the number of Identity
abbrev pub fold_number : Parity → Basis → ℕ
fold_number Full basis = 0
fold_number Even Monomial = 1
fold_number Odd Monomial = 2
fold_number Even Chebyshev = 3
fold_number Odd Chebyshev = 4
