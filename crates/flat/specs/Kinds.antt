-- The kinds by their numbers (docs/RULES.md, "Numbers of the kinds"): which numbers are a kind's, and the kind of each. An unknown number stands for
-- the last kind, and no call uses it.
use Rattle.std.specs.Prelude.{Bool, cond, ◌&&◌, ℕ, eqb, ltb}
use Rattle.algebra.specs.declared.Basis.{Basis}
use Rattle.algebra.specs.declared.Basis.TheVariants.{Monomial, Chebyshev}
use Rattle.algebra.specs.declared.Parity.{Parity}
use Rattle.algebra.specs.declared.Parity.TheVariants.{Full, Even, Odd}
use Rattle.algebra.specs.declared.PolynomialInputTransform.{PolynomialInputTransform}
use Rattle.algebra.specs.declared.PolynomialInputTransform.TheVariants.{Identity, Square, SquareTimesInput, ChebyshevT2, ChebyshevT2TimesInput}
use Rattle.counts.specs.declared.choice.SplitStrategy.{SplitStrategy}
use Rattle.counts.specs.declared.choice.SplitStrategy.TheVariants.{MinDepth, MinMult}

abbrev pub is_basis : ℕ → Bool
is_basis n = ltb n 2

unfoldable pub basis_numbered : ℕ → Basis
basis_numbered n = cond (eqb n 0) Monomial Chebyshev

abbrev pub is_parity : ℕ → Bool
is_parity n = ltb n 3

unfoldable pub parity_numbered : ℕ → Parity
parity_numbered n = cond (eqb n 0) Full (cond (eqb n 1) Even Odd)

abbrev pub is_strategy : ℕ → Bool
is_strategy n = ltb n 2

unfoldable pub strategy_numbered : ℕ → SplitStrategy
strategy_numbered n = cond (eqb n 0) MinDepth MinMult

abbrev pub is_transform : ℕ → Bool
is_transform n = ltb n 5

unfoldable pub transform_numbered : ℕ → PolynomialInputTransform
transform_numbered n =
    cond (eqb n 0) Identity (cond (eqb n 1) Square (cond (eqb n 2) SquareTimesInput (cond (eqb n 3) ChebyshevT2 ChebyshevT2TimesInput)))

-- without folding 0, with it 1
abbrev pub is_fold : ℕ → Bool
is_fold n = ltb n 2

abbrev pub fold_numbered : ℕ → Bool
fold_numbered n = eqb n 1

-- ---- whether a call knows all its kinds

unfoldable pub knows_pair : (parity basis : ℕ) → Bool
knows_pair parity basis = is_parity parity && is_basis basis

unfoldable pub knows_all : (strategy parity basis : ℕ) → Bool
knows_all strategy parity basis = is_strategy strategy && knows_pair parity basis

-- with folding or without
unfoldable pub knows_settings : (strategy parity basis fold : ℕ) → Bool
knows_settings strategy parity basis fold = is_fold fold && knows_all strategy parity basis
