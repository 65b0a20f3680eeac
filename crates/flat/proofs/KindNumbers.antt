-- Each kind's numbers are those that answers show, and there are no others: number by number.
use mathlib.Core.Path.{◌≡◌, refl}
use mathlib.Core.Bool.{Bool, true, false}
use Prim.Native.Nat.{ℕ, zero, suc}
use native.Mathlib.Omega.{arith}
use borrow.Author.Tests.{ltb-true}
use Rattle.algebra.specs.EnumNumbers.{basis_number, parity_number, transform_number}
use Rattle.algebra.specs.declared.Basis.{Basis}
use Rattle.algebra.specs.declared.Basis.TheVariants.{Monomial, Chebyshev}
use Rattle.algebra.specs.declared.Parity.{Parity}
use Rattle.algebra.specs.declared.Parity.TheVariants.{Full, Even, Odd}
use Rattle.algebra.specs.declared.PolynomialInputTransform.{PolynomialInputTransform}
use Rattle.algebra.specs.declared.PolynomialInputTransform.TheVariants.{Identity, Square, SquareTimesInput, ChebyshevT2, ChebyshevT2TimesInput}
use Rattle.counts.specs.StrategyNumber.{strategy_number}
use Rattle.counts.specs.declared.choice.SplitStrategy.{SplitStrategy}
use Rattle.counts.specs.declared.choice.SplitStrategy.TheVariants.{MinDepth, MinMult}
use Rattle.flat.specs.Kinds.{is_basis, is_parity, is_strategy, is_transform, is_fold}
use Rattle.flat.specs.Kinds.{basis_numbered, parity_numbered, strategy_numbered, transform_numbered, fold_numbered}
use Rattle.flat.specs.KindNumbers.{fold_number, KindsTold}

-- ---- bases

basis_accepted : (b : Basis) → is_basis (basis_number b) ≡ true
basis_accepted Monomial = refl
basis_accepted Chebyshev = refl

basis_same : (b : Basis) → basis_numbered (basis_number b) ≡ b
unfolding basis_numbered
basis_same Monomial = refl
basis_same Chebyshev = refl

basis_back : (n : ℕ) → is_basis n ≡ true → basis_number (basis_numbered n) ≡ n
unfolding basis_numbered
basis_back zero known = refl
basis_back (suc zero) known = refl
basis_back (suc (suc n)) known = absurd (omega (arith, ltb-true (suc (suc n)) 2 known))

-- ---- parities

parity_accepted : (p : Parity) → is_parity (parity_number p) ≡ true
parity_accepted Full = refl
parity_accepted Even = refl
parity_accepted Odd = refl

parity_same : (p : Parity) → parity_numbered (parity_number p) ≡ p
unfolding parity_numbered
parity_same Full = refl
parity_same Even = refl
parity_same Odd = refl

parity_back : (n : ℕ) → is_parity n ≡ true → parity_number (parity_numbered n) ≡ n
unfolding parity_numbered
parity_back zero known = refl
parity_back (suc zero) known = refl
parity_back (suc (suc zero)) known = refl
parity_back (suc (suc (suc n))) known = absurd (omega (arith, ltb-true (suc (suc (suc n))) 3 known))

-- ---- strategies

strategy_accepted : (s : SplitStrategy) → is_strategy (strategy_number s) ≡ true
strategy_accepted MinDepth = refl
strategy_accepted MinMult = refl

strategy_same : (s : SplitStrategy) → strategy_numbered (strategy_number s) ≡ s
unfolding strategy_numbered
strategy_same MinDepth = refl
strategy_same MinMult = refl

strategy_back : (n : ℕ) → is_strategy n ≡ true → strategy_number (strategy_numbered n) ≡ n
unfolding strategy_numbered
strategy_back zero known = refl
strategy_back (suc zero) known = refl
strategy_back (suc (suc n)) known = absurd (omega (arith, ltb-true (suc (suc n)) 2 known))

-- ---- transforms

transform_accepted : (t : PolynomialInputTransform) → is_transform (transform_number t) ≡ true
transform_accepted Identity = refl
transform_accepted Square = refl
transform_accepted SquareTimesInput = refl
transform_accepted ChebyshevT2 = refl
transform_accepted ChebyshevT2TimesInput = refl

transform_same : (t : PolynomialInputTransform) → transform_numbered (transform_number t) ≡ t
unfolding transform_numbered
transform_same Identity = refl
transform_same Square = refl
transform_same SquareTimesInput = refl
transform_same ChebyshevT2 = refl
transform_same ChebyshevT2TimesInput = refl

transform_back : (n : ℕ) → is_transform n ≡ true → transform_number (transform_numbered n) ≡ n
unfolding transform_numbered
transform_back zero known = refl
transform_back (suc zero) known = refl
transform_back (suc (suc zero)) known = refl
transform_back (suc (suc (suc zero))) known = refl
transform_back (suc (suc (suc (suc zero)))) known = refl
transform_back (suc (suc (suc (suc (suc n))))) known = absurd (omega (arith, ltb-true (suc (suc (suc (suc (suc n))))) 5 known))

-- ---- folds

fold_accepted : (f : Bool) → is_fold (fold_number f) ≡ true
fold_accepted true = refl
fold_accepted false = refl

fold_same : (f : Bool) → fold_numbered (fold_number f) ≡ f
fold_same true = refl
fold_same false = refl

fold_back : (n : ℕ) → is_fold n ≡ true → fold_number (fold_numbered n) ≡ n
fold_back zero known = refl
fold_back (suc zero) known = refl
fold_back (suc (suc n)) known = absurd (omega (arith, ltb-true (suc (suc n)) 2 known))

pub kinds_told : KindsTold
kinds_told = record {
  bases = record { accepted = basis_accepted; same = basis_same; back = basis_back };
  parities = record { accepted = parity_accepted; same = parity_same; back = parity_back };
  strategies = record { accepted = strategy_accepted; same = strategy_same; back = strategy_back };
  transforms = record { accepted = transform_accepted; same = transform_same; back = transform_back };
  folds = record { accepted = fold_accepted; same = fold_same; back = fold_back };
}
