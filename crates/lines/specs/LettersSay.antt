-- The tables of letters: in the order of the kinds' numbers (docs/RULES.md, "Numbers of the kinds"), and each letter says what stands beside it.
use Rattle.std.specs.Prelude.{◌≡◌, false, List, [], ◌∷◌, map, ℕ}
use Rattle.algebra.specs.EnumNumbers.{basis_number, parity_number}
use Rattle.algebra.specs.declared.Basis.TheVariants.{Monomial}
use Rattle.algebra.specs.declared.Parity.TheVariants.{Full}
use Rattle.counts.specs.StrategyNumber.{strategy_number}
use Rattle.counts.specs.declared.choice.SplitStrategy.TheVariants.{MinDepth}
use Rattle.lines.specs.Letters.{Letters, bases, parities, strategies, folds, says}

-- the numbers of what a table's letters say
abbrev pub numbers_in : {X : Type 0} → (X → ℕ) → Letters X → List ℕ
numbers_in number rows = map (λ row. number row.1) rows

-- what a table's letters are read as, and what stands beside them
abbrev pub read_as : {X : Type 0} → X → Letters X → List X
read_as otherwise rows = map (λ row. says otherwise rows row.0) rows

abbrev pub meant : {X : Type 0} → Letters X → List X
meant rows = map (λ row. row.1) rows

pub record LettersSay : Type 0 where
  pub basis_numbers : numbers_in basis_number bases ≡ 0 ∷ 1 ∷ []
  pub parity_numbers : numbers_in parity_number parities ≡ 0 ∷ 1 ∷ 2 ∷ []
  pub strategy_numbers : numbers_in strategy_number strategies ≡ 0 ∷ 1 ∷ []
  pub basis_read : read_as Monomial bases ≡ meant bases
  pub parity_read : read_as Full parities ≡ meant parities
  pub strategy_read : read_as MinDepth strategies ≡ meant strategies
  pub fold_read : read_as false folds ≡ meant folds
