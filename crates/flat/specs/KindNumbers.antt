-- The numbers that stand for a kind are those that answers show it by, and there are no others.
use Rattle.std.specs.Prelude.{◌≡◌, Bool, true, false, ℕ}
use Rattle.algebra.specs.EnumNumbers.{basis_number, parity_number, transform_number}
use Rattle.algebra.specs.declared.Basis.{Basis}
use Rattle.algebra.specs.declared.Parity.{Parity}
use Rattle.algebra.specs.declared.PolynomialInputTransform.{PolynomialInputTransform}
use Rattle.counts.specs.StrategyNumber.{strategy_number}
use Rattle.counts.specs.declared.choice.SplitStrategy.{SplitStrategy}
use Rattle.flat.specs.Kinds.{is_basis, is_parity, is_strategy, is_transform, is_fold}
use Rattle.flat.specs.Kinds.{basis_numbered, parity_numbered, strategy_numbered, transform_numbered, fold_numbered}

-- without folding 0, with it 1
abbrev pub fold_number : Bool → ℕ
fold_number false = 0
fold_number true = 1

-- a kind's number is known and stands for it, and a known number is that of the kind that it stands for
pub record Told (K : Type 0) (number : K → ℕ) (known : ℕ → Bool) (of : ℕ → K) : Type 0 where
  pub accepted : (kind : K) → known (number kind) ≡ true
  pub same : (kind : K) → of (number kind) ≡ kind
  pub back : (n : ℕ) → known n ≡ true → number (of n) ≡ n

pub record KindsTold : Type 0 where
  pub bases : Told Basis basis_number is_basis basis_numbered
  pub parities : Told Parity parity_number is_parity parity_numbered
  pub strategies : Told SplitStrategy strategy_number is_strategy strategy_numbered
  pub transforms : Told PolynomialInputTransform transform_number is_transform transform_numbered
  pub folds : Told Bool fold_number is_fold fold_numbered
