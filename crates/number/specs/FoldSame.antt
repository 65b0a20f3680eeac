-- Whole coefficients fold to the same numbers as f64 (docs/RULES.md, "Exactness of f64").
use Rattle.std.specs.Prelude.{◌≡◌, true, List, map, ℤ}
use Rattle.algebra.specs.Operations.{whole_ops}
use Rattle.algebra.specs.Fold.{fold}
use Rattle.algebra.specs.declared.Basis.{Basis}
use Rattle.algebra.specs.declared.Parity.{Parity}
use Rattle.number.specs.Numbers.{whole_numbers, float_ops, float_numbers}
use Rattle.number.specs.Exact.{num, AllTo53}
use Rattle.number.specs.FoldCall.{fold_answer, fold_buffer}

-- every number written has magnitude at most 2^53, and the f64 fold writes equal numbers; so the f64 call on the same coefficients, and a buffer
-- with the same numbers, has an equal answer and leaves equal numbers
pub record FoldSame (parity : Parity) (basis : Basis) (c : List ℤ) : Type 0 where
  pub within : AllTo53 (fold whole_ops parity basis c)
  pub written : fold float_ops parity basis (map num c) ≡ map num (fold whole_ops parity basis c)
  pub answer : (out : List ℤ) → fold_answer float_numbers parity basis (map num c) (map num out) ≡ fold_answer whole_numbers parity basis c out
  pub buffer : (out : List ℤ) → fold_buffer float_numbers parity basis (map num c) (map num out) ≡ map num (fold_buffer whole_numbers parity basis c out)

-- with magnitudes summing to at most 2^30
abbrev pub FoldsSame : Type 0
FoldsSame = (parity : Parity) (basis : Basis) (c : List ℤ) → whole_numbers.small c ≡ true → FoldSame parity basis c
