-- Every number of a step and every boundary of a plan is at most 4,096, so that a u16 holds it (docs/RULES.md, "Steps").
use Rattle.std.specs.Prelude.{Bool, List, [], ◌∷◌, ℕ, ◌≤◌, ℤ}
use Rattle.algebra.specs.declared.Basis.{Basis}
use Rattle.algebra.specs.declared.Parity.{Parity}
use Rattle.number.specs.Limits.{count_limit}
use Rattle.counts.specs.declared.choice.SplitStrategy.{SplitStrategy}
use Rattle.plan.specs.PlanCall.{Accepted, boundaries_for, numbers_for}

-- each number of a list is at most 4,096
pub data Small : List ℕ → Type 0 where
  none : Small []
  more : {n : ℕ} {ns : List ℕ} → n ≤ count_limit → Small ns → Small (n ∷ ns)

pub record Fits (strategy : SplitStrategy) (parity : Parity) (basis : Basis) (folded : Bool) (c : List ℤ) : Type 0 where
  pub boundaries : Small (boundaries_for strategy parity basis folded c)
  pub numbers : Small (numbers_for strategy parity basis folded c)

abbrev pub PlansFit : Type 0
PlansFit = (strategy : SplitStrategy) (parity : Parity) (basis : Basis) (folded : Bool) (c : List ℤ) → Accepted folded parity c
    → Fits strategy parity basis folded c
