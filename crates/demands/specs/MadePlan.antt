-- A plan that a call made, on whatever interval and in whatever buffers.
use Rattle.std.specs.Prelude.{◌≡◌, Bool, List, ℕ, ◌*◌, Float, ℤ, take}
use Rattle.algebra.specs.declared.Basis.{Basis}
use Rattle.algebra.specs.declared.Parity.{Parity}
use Rattle.counts.specs.declared.choice.SplitStrategy.{SplitStrategy}
use Rattle.plan.specs.PlanCall.{Accepted, PlanCall, Planned}
use Rattle.demands.specs.Accepts.{BringsPlan}

-- a call with these settings that accepted c: the interval and the buffers that it was lent, its answer, and what it left in the buffers
pub record MadePlan (strategy : SplitStrategy) (parity : Parity) (basis : Basis) (folded : Bool) (c : List ℤ) : Type 0 where
  pub lower : Float
  pub upper : Float
  pub out : List ℤ
  pub bounds : List ℕ
  pub steps : List ℕ
  pub answer : Planned
  pub out' : List ℤ
  pub bounds' : List ℕ
  pub steps' : List ℕ
  pub called : PlanCall strategy parity basis folded c lower upper out bounds steps answer out' bounds' steps'
  pub accepted : answer.refusal ≡ 0

module _ {strategy : SplitStrategy} {parity : Parity} {basis : Basis} {folded : Bool} {c : List ℤ} (plan : MadePlan strategy parity basis folded c) where
  -- what it left in the places that its head counts: the lists one after another, their boundaries, and four numbers for each step
  abbrev pub lists_in : List ℤ
  lists_in = take plan.answer.head.coefficients plan.out'

  abbrev pub boundaries_in : List ℕ
  boundaries_in = take plan.answer.head.lists plan.bounds'

  abbrev pub steps_in : List ℕ
  steps_in = take (4 * plan.answer.head.steps) plan.steps'

-- one that was made on this interval and in these buffers
pub record MadeWith (strategy : SplitStrategy) (parity : Parity) (basis : Basis) (folded : Bool) (c : List ℤ) (a b : Float) (out : List ℤ)
    (bounds steps : List ℕ) : Type 0 where
  pub plan : MadePlan strategy parity basis folded c
  pub lower_is : plan.lower ≡ a
  pub upper_is : plan.upper ≡ b
  pub out_is : plan.out ≡ out
  pub bounds_are : plan.bounds ≡ bounds
  pub steps_are : plan.steps ≡ steps

-- what is accepted has one on every interval with its bounds in order and in all buffers that are long enough; and nothing else has one
pub record MadeIfAccepted (strategy : SplitStrategy) (parity : Parity) (basis : Basis) (folded : Bool) (c : List ℤ) : Type 0 where
  pub made : (a b : Float) (out : List ℤ) (bounds steps : List ℕ) → BringsPlan strategy parity basis folded c a b out bounds steps
      → MadeWith strategy parity basis folded c a b out bounds steps
  pub accepted : MadePlan strategy parity basis folded c → Accepted folded parity c

-- for every polynomial and all settings
abbrev pub PlansIfAccepted : Type 0
PlansIfAccepted = (strategy : SplitStrategy) (parity : Parity) (basis : Basis) (folded : Bool) (c : List ℤ)
    → MadeIfAccepted strategy parity basis folded c
