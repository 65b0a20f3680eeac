-- Request Q-9, "Adding two curves": what the plan call answers and leaves of a sum and of a multiple, folded or not.
use Rattle.std.specs.Prelude.{◌≡◌, Bool, List, ℤ, length}
use Rattle.algebra.specs.Operations.{whole_ops}
use Rattle.algebra.specs.PolynomialSum.{sum_of, multiple_of}
use Rattle.algebra.specs.declared.Basis.{Basis}
use Rattle.algebra.specs.declared.Parity.{Parity}
use Rattle.counts.specs.declared.choice.SplitStrategy.{SplitStrategy}
use Rattle.walk.specs.IntervalUnread.{SameButInterval}
use Rattle.plan.specs.PlanCall.{Accepted}
use Rattle.demands.specs.MadePlan.{MadePlan, lists_in, boundaries_in, steps_in}
use Rattle.demands.specs.Right.{WalksRight}

-- ---- one length

-- two plans with equal boundaries and steps, and with the same head but for the interval
pub record SameShape {strategy : SplitStrategy} {parity : Parity} {basis : Basis} {folded : Bool} {c d : List ℤ}
    (plan : MadePlan strategy parity basis folded c) (other : MadePlan strategy parity basis folded d) : Type 0 where
  pub boundaries : boundaries_in plan ≡ boundaries_in other
  pub steps : steps_in plan ≡ steps_in other
  pub heads : SameButInterval plan.answer.head other.answer.head
  -- so on the same interval every field of the head is equal
  pub same_head : plan.lower ≡ other.lower → plan.upper ≡ other.upper → plan.answer.head ≡ other.answer.head

-- polynomials of one length have such plans
abbrev pub LengthsShape : Type 0
LengthsShape = (strategy : SplitStrategy) (parity : Parity) (basis : Basis) (folded : Bool) (c d : List ℤ) → length c ≡ length d
    → (plan : MadePlan strategy parity basis folded c) (other : MadePlan strategy parity basis folded d) → SameShape plan other

-- ---- a sum

-- "the lists of the sum are the sums of the lists, place by place, with equal boundaries and steps"
pub record PlansAdded {strategy : SplitStrategy} {parity : Parity} {basis : Basis} {folded : Bool} {c d : List ℤ}
    (first : MadePlan strategy parity basis folded c) (second : MadePlan strategy parity basis folded d)
    (sum : MadePlan strategy parity basis folded (sum_of whole_ops c d)) : Type 0 where
  pub lists : lists_in sum ≡ sum_of whole_ops (lists_in first) (lists_in second)
  pub as_first : SameShape sum first
  pub as_second : SameShape sum second

-- "Let two whole polynomials have the same length, basis, parity and strategy, and let both and their sum be accepted unfolded", or all three folded
abbrev pub PlansAdd : (folded : Bool) → Type 0
PlansAdd folded = (strategy : SplitStrategy) (parity : Parity) (basis : Basis) (c d : List ℤ) → length c ≡ length d
    → (first : MadePlan strategy parity basis folded c) (second : MadePlan strategy parity basis folded d)
    (sum : MadePlan strategy parity basis folded (sum_of whole_ops c d)) → PlansAdded first second sum

-- so a sum that would be accepted needs no call: the sums of the lists, with the boundaries, steps and head of the first plan, are walked to its value
abbrev pub AddedRight : (folded : Bool) → Type 0
AddedRight folded = (strategy : SplitStrategy) (parity : Parity) (basis : Basis) (c d : List ℤ) → length c ≡ length d
    → (first : MadePlan strategy parity basis folded c) (second : MadePlan strategy parity basis folded d)
    → Accepted folded parity (sum_of whole_ops c d)
    → (x : ℤ) → WalksRight first.answer.head (sum_of whole_ops (lists_in first) (lists_in second)) (boundaries_in first) (steps_in first) basis
    (sum_of whole_ops c d) x

-- ---- a multiple

-- the lists of the multiple are the multiples of the lists, with equal boundaries and steps
pub record PlansMultiplied {strategy : SplitStrategy} {parity : Parity} {basis : Basis} {folded : Bool} {c : List ℤ} (k : ℤ)
    (plan : MadePlan strategy parity basis folded c) (multiple : MadePlan strategy parity basis folded (multiple_of whole_ops k c)) : Type 0 where
  pub lists : lists_in multiple ≡ multiple_of whole_ops k (lists_in plan)
  pub as_plan : SameShape multiple plan

-- "The same holds for a curve multiplied by a whole number, where the multiple is accepted too."
abbrev pub PlansMultiply : (folded : Bool) → Type 0
PlansMultiply folded = (strategy : SplitStrategy) (parity : Parity) (basis : Basis) (k : ℤ) (c : List ℤ)
    (plan : MadePlan strategy parity basis folded c) (multiple : MadePlan strategy parity basis folded (multiple_of whole_ops k c))
    → PlansMultiplied k plan multiple

-- so a multiple that would be accepted needs no call either
abbrev pub MultipliedRight : (folded : Bool) → Type 0
MultipliedRight folded = (strategy : SplitStrategy) (parity : Parity) (basis : Basis) (k : ℤ) (c : List ℤ)
    (plan : MadePlan strategy parity basis folded c) → Accepted folded parity (multiple_of whole_ops k c)
    → (x : ℤ) → WalksRight plan.answer.head (multiple_of whole_ops k (lists_in plan)) (boundaries_in plan) (steps_in plan) basis
    (multiple_of whole_ops k c) x
