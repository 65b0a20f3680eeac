-- Demand 3: the plan is right. For every accepted polynomial (specs/Accepts), each basis, parity and strategy, folded or not.
use Rattle.std.specs.Prelude.{◌≡◌, Bool, false, List, ◌++◌, ℕ, ◌*◌, ◌≤◌, Float, ℤ, drop}
use Rattle.std.proofs.Math.Option.{some}
use Rattle.algebra.specs.Operations.{whole_ops}
use Rattle.algebra.specs.Value.{value}
use Rattle.algebra.specs.Remainder.{rem}
use Rattle.algebra.specs.IsRemainder.{IsRemainder}
use Rattle.algebra.specs.Transform.{input_of, output_of}
use Rattle.algebra.specs.declared.Basis.{Basis}
use Rattle.algebra.specs.declared.Parity.{Parity}
use Rattle.number.specs.Options.{◌then◌}
use Rattle.counts.specs.declared.choice.SplitStrategy.{SplitStrategy}
use Rattle.lists.specs.Lists.{lists_of}
use Rattle.walk.specs.Limits.{modulus_limit}
use Rattle.walk.specs.Rules.{exact_rules}
use Rattle.walk.specs.Walk.{walk_of}
use Rattle.walk.specs.Lent.{exact_walk}
use Rattle.walk.specs.Trial.{trial_of}
use Rattle.walk.specs.Unrunnable.{unrunnable}
use Rattle.walk.specs.WalksHeld.{numbered}
use Rattle.walk.specs.declared.plan.Head.{Head}
use Rattle.walk.specs.declared.plan.Step.{Step}
use Rattle.plan.specs.PlanSteps.{plan_steps}
use Rattle.plan.specs.PlanCall.{planned_parity, planned_transform, Accepted, planned, planned_degree, tree, head_for, coefficients_for, boundaries_for, Planned}
use Rattle.plan.specs.PlanCall.{numbers_for, PlanCall}
use Rattle.demands.specs.Accepts.{BringsPlan}

-- a plan's lists and steps
module _ (strategy : SplitStrategy) (parity : Parity) (basis : Basis) (folded : Bool) (c : List ℤ) where
  abbrev pub lists_for : List (List ℤ)
  lists_for = lists_of whole_ops basis (tree strategy parity basis folded c) (planned strategy parity basis folded c)

  abbrev pub steps_for : List Step
  steps_for = plan_steps strategy (planned_parity folded parity) basis (planned_degree strategy parity basis folded c)

-- "For every accepted whole-number polynomial and every whole number x, the plan's steps, walked as in document 01, end with exactly the polynomial's
-- value at x." The walk starts from the transform's y, and the transform's output is made of what it leaves.
abbrev pub StepsRight : Type 0
StepsRight = (strategy : SplitStrategy) (parity : Parity) (basis : Basis) (folded : Bool) (c : List ℤ) (x : ℤ) → Accepted folded parity c
    → (walk_of exact_rules (planned_parity folded parity) basis (numbered (lists_for strategy parity basis folded c))
    (steps_for strategy parity basis folded c)
    (input_of whole_ops (planned_transform folded parity basis) x)
    then λ v. some (output_of whole_ops (planned_transform folded parity basis) x v))
    ≡ some (value whole_ops basis x c)

-- a head and three buffers, walked at x, give the value of c
pub record WalksRight (head : Head) (coefficients : List ℤ) (bounds steps : List ℕ) (basis : Basis) (c : List ℤ) (x : ℤ) : Type 0 where
  -- exactly
  pub exact : exact_walk head coefficients bounds steps x ≡ some (value whole_ops basis x c)
  -- "At every point and modulus that it takes, the trial walk of this plan returns the remainder of the polynomial's value at that point." It takes
  -- every i64 as the point, and every modulus from 2 to 2,147,483,647.
  pub trial : (modulus : ℕ) → 2 ≤ modulus → modulus ≤ modulus_limit
      → trial_of head coefficients bounds steps x modulus ≡ record { refusal = 0; remainder = rem modulus (value whole_ops basis x c) }
  -- and that is the remainder: below the modulus, and a whole multiple of it away from the value
  pub remainder : (modulus : ℕ) → 2 ≤ modulus → modulus ≤ modulus_limit
      → IsRemainder modulus (value whole_ops basis x c) (trial_of head coefficients bounds steps x modulus).remainder
  -- none of the reasons of refusal 24 holds
  pub runs : unrunnable exact_rules head coefficients bounds steps x ≡ false

-- buffers with a plan in their first places, and behind it anything
pub record Stored (strategy : SplitStrategy) (parity : Parity) (basis : Basis) (folded : Bool) (c coefficients : List ℤ) (bounds steps : List ℕ)
    : Type 0 where
  pub more_coefficients : List ℤ
  pub more_bounds : List ℕ
  pub more_steps : List ℕ
  pub coefficients_are : coefficients ≡ coefficients_for strategy parity basis folded c ++ more_coefficients
  pub bounds_are : bounds ≡ boundaries_for strategy parity basis folded c ++ more_bounds
  pub steps_are : steps ≡ numbers_for strategy parity basis folded c ++ more_steps

-- so it is with a plan, wherever it is stored and whatever its interval
abbrev pub StoredRight : Type 0
StoredRight = (strategy : SplitStrategy) (parity : Parity) (basis : Basis) (folded : Bool) (c : List ℤ) (a b : Float) (coefficients : List ℤ)
    (bounds steps : List ℕ) (x : ℤ) → Accepted folded parity c → Stored strategy parity basis folded c coefficients bounds steps
    → WalksRight (head_for strategy parity basis folded c a b) coefficients bounds steps basis c x

-- of an accepted polynomial, on every interval with its bounds in order and with long enough buffers, the call makes a plan. What it leaves in the
-- buffers, however long they are and whatever stood in them, gives the value when it is walked with the head that it answers; the places beyond the
-- plan are as they were.
pub record PlanRight (strategy : SplitStrategy) (parity : Parity) (basis : Basis) (folded : Bool) (c : List ℤ) (a b : Float) (out : List ℤ)
    (bounds steps : List ℕ) (r : Planned) (out' : List ℤ) (bounds' steps' : List ℕ) : Type 0 where
  pub answer : r ≡ record { refusal = 0; head = head_for strategy parity basis folded c a b }
  pub stored : Stored strategy parity basis folded c out' bounds' steps'
  pub coefficients_beyond : stored.more_coefficients ≡ drop r.head.coefficients out
  pub bounds_beyond : stored.more_bounds ≡ drop r.head.lists bounds
  pub steps_beyond : stored.more_steps ≡ drop (4 * r.head.steps) steps
  pub walks : (x : ℤ) → WalksRight r.head out' bounds' steps' basis c x

abbrev pub PlansRight : Type 0
PlansRight = (strategy : SplitStrategy) (parity : Parity) (basis : Basis) (folded : Bool) (c : List ℤ) (a b : Float) (out : List ℤ)
    (bounds steps : List ℕ) (r : Planned) (out' : List ℤ) (bounds' steps' : List ℕ) → BringsPlan strategy parity basis folded c a b out bounds steps
    → PlanCall strategy parity basis folded c a b out bounds steps r out' bounds' steps'
    → PlanRight strategy parity basis folded c a b out bounds steps r out' bounds' steps'
