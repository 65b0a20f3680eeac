-- Request Q-7, "The interval rides in the head": what the head of a plan says of the interval, when the interval is refused, and that nothing else of a
-- plan depends on it.
use Rattle.std.specs.Prelude.{◌≡◌, Bool, false, List, ◌↔◌, ℕ, Float, ℤ}
use Rattle.std.specs.Float.Ieee.{lt}
use Rattle.algebra.specs.declared.Basis.{Basis}
use Rattle.algebra.specs.declared.Parity.{Parity}
use Rattle.number.specs.Interval.{change_of_basis, Ordered}
use Rattle.counts.specs.declared.choice.SplitStrategy.{SplitStrategy}
use Rattle.walk.specs.IntervalUnread.{SameButInterval}
use Rattle.plan.specs.PlanCall.{Accepted, PlanCall, Planned}
use Rattle.demands.specs.Accepts.{BringsPlan}

-- the head has the interval of the polynomial handed in with its change pair, as `change_of_basis` answers them for the plan's basis; folded or not
abbrev pub IntervalsTold : Type 0
IntervalsTold = (strategy : SplitStrategy) (parity : Parity) (basis : Basis) (folded : Bool) (c : List ℤ) (a b : Float) (out : List ℤ)
    (bounds steps : List ℕ) (r : Planned) (out' : List ℤ) (bounds' steps' : List ℕ) → BringsPlan strategy parity basis folded c a b out bounds steps
    → PlanCall strategy parity basis folded c a b out bounds steps r out' bounds' steps' → r.head.interval ≡ change_of_basis basis a b

-- refusal 7 says that the polynomial is accepted and that a < b does not hold, and that is so whatever the buffers are
abbrev pub UnorderedRefused : Type 0
UnorderedRefused = (strategy : SplitStrategy) (parity : Parity) (basis : Basis) (folded : Bool) (c : List ℤ) (a b : Float) (out : List ℤ)
    (bounds steps : List ℕ) (r : Planned) (out' : List ℤ) (bounds' steps' : List ℕ)
    → PlanCall strategy parity basis folded c a b out bounds steps r out' bounds' steps'
    → (r.refusal ≡ 7) ↔ (Accepted folded parity c × (lt a b ≡ false))

-- two calls that differ in their intervals end alike: with the same refusal, heads that differ in the interval's four numbers only, and the same buffers
pub record PlannedAlike (r other : Planned) (out out' : List ℤ) (bounds bounds' steps steps' : List ℕ) : Type 0 where
  pub refusal : r.refusal ≡ other.refusal
  pub heads : SameButInterval r.head other.head
  pub coefficients : out ≡ out'
  pub boundaries : bounds ≡ bounds'
  pub numbers : steps ≡ steps'

-- so it is on any two intervals with their bounds in order
abbrev pub PlansAlike : Type 0
PlansAlike = (strategy : SplitStrategy) (parity : Parity) (basis : Basis) (folded : Bool) (c : List ℤ) (a b a' b' : Float) (out : List ℤ)
    (bounds steps : List ℕ) (r other : Planned) (out' out'' : List ℤ) (bounds' bounds'' steps' steps'' : List ℕ) → Ordered a b → Ordered a' b'
    → PlanCall strategy parity basis folded c a b out bounds steps r out' bounds' steps'
    → PlanCall strategy parity basis folded c a' b' out bounds steps other out'' bounds'' steps''
    → PlannedAlike r other out' out'' bounds' bounds'' steps' steps''
