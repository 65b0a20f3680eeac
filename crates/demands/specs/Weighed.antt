-- Request Q-3, "Heaviest chain of a plan", for the plans of the plan call: wherever a plan is stored, its chain is that of its own lists and steps.
use Rattle.std.specs.Prelude.{◌≡◌, Bool, List, [], ◌∷◌, ℕ, ◌≤◌, Float, ℤ}
use Rattle.std.proofs.Math.Option.{Option, some}
use Rattle.algebra.specs.declared.Basis.{Basis}
use Rattle.algebra.specs.declared.Parity.{Parity}
use Rattle.number.specs.Limits.{scale_limit}
use Rattle.number.specs.Options.{◌then◌, image}
use Rattle.counts.specs.declared.choice.SplitStrategy.{SplitStrategy}
use Rattle.walk.specs.Walk.{walk_of}
use Rattle.walk.specs.Trial.{or_zero}
use Rattle.walk.specs.WalksHeld.{numbered}
use Rattle.walk.specs.Values.{Value}
use Rattle.walk.specs.Paths.{heaviest}
use Rattle.walk.specs.MadeRules.{value_making, input_made, output_made, made_rules}
use Rattle.walk.specs.Chain.{chain_tests, chain_of}
use Rattle.walk.specs.declared.plan.Head.{Head}
use Rattle.walk.specs.Chain.{Chain}
use Rattle.plan.specs.PlanCall.{planned_parity, planned_transform, Accepted, head_for, PlanCall, Planned}
use Rattle.demands.specs.Accepts.{BringsPlan}
use Rattle.demands.specs.Right.{lists_for, steps_for, Stored}
use Rattle.demands.specs.Total.{numbers_of}

module _ (strategy : SplitStrategy) (parity : Parity) (basis : Basis) (folded : Bool) (c : List ℤ) (input coeff : ℕ) where
  -- what the plan's steps leave, by what it is made of
  abbrev pub plan_made : Option Value
  plan_made =
      walk_of (made_rules value_making input coeff) (planned_parity folded parity) basis (numbered (lists_for strategy parity basis folded c))
      (steps_for strategy parity basis folded c) (input_made value_making input (planned_transform folded parity basis) value_making.given)
      then λ v. some (output_made value_making input (planned_transform folded parity basis) value_making.given v)

  -- its heaviest chain
  abbrev pub plan_chain : Chain
  plan_chain = record { refusal = 0; weight = or_zero (image heaviest plan_made) }

-- it is answered of a plan, wherever it is stored and whatever its interval
abbrev pub StoredWeighed : Type 0
StoredWeighed = (strategy : SplitStrategy) (parity : Parity) (basis : Basis) (folded : Bool) (c : List ℤ) (a b : Float) (coefficients : List ℤ)
    (bounds steps : List ℕ) (input coeff : ℕ) → Accepted folded parity c → Stored strategy parity basis folded c coefficients bounds steps
    → input ≤ scale_limit → coeff ≤ scale_limit
    → chain_of (head_for strategy parity basis folded c a b) coefficients bounds steps input coeff ≡ plan_chain strategy parity basis folded c input coeff

-- and of what the plan call leaves in the buffers, however long they are and whatever stood in them
abbrev pub PlansWeighed : Type 0
PlansWeighed = (strategy : SplitStrategy) (parity : Parity) (basis : Basis) (folded : Bool) (c : List ℤ) (a b : Float) (out : List ℤ)
    (bounds steps : List ℕ) (r : Planned) (out' : List ℤ) (bounds' steps' : List ℕ) (input coeff : ℕ)
    → BringsPlan strategy parity basis folded c a b out bounds steps → PlanCall strategy parity basis folded c a b out bounds steps r out' bounds' steps'
    → input ≤ scale_limit → coeff ≤ scale_limit → chain_of r.head out' bounds' steps' input coeff ≡ plan_chain strategy parity basis folded c input coeff

-- the refusal numbers of the chain, in order
abbrev pub ChainOrder : Type 0
ChainOrder = (head : Head) (coefficients : List ℤ) (bounds steps : List ℕ) (input coeff : ℕ)
    → numbers_of (chain_tests head coefficients bounds steps input coeff) ≡ 10 ∷ 10 ∷ 24 ∷ []
