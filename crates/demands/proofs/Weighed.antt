-- The planner's plans are weighed. A stored plan is held by its buffers, so the walk of these over values is the walk of the plan's own lists and steps.
-- The exact walk of the plan has a value, so this one has one too, and its greatest weight is answered.
use mathlib.Core.Path.{◌≡◌, refl, sym, ◌∙◌, ap}
use mathlib.Core.Bool.{Bool}
use mathlib.Core.List.{List}
use mathlib.Core.Option.{Option}
use Prim.Native.Nat.{ℕ, ◌≤◌}
use lib.Ieee.{Float}
use lib.IntN.{ℤ, pos}
use Rattle.algebra.specs.Operations.{whole_ops}
use Rattle.algebra.specs.Value.{value}
use Rattle.algebra.specs.declared.Basis.{Basis}
use Rattle.algebra.specs.declared.Parity.{Parity}
use Rattle.number.specs.Limits.{scale_limit}
use Rattle.number.specs.Options.{image}
use Rattle.counts.specs.declared.choice.SplitStrategy.{SplitStrategy}
use Rattle.walk.specs.Trial.{or_zero}
use Rattle.walk.specs.Values.{Value}
use Rattle.walk.specs.Paths.{heaviest}
use Rattle.walk.specs.MadeRules.{value_making, made_rules}
use Rattle.walk.specs.Chain.{answer_made, chain_of}
use Rattle.walk.specs.declared.plan.Head.{Head}
use Rattle.walk.proofs.WalksHeld.{walks_held}
use Rattle.walk.proofs.ChainLaws.{one_made}
use Rattle.walk.proofs.HeaviestChain.{heaviest_chain}
use Rattle.plan.specs.PlanCall.{Accepted, head_for}
use Rattle.plan.specs.PlanHead.{head_of}
use Rattle.demands.specs.Right.{lists_for, steps_for, Stored}
use Rattle.demands.specs.Weighed.{plan_made, plan_chain, StoredWeighed, PlansWeighed, ChainOrder}
use Rattle.demands.proofs.Right.{holds, stored_right, plans_right}

module _ (strategy : SplitStrategy) (parity : Parity) (basis : Basis) (folded : Bool) (c : List ℤ) (a b : Float) (coefficients : List ℤ)
    (bounds steps : List ℕ) (input coeff : ℕ) (accepted : Accepted folded parity c)
    (stored : Stored strategy parity basis folded c coefficients bounds steps) where
  abbrev head : Head
  head = head_for strategy parity basis folded c a b

  -- the walk of the buffers is that of the plan
  held : answer_made head coefficients bounds steps input coeff ≡ plan_made strategy parity basis folded c input coeff
  unfolding head_of
  held =
      walks_held Value (made_rules value_making input coeff) head coefficients bounds steps (lists_for strategy parity basis folded c)
      (steps_for strategy parity basis folded c) (pos 0) (holds strategy parity basis folded c accepted a b coefficients bounds steps stored)

  weighed : input ≤ scale_limit → coeff ≤ scale_limit
      → chain_of head coefficients bounds steps input coeff ≡ plan_chain strategy parity basis folded c input coeff
  weighed g h =
      let walks = stored_right strategy parity basis folded c a b coefficients bounds steps (pos 0) accepted stored in
      let heaviest_one = (heaviest_chain head coefficients bounds steps input coeff g h).weighs (pos 0) (value whole_ops basis (pos 0) c) walks.exact in
      sym (one_made head coefficients bounds steps input coeff g h heaviest_one.answer heaviest_one.made)
      ∙ ap (λ (made : Option Value). record { refusal = 0; weight = or_zero (image heaviest made) }) (sym heaviest_one.made ∙ held)

pub stored_weighed : StoredWeighed
stored_weighed strategy parity basis folded c a b coefficients bounds steps input coeff accepted stored g h =
    weighed strategy parity basis folded c a b coefficients bounds steps input coeff accepted stored g h

pub plans_weighed : PlansWeighed
plans_weighed strategy parity basis folded c a b out bounds steps r out' bounds' steps' input coeff brings call g h =
    let right = plans_right strategy parity basis folded c a b out bounds steps r out' bounds' steps' brings call in
    rw right.answer (stored_weighed strategy parity basis folded c a b out' bounds' steps' input coeff brings.accepted right.stored g h)

pub chain_order : ChainOrder
chain_order head coefficients bounds steps input coeff = refl
