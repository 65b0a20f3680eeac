-- What a plan reports is what its steps and lists cost (demand 3): the head's counts are read off the planned steps and the lengths of the planned
-- lists, and these stand in the lent buffers.
use mathlib.Core.Path.{◌≡◌, refl, sym, ◌∙◌, ap, ap₂}
use mathlib.Core.Bool.{Bool}
use mathlib.Core.List.{List, [], ◌∷◌, map}
use Prim.Native.Nat.{ℕ, suc, ◌+◌, ◌-◌}
use native.Mathlib.Omega.{arith}
use lib.Ieee.{Float}
use lib.IntN.{ℤ}
use lib.ListN.{length, take}
use lib.Seq.{take_at}
use Rattle.algebra.specs.Transform.{transform_of}
use Rattle.algebra.specs.declared.Basis.{Basis}
use Rattle.algebra.specs.declared.Basis.TheVariants.{Monomial, Chebyshev}
use Rattle.algebra.specs.declared.Parity.{Parity}
use Rattle.counts.specs.declared.choice.SplitStrategy.{SplitStrategy}
use Rattle.lists.specs.Arrange.{lengths_of}
use Rattle.lists.specs.Lists.{ends_from}
use Rattle.plan.specs.Reported.{reported}
use Rattle.plan.specs.PlanHead.{head_of}
use Rattle.plan.specs.PlanCall.{Accepted, planned, planned_degree, tree, head_for, boundaries_for}
use Rattle.demands.specs.Counted.{lengths_from, PlansReport, TransformCosts}
use Rattle.demands.specs.Right.{lists_for, Stored}
use Rattle.demands.proofs.Accepts.{plannable}
use Rattle.demands.proofs.Right.{ordered, boundaries_length, lent_steps_lem, plans_right}

-- ---- the steps that stand in the buffer

-- lists that stand one after another end where they should
lengths_read : (at : ℕ) (lists : List (List ℤ)) → lengths_from at (ends_from at lists) ≡ map length lists
unfolding lengths_from ends_from
lengths_read at [] = refl
lengths_read at (list ∷ lists) =
    let size : at + length list - at ≡ length list = omega arith in
    ap₂ ◌∷◌ size (lengths_read (at + length list) lists)

-- the boundaries tell the lengths of the planned lists
pub boundaries_read : (strategy : SplitStrategy) (parity : Parity) (basis : Basis) (folded : Bool) (c : List ℤ) → Accepted folded parity c
    → lengths_from 0 (boundaries_for strategy parity basis folded c)
    ≡ lengths_of (tree strategy parity basis folded c) (suc (planned_degree strategy parity basis folded c))
boundaries_read strategy parity basis folded c accepted =
    let order = ordered strategy parity basis folded c accepted in
    let places : suc (planned_degree strategy parity basis folded c) ≡ length (planned strategy parity basis folded c) =
    omega (arith, (plannable folded parity basis c accepted).several) in
    ap (lengths_from 0) (order.ends 0)
    ∙ lengths_read 0 (lists_for strategy parity basis folded c)
    ∙ sym (ap (lengths_of (tree strategy parity basis folded c)) places ∙ order.lengths)

-- so do those that the buffer holds
pub lent_lengths : (strategy : SplitStrategy) (parity : Parity) (basis : Basis) (folded : Bool) (c : List ℤ) (a b : Float) (coefficients : List ℤ)
    (bounds steps : List ℕ) → Accepted folded parity c → Stored strategy parity basis folded c coefficients bounds steps
    → lengths_from 0 (take (head_for strategy parity basis folded c a b).lists bounds)
    ≡ lengths_of (tree strategy parity basis folded c) (suc (planned_degree strategy parity basis folded c))
lent_lengths strategy parity basis folded c a b coefficients bounds steps accepted stored =
    let lists = (head_for strategy parity basis folded c a b).lists in
    ap (λ (l : List ℕ). lengths_from 0 (take lists l)) stored.bounds_are
    ∙ ap (lengths_from 0) (take_at (boundaries_for strategy parity basis folded c) stored.more_bounds lists
    (boundaries_length strategy parity basis folded c accepted a b))
    ∙ boundaries_read strategy parity basis folded c accepted

pub plans_report : PlansReport
unfolding head_of reported
plans_report strategy parity basis folded c a b out bounds steps r out' bounds' steps' brings call =
    let right = plans_right strategy parity basis folded c a b out bounds steps r out' bounds' steps' brings call in
    rw (
      right.answer,
      lent_steps_lem strategy parity basis folded c a b out' bounds' steps' right.stored,
      lent_lengths strategy parity basis folded c a b out' bounds' steps' brings.accepted right.stored,
    ) (record { encrypted = refl; plain = refl })

-- ---- the transform

pub transform_costs : (basis : Basis) → TransformCosts basis
unfolding transform_of
transform_costs Monomial = record { unfolded = λ parity. refl; even = refl; odd = refl }
transform_costs Chebyshev = record { unfolded = λ parity. refl; even = refl; odd = refl }
