-- The fields of a plan's head (docs/RULES.md, "The head") are what its definition says; the lists are counted by the tree, and the steps by their
-- kinds.
use mathlib.Core.Path.{◌≡◌, refl}
use mathlib.Core.Bool.{Bool, true, false, cond}
use mathlib.Core.List.{List}
use Prim.Native.Nat.{suc}
use native.Mathlib.Omega.{arith}
use lib.Ieee.{Float}
use lib.IntN.{ℤ}
use lib.ListN.{length}
use Rattle.algebra.specs.EnumNumbers.{parity_number, transform_number}
use Rattle.algebra.specs.declared.Basis.{Basis}
use Rattle.algebra.specs.declared.Parity.{Parity}
use Rattle.counts.specs.Choice.{split_for}
use Rattle.counts.specs.declared.choice.SplitStrategy.{SplitStrategy}
use Rattle.lists.specs.Tree.{relists}
use Rattle.plan.specs.PlanHead.{head_of}
use Rattle.plan.specs.PlanCall.{planned_parity, planned_transform, Accepted, planned, planned_degree, head_for}
use Rattle.plan.proofs.StepCounts.{steps_counted}
use Rattle.demands.specs.FoldNumber.{fold_number}
use Rattle.demands.specs.HeadTold.{HeadTold, HeadsTold}
use Rattle.demands.proofs.Accepts.{plannable}
use Rattle.demands.proofs.FoldNumber.{fold_numbered_lem}
use Rattle.demands.proofs.Right.{ordered, plans_right}

-- with folding the parity is Full and the transform the fold's, without it the parity handed in and no transform
parity_numbered_lem : (folded : Bool) (parity : Parity) → parity_number (planned_parity folded parity) ≡ cond folded 0 (parity_number parity)
parity_numbered_lem true parity = refl
parity_numbered_lem false parity = refl

transform_numbered_lem : (folded : Bool) (parity : Parity) (basis : Basis)
    → transform_number (planned_transform folded parity basis) ≡ cond folded (fold_number parity basis) 0
transform_numbered_lem true parity basis = fold_numbered_lem parity basis
transform_numbered_lem false parity basis = refl

head_told : (strategy : SplitStrategy) (parity : Parity) (basis : Basis) (folded : Bool) (c : List ℤ) (a b : Float) → Accepted folded parity c
    → HeadTold strategy parity basis folded c a b (head_for strategy parity basis folded c a b)
unfolding head_of
head_told strategy parity basis folded c a b accepted =
    let degree = planned_degree strategy parity basis folded c in
    let several = (plannable folded parity basis c accepted).several in
    let places : suc degree ≡ length (planned strategy parity basis folded c) = omega arith in
    let told = steps_counted (relists strategy) (planned_parity folded parity) basis degree (split_for strategy (planned_parity folded parity) basis degree) in
    record {
      basis_is = refl;
      strategy_is = refl;
      parity_is = refl;
      transform_is = refl;
      basis_number_lem = refl;
      strategy_number_lem = refl;
      parity_number_lem = parity_numbered_lem folded parity;
      transform_number_lem = transform_numbered_lem folded parity basis;
      degree_is = refl;
      base_is = refl;
      depth_is = refl;
      coefficients_are = places;
      lists_are = (ordered strategy parity basis folded c accepted).count;
      steps_are = refl;
      steps_count = omega (arith, told.steps);
      interval_is = refl;
    }

pub heads_told : HeadsTold
heads_told strategy parity basis folded c a b out bounds steps r out' bounds' steps' brings call =
    rw (plans_right strategy parity basis folded c a b out bounds steps r out' bounds' steps' brings call).answer
    (head_told strategy parity basis folded c a b brings.accepted)
