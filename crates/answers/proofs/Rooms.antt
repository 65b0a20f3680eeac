-- The fixed rooms are long enough for every plan: what is planned of an accepted polynomial has at most 4,096 coefficients, so there are at most as many
-- lists and needed powers. There is a step for each power, one for each list, and one for each list but the first.
use mathlib.Core.Path.{refl, subst}
use mathlib.Core.Bool.{Bool}
use mathlib.Core.List.{List}
use Prim.Native.Nat.{ℕ, ◌≤◌}
use native.Mathlib.Omega.{arith}
use lib.Ieee.{Float}
use lib.IntN.{ℤ}
use lib.ListN.{length}
use Rattle.algebra.specs.declared.Basis.{Basis}
use Rattle.algebra.specs.declared.Parity.{Parity}
use Rattle.number.specs.Interval.{Ordered}
use Rattle.number.specs.Limits.{plan_limit}
use Rattle.number.specs.inside.Between.{Between}
use Rattle.counts.specs.Choice.{split_for}
use Rattle.counts.specs.declared.choice.SplitStrategy.{SplitStrategy}
use Rattle.lists.specs.Tree.{relists}
use Rattle.plan.specs.PlanHead.{head_of}
use Rattle.plan.specs.PlanCall.{planned_parity, Accepted, planned_degree, head_for}
use Rattle.plan.specs.PlanSizes.{HasSizes, PlanSizes}
use Rattle.plan.specs.inside.Outlines.{outline_for}
use Rattle.plan.proofs.StepCounts.{steps_counted}
use Rattle.plan.proofs.HeadCounts.{OutlineRange, outline_range}
use Rattle.demands.specs.Accepts.{BringsPlan}
use Rattle.demands.proofs.Accepts.{plannable}
use Rattle.demands.proofs.Refusals.{sizes_told}
use Rattle.answers.specs.Limits.{list_room, step_room}

module _ (strategy : SplitStrategy) (parity : Parity) (basis : Basis) (folded : Bool) (c : List ℤ) (accepted : Accepted folded parity c) where
  abbrev degree : ℕ
  degree = planned_degree strategy parity basis folded c

  pub degree_range : Between 1 (planned_degree strategy parity basis folded c) plan_limit
  degree_range =
      let facts = plannable folded parity basis c accepted in
      record { from = omega (arith, facts.several); to = facts.few }

  -- powers, lists, and allowed powers over all lists
  pub counts_range : OutlineRange (outline_for strategy (planned_parity folded parity) basis (planned_degree strategy parity basis folded c))
  counts_range = outline_range strategy (planned_parity folded parity) basis degree degree_range refl

  module _ (a b : Float) where
    pub coefficients_most : (head_for strategy parity basis folded c a b).coefficients ≤ 4096
    unfolding head_of
    coefficients_most = omega (arith, degree_range.to)

    pub lists_most : (head_for strategy parity basis folded c a b).lists ≤ 4096
    unfolding head_of
    lists_most = omega (arith, counts_range.at_most)

    pub steps_most : (head_for strategy parity basis folded c a b).steps ≤ 12287
    unfolding head_of
    steps_most =
        let counted = steps_counted (relists strategy) (planned_parity folded parity) basis degree
        (split_for strategy (planned_parity folded parity) basis degree)
        in omega (arith, counted.steps, counts_range.powers, counts_range.at_most)

pub rooms_enough : (strategy : SplitStrategy) (parity : Parity) (basis : Basis) (folded : Bool) (c : List ℤ) (a b : Float) (out : List ℤ)
    (bounds steps : List ℕ) → Accepted folded parity c → Ordered a b → list_room ≤ length out → list_room ≤ length bounds → step_room ≤ length steps
    → BringsPlan strategy parity basis folded c a b out bounds steps
rooms_enough strategy parity basis folded c a b out bounds steps accepted ordered out_room bounds_room steps_room = record {
  accepted = accepted;
  ordered = ordered;
  long_enough = subst (λ (s : PlanSizes). HasSizes s (length out) (length bounds) (length steps)) (sizes_told strategy parity basis folded c a b)
      (record {
        coefficients = omega (arith, coefficients_most strategy parity basis folded c accepted a b);
        boundaries = omega (arith, lists_most strategy parity basis folded c accepted a b);
        numbers = omega (arith, steps_most strategy parity basis folded c accepted a b);
      });
}
