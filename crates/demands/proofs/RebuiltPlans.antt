-- Rebuilding and planning take back each other (request Q-8). What a plan call leaves in its buffers, folded or not, stands there as the round trips want
-- it; and the lists of what was rebuilt are the lent ones, so a plan that is walked with these is the plan of the rebuilt polynomial.
use mathlib.Core.Path.{◌≡◌, refl, ap, sym, ◌∙◌}
use mathlib.Core.Bool.{Bool, false}
use mathlib.Core.List.{List, ◌++◌}
use Prim.Native.Nat.{ℕ, suc, ◌^◌}
use native.Mathlib.Omega.{arith}
use lib.Ieee.{Float}
use lib.IntN.{ℤ}
use lib.ListN.{length, take, drop, take-append-drop}
use Rattle.algebra.specs.declared.Basis.{Basis}
use Rattle.algebra.specs.declared.Parity.{Parity}
use Rattle.number.specs.Tests.{degree_of}
use Rattle.number.proofs.FirstRefusal.{when_accepted}
use Rattle.counts.specs.Choice.{split_for}
use Rattle.counts.specs.declared.choice.SplitStrategy.{SplitStrategy}
use Rattle.lists.specs.Tree.{plan_tree}
use Rattle.lists.specs.Arrange.{leaves_of}
use Rattle.lists.specs.ListCall.{Listed}
use Rattle.lists.proofs.Standing.{Stands, whole}
use Rattle.rebuild.specs.RebuildCall.{Rebuilt, RebuildCall}
use Rattle.rebuild.proofs.RoundTrips.{gives_again, same_lists, lists_again, listed_front, ended_front}
use Rattle.plan.specs.PlanHead.{head_of}
use Rattle.plan.specs.PlanCall.{planned_coefficients, planned_parity, plan_coefficients, plan_boundaries, PlanCall, Planned}
use Rattle.plan.proofs.PlanTests.{passed, planned_to_53}
use Rattle.demands.specs.RebuiltPlans.{RebuildsPlans, listed_in, PlansRebuilt, RebuiltRight, PlansTell, RebuildOrder}
use Rattle.demands.proofs.Accepts.{plannable}
use Rattle.demands.proofs.MadePlan.{call_passes, call_brings, call_head}
use Rattle.demands.proofs.Refusals.{head_fits}
use Rattle.demands.proofs.Right.{stored_right}

module _ {strategy : SplitStrategy} {parity : Parity} {basis : Basis} {folded : Bool} {c : List ℤ} {a b : Float} {lists : List ℤ}
    {bounds steps : List ℕ} {r : Planned} {lists' : List ℤ} {bounds' steps' : List ℕ}
    (call : PlanCall strategy parity basis folded c a b lists bounds steps r lists' bounds' steps') (made : r.refusal ≡ 0) where
  -- what is planned
  abbrev planned : List ℤ
  planned = planned_coefficients folded parity basis c

  -- its lists stand in the buffers
  stands : Stands strategy (planned_parity folded parity) basis planned lists bounds lists' bounds'
  unfolding plan_coefficients plan_boundaries head_of
  stands =
      let facts = plannable folded parity basis c (call_brings call made).accepted in
      let given = passed folded parity c (call_brings call made).accepted in
      let long = head_fits strategy parity basis folded c a b lists bounds steps (call_brings call made) in
      record {
        degrees = record { from = omega (arith, facts.several); to = facts.few };
        doubles = planned_to_53 folded parity basis c given.sum_limit_lem given.settings.degrees.to;
        room = omega (arith, long.coefficients, facts.several);
        boundaries = long.boundaries;
        listed = call.coefficients ∙ sym (when_accepted _ _ (call_passes call made));
        ended = call.boundaries ∙ sym (when_accepted _ _ (call_passes call made));
      }

  listed_is : listed_in r.head
      ≡ record {
        refusal = 0;
        degree = degree_of planned;
        base = 2 ^ split_for strategy (planned_parity folded parity) basis (degree_of planned);
        coefficients = length planned;
        lists = leaves_of (plan_tree strategy (planned_parity folded parity) basis (degree_of planned));
      }
  unfolding head_of
  listed_is = ap listed_in (call_head call made) ∙ rw (whole stands)

  -- and a rebuild call with what the head says is one with the settings
  with_settings : {out : List ℤ} {s : Rebuilt} {out' : List ℤ}
      → RebuildCall r.head.strategy r.head.parity r.head.basis r.head.degree r.head.base lists' bounds' out s out'
      → RebuildCall strategy (planned_parity folded parity) basis (degree_of planned)
      (2 ^ split_for strategy (planned_parity folded parity) basis (degree_of planned)) lists' bounds' out s out'
  unfolding head_of
  with_settings rebuilding = rw (call_head call made) at rebuilding

pub rebuilds_plans : RebuildsPlans
rebuilds_plans strategy parity basis folded c a b lists bounds steps r lists' bounds' steps' call made out s out' rebuilding room =
    gives_again (stands call made) refl refl (with_settings call made rebuilding) room

pub plans_rebuilt : PlansRebuilt
plans_rebuilt strategy parity basis degree base lists bounds c s c' rebuilding made a b out ends steps r out' ends' steps' call accepts =
    lists_again rebuilding made (stands call accepts) (listed_is call accepts)

pub rebuilt_right : RebuiltRight
rebuilt_right strategy parity basis degree base lists bounds c s c' rebuilding made accepted a b more x =
    stored_right strategy parity basis false (take s.coefficients c') a b lists bounds _ x accepted
    record {
      more_coefficients = drop (suc degree) lists;
      more_bounds = drop (leaves_of (plan_tree strategy parity basis degree)) bounds;
      more_steps = more;
      coefficients_are = sym (take-append-drop (suc degree) lists) ∙ ap (◌++ drop (suc degree) lists) (sym (listed_front rebuilding made));
      bounds_are =
          sym (take-append-drop (leaves_of (plan_tree strategy parity basis degree)) bounds)
          ∙ ap (◌++ drop (leaves_of (plan_tree strategy parity basis degree)) bounds) (sym (ended_front rebuilding made));
      steps_are = refl;
    }

pub plans_tell : PlansTell
plans_tell strategy parity basis c d a b a' b' out ends steps r out' ends' steps' first made room marks numbers s room' marks' numbers' second accepts same =
    same_lists (stands first made) (stands second accepts)
    (ap (λ (x : Listed). take x.coefficients out') (sym (listed_is first made))
    ∙ same
    ∙ ap (λ (x : Listed). take x.coefficients room') (listed_is second accepts))

pub rebuild_order : RebuildOrder
rebuild_order strategy parity basis degree base lists bounds out = refl
