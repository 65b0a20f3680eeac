-- What stands in the places that the head of a made plan counts is what is planned: the call left it at the front of its buffers, and the head's counts
-- are its lengths. A call that answers by the definition makes a plan of whatever is accepted.
use mathlib.Core.Path.{◌≡◌, refl, sym, ◌∙◌, ap}
use mathlib.Core.Bool.{Bool}
use mathlib.Core.List.{List}
use Prim.Native.Nat.{ℕ, ◌*◌}
use lib.Ieee.{Float}
use lib.IntN.{ℤ}
use lib.ListN.{take}
use lib.Seq.{take_at}
use Rattle.algebra.specs.declared.Basis.{Basis}
use Rattle.algebra.specs.declared.Parity.{Parity}
use Rattle.number.proofs.FirstRefusal.{when_accepted}
use Rattle.counts.specs.declared.choice.SplitStrategy.{SplitStrategy}
use Rattle.walk.specs.declared.plan.Head.{Head}
use Rattle.plan.specs.PlanCall.{head_for, coefficients_for, boundaries_for, numbers_for, Planned}
use Rattle.plan.specs.PlanCall.{plan_refusal, plan_answer, plan_coefficients, plan_boundaries, plan_numbers, PlanCall}
use Rattle.demands.specs.Accepts.{BringsPlan}
use Rattle.demands.specs.MadePlan.{MadePlan, lists_in, boundaries_in, steps_in, PlansIfAccepted}
use Rattle.demands.specs.Right.{PlanRight}
use Rattle.demands.proofs.Refusals.{plan_made_lem, made_brings}
use Rattle.demands.proofs.Right.{plans_right, coefficients_length, boundaries_length, numbers_length}
use Rattle.demands.proofs.Total.{refusal_is}

-- ---- a call that was not refused

module _ {strategy : SplitStrategy} {parity : Parity} {basis : Basis} {folded : Bool} {c : List ℤ} {a b : Float} {out : List ℤ} {bounds steps : List ℕ}
    {r : Planned} {out' : List ℤ} {bounds' steps' : List ℕ} (call : PlanCall strategy parity basis folded c a b out bounds steps r out' bounds' steps')
    (made : r.refusal ≡ 0) where
  pub call_passes : plan_refusal strategy parity basis folded c a b out bounds steps ≡ 0
  call_passes = sym (refusal_is strategy parity basis folded c a b out bounds steps r out' bounds' steps' call) ∙ made

  pub call_brings : BringsPlan strategy parity basis folded c a b out bounds steps
  call_brings = made_brings strategy parity basis folded c a b out bounds steps call_passes

  pub call_head : r.head ≡ head_for strategy parity basis folded c a b
  unfolding plan_answer
  call_head = ap (λ (p : Planned). p.head) (call.answer ∙ sym (when_accepted _ _ call_passes))

-- ---- what it left

module _ {strategy : SplitStrategy} {parity : Parity} {basis : Basis} {folded : Bool} {c : List ℤ} (plan : MadePlan strategy parity basis folded c) where
  brings : BringsPlan strategy parity basis folded c plan.lower plan.upper plan.out plan.bounds plan.steps
  brings = call_brings plan.called plan.accepted

  right : PlanRight strategy parity basis folded c plan.lower plan.upper plan.out plan.bounds plan.steps
      plan.answer plan.out' plan.bounds' plan.steps'
  right = plans_right strategy parity basis folded c plan.lower plan.upper plan.out plan.bounds plan.steps
      plan.answer plan.out' plan.bounds' plan.steps' brings plan.called

  pub made_head : plan.answer.head ≡ head_for strategy parity basis folded c plan.lower plan.upper
  made_head = call_head plan.called plan.accepted

  pub made_lists : lists_in plan ≡ coefficients_for strategy parity basis folded c
  made_lists =
      ap (take plan.answer.head.coefficients) right.stored.coefficients_are
      ∙ take_at (coefficients_for strategy parity basis folded c) right.stored.more_coefficients plan.answer.head.coefficients
      (coefficients_length strategy parity basis folded c brings.accepted plan.lower plan.upper
      ∙ ap (λ (h : Head). h.coefficients) (sym made_head))

  pub made_boundaries : boundaries_in plan ≡ boundaries_for strategy parity basis folded c
  made_boundaries =
      ap (take plan.answer.head.lists) right.stored.bounds_are
      ∙ take_at (boundaries_for strategy parity basis folded c) right.stored.more_bounds plan.answer.head.lists
      (boundaries_length strategy parity basis folded c brings.accepted plan.lower plan.upper
      ∙ ap (λ (h : Head). h.lists) (sym made_head))

  pub made_steps : steps_in plan ≡ numbers_for strategy parity basis folded c
  made_steps =
      ap (take (4 * plan.answer.head.steps)) right.stored.steps_are
      ∙ take_at (numbers_for strategy parity basis folded c) right.stored.more_steps (4 * plan.answer.head.steps)
      (numbers_length strategy parity basis folded c brings.accepted plan.lower plan.upper
      ∙ ap (λ (h : Head). 4 * h.steps) (sym made_head))

-- ---- a call for whatever is accepted

-- it answers and leaves what the definition says
called_so : (strategy : SplitStrategy) (parity : Parity) (basis : Basis) (folded : Bool) (c : List ℤ) (a b : Float) (out : List ℤ) (bounds steps : List ℕ)
    → BringsPlan strategy parity basis folded c a b out bounds steps → MadePlan strategy parity basis folded c
unfolding plan_answer
called_so strategy parity basis folded c a b out bounds steps is = record {
  lower = a;
  upper = b;
  out = out;
  bounds = bounds;
  steps = steps;
  answer = plan_answer strategy parity basis folded c a b out bounds steps;
  out' = plan_coefficients strategy parity basis folded c a b out bounds steps;
  bounds' = plan_boundaries strategy parity basis folded c a b out bounds steps;
  steps' = plan_numbers strategy parity basis folded c a b out bounds steps;
  called = record { answer = refl; coefficients = refl; boundaries = refl; numbers = refl };
  accepted = ap (λ (r : Planned). r.refusal) (sym (when_accepted _ _ (plan_made_lem strategy parity basis folded c a b out bounds steps is)));
}

pub plans_if_accepted : PlansIfAccepted
unfolding called_so
plans_if_accepted strategy parity basis folded c = record {
  made = λ a b out bounds steps is. record {
    plan = called_so strategy parity basis folded c a b out bounds steps is;
    lower_is = refl;
    upper_is = refl;
    out_is = refl;
    bounds_are = refl;
    steps_are = refl;
  };
  accepted = λ plan. (brings plan).accepted;
}
