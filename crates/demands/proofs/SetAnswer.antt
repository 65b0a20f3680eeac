-- What a planned set's record tells: it is that of the members' heads, zero heads behind them. A member's head is made of that of its plan alone, which
-- every call that makes this plan answers with; and the steps of a plan are its power steps and the member's own.
use mathlib.Core.Path.{◌≡◌, refl, sym, ◌∙◌, ap, ap₂}
use mathlib.Core.List.{List, [], ◌∷◌, ◌++◌, map}
use Prim.Native.Nat.{ℕ, suc, ◌+◌, ◌-◌, ◌*◌, ◌≤◌}
use native.Mathlib.Omega.{arith}
use lib.Ieee.{Float}
use lib.IntN.{ℤ}
use lib.ListN.{length, drop, replicate, length-append, length-take, length-map, length-replicate}
use Rattle.lists.proofs.Arranging.{some_leaves}
use Rattle.walk.specs.declared.plan.Head.{Head}
use Rattle.walk.specs.declared.plan.Step.{Step}
use Rattle.plan.specs.PlanSteps.{make_step, last_plain, list_steps}
use Rattle.plan.specs.PlanHead.{head_of, no_head}
use Rattle.plan.specs.PlanCall.{Accepted, head_for}
use Rattle.plan.proofs.StepCounts.{steps_length}
use Rattle.sets.specs.Members.{members_in, Curve, curves_in}
use Rattle.sets.specs.Own.{own_tree, own_powers, own_steps, with_steps, alone_head, member_head}
use Rattle.sets.specs.SetPlan.{member_limit, heads_of, set_of}
use Rattle.sets.specs.SetCall.{curves, SetPlanned}
use Rattle.sets.specs.declared.member.Member.{Member}
use Rattle.sets.specs.declared.member.Members.{Members}
use Rattle.demands.specs.MadePlan.{MadePlan}
use Rattle.demands.specs.SetAnswer.{HeadAsAlone, SetsAnswered}
use Rattle.demands.proofs.Total.{zero_head}
use Rattle.demands.proofs.MadePlan.{made_head}
use Rattle.demands.proofs.SetAccepts.{covered_sets_accepted}
use Rattle.demands.proofs.Parts.{own_steps_length}
use Rattle.demands.proofs.SetRight.{head_range, alone_planned, sets_right}

-- ---- one member

-- its loads and combines: one of each for every list but the first, which is only loaded
own_steps_count : (curve : Curve) → (member_head curve).steps ≡ 2 * (member_head curve).lists - 1
unfolding head_of own_steps list_steps
own_steps_count curve =
    let head = member_head curve in
    let counted = steps_length (last_plain head.degree (own_tree head)) (own_tree head) 0 in
    let some = some_leaves (own_tree head) in
    omega arith

-- the steps of its plan alone
pub alone_steps : (curve : Curve) → (alone_head curve).steps ≡ length (own_powers (member_head curve)) + (member_head curve).steps
unfolding head_of
alone_steps curve =
    ap (λ (l : List Step). length l) (alone_planned curve)
    ∙ length-append (map make_step (own_powers (member_head curve))) (own_steps (member_head curve))
    ∙ ap₂ ◌+◌ (length-map (own_powers (member_head curve)) make_step) (own_steps_length curve)

module _ (curve : Curve) where
  abbrev Plan : Type 0
  Plan = MadePlan curve.member.strategy curve.member.parity curve.member.basis curve.member.fold curve.coefficients

  abbrev head_on : (a b : Float) → Head
  head_on = head_for curve.member.strategy curve.member.parity curve.member.basis curve.member.fold curve.coefficients

  -- the number of steps is the same on any interval
  steps_anywhere : (a b : Float) → (head_on a b).steps ≡ (alone_head curve).steps
  unfolding head_of
  steps_anywhere a b = refl

  member_head_lem : Accepted curve.member.fold curve.member.parity curve.coefficients → HeadAsAlone curve
  member_head_lem accepted = record {
    alone = λ plan lower upper. ap (with_steps (member_head curve).steps) (sym (made_head plan ∙ ap₂ head_on lower upper));
    without_powers_lem = λ plan.
        ap (λ (head : Head). head.steps) (made_head plan) ∙ steps_anywhere plan.lower plan.upper ∙ alone_steps curve;
    loads_and_combines = own_steps_count curve;
    degree_from = (head_range curve accepted).0;
  }

-- ---- all members

-- as many curves as members
curves_length : (members : List Member) (c : List ℤ) → length (curves_in members c) ≡ length members
unfolding curves_in
curves_length [] c = refl
curves_length (member ∷ members) c = ap suc (curves_length members (drop member.count c))

-- no more than the count says
curves_few : (handed : Members) (c : List ℤ) → handed.count ≤ member_limit → length (curves handed c) ≤ member_limit
curves_few handed c few =
    omega (arith, curves_length (members_in handed) c, length-take handed.count handed.members)

pub heads_length : (curves : List Curve) → length (heads_of curves) ≡ length curves
heads_length curves = length-map curves member_head

-- the heads in a record
heads_filled : (heads : List Head) → (set_of heads).heads ≡ heads ++ replicate (member_limit - length heads) no_head
unfolding set_of
heads_filled heads = refl

pub sets_answered : SetsAnswered
unfolding set_of
sets_answered handed c out bounds steps r out' bounds' steps' brings call =
    let all = curves handed c in
    let covers = (covered_sets_accepted handed c).0 brings.accepted in
    let answer = (sets_right handed c out bounds steps r out' bounds' steps' brings call).answer in
    let heads_are : r.set.heads ≡ heads_of all ++ replicate (member_limit - length all) no_head =
    ap (λ (s : SetPlanned). s.set.heads) answer ∙ heads_filled (heads_of all)
    ∙ ap (λ (n : ℕ). heads_of all ++ replicate (member_limit - n) no_head) (heads_length all) in
    record {
      ct = ap (λ (s : SetPlanned). s.set.ct) answer;
      pt = ap (λ (s : SetPlanned). s.set.pt) answer;
      powers = ap (λ (s : SetPlanned). s.set.powers) answer;
      heads = heads_are;
      all_heads =
          ap length heads_are
          ∙ length-append (heads_of all) (replicate (member_limit - length all) no_head)
          ∙ ap₂ ◌+◌ (heads_length all) (length-replicate (member_limit - length all) no_head)
          ∙ omega (arith, curves_few handed c covers.to);
      beyond_zero = zero_head;
      members = λ curve member. member_head_lem curve (covers.good.accepted curve member);
    }
