-- Request Q-10: "The answer holds both, the number of power steps and each member's head as planned alone, its steps counted without power steps; heads
-- beyond the members are zero."
use Rattle.std.specs.Prelude.{◌≡◌, ℕ, ◌+◌, ◌-◌, ◌*◌, ◌≤◌, ℤ, length, replicate}
use mathlib.Core.List.{List, ◌++◌, Memᴰ}
use Rattle.plan.specs.PlanHead.{no_head}
use Rattle.sets.specs.Members.{Curve}
use Rattle.sets.specs.Own.{own_powers, with_steps, member_head}
use Rattle.sets.specs.SetPlan.{member_limit, heads_of, set_powers, set_ct, set_pt}
use Rattle.sets.specs.SetCall.{curves, SetCall, SetPlanned}
use Rattle.sets.specs.declared.member.Members.{Members}
use Rattle.demands.specs.Total.{ZeroHead}
use Rattle.demands.specs.MadePlan.{MadePlan}
use Rattle.demands.specs.SetAccepts.{BringsSet}

-- the head of a member, held against any plan that a call made of it alone
pub record HeadAsAlone (curve : Curve) : Type 0 where
  -- on the same interval all fields but the number of steps are those of the plan's head
  pub alone :
      (plan : MadePlan curve.member.strategy curve.member.parity curve.member.basis curve.member.fold curve.coefficients)
      → plan.lower ≡ curve.member.a → plan.upper ≡ curve.member.b
      → member_head curve ≡ with_steps (member_head curve).steps plan.answer.head
  -- the plan has a step more for each power that the member needs
  pub without_powers_lem :
      (plan : MadePlan curve.member.strategy curve.member.parity curve.member.basis curve.member.fold curve.coefficients)
      → plan.answer.head.steps ≡ length (own_powers (member_head curve)) + (member_head curve).steps
  -- the steps that are counted load each list, and combine each but the first with those before it
  pub loads_and_combines : (member_head curve).steps ≡ 2 * (member_head curve).lists - 1
  -- the degree is at least 1, so that no member's head is taken for one beyond the members
  pub degree_from : 1 ≤ (member_head curve).degree

pub record SetAnswered (handed : Members) (c : List ℤ) (r : SetPlanned) : Type 0 where
  -- both counts (specs/SetCounted says what they count), and the number of power steps, one for each power of the union (specs/SetPowers)
  pub ct : r.set.ct ≡ set_ct (heads_of (curves handed c))
  pub pt : r.set.pt ≡ set_pt (heads_of (curves handed c))
  pub powers : r.set.powers ≡ length (set_powers (heads_of (curves handed c)))
  -- the members' heads in member order, and zero heads behind them: 16 in all
  pub heads : r.set.heads ≡ heads_of (curves handed c) ++ replicate (member_limit - length (curves handed c)) no_head
  pub all_heads : length r.set.heads ≡ member_limit
  pub beyond_zero : ZeroHead no_head
  pub members : (curve : Curve) → Memᴰ curve (curves handed c) → HeadAsAlone curve

abbrev pub SetsAnswered : Type 0
SetsAnswered = (handed : Members) (c out : List ℤ) (bounds steps : List ℕ) (r : SetPlanned) (out' : List ℤ) (bounds' steps' : List ℕ)
    → BringsSet handed c out bounds steps → SetCall handed c out bounds steps r out' bounds' steps' → SetAnswered handed c r
