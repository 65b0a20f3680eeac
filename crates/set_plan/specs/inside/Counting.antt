-- What the counters of a set ask for and answer (docs/RULES.md, "Sets of curves").
use Rattle.std.specs.Prelude.{◌≡◌, List, map, ℕ, ◌+◌, ◌*◌, ◌≤◌, Ok, length, take}
use Rattle.number.specs.Limits.{count_limit}
use Rattle.walk.specs.declared.plan.Head.{Head}
use Rattle.plan.specs.Reported.{of_kind, allowed_in}
use Rattle.sets.specs.Members.{total}
use Rattle.sets.specs.Own.{own_steps, own_lengths}
use Rattle.sets.specs.SetPlan.{member_limit, member_steps, with_zero_heads}
use Rattle.plan.specs.PlanSizes.{plan_sizes_in}
use Rattle.plan.specs.declared.head.Costs.{Costs}
use Rattle.sets.specs.SetSizes.{set_sizes_of}
use Rattle.sets.specs.inside.Marking.{Common, PowersCounted}
use Rattle.sets.specs.inside.Planning.{heads_by}
use Rattle.sets.specs.declared.member.Member.{Member}
use Rattle.set_plan.specs.declared.outline.SetOutline.{SetOutline}

-- ---- costs

-- a member's combines of kind 3, and its multiplications with plain numbers
unfoldable pub own_costs : Head → Costs
own_costs head = record { threes = of_kind 3 (own_steps head); plains = allowed_in head.parity (own_lengths head) + of_kind 4 (own_steps head) }

-- those of members
unfoldable pub threes_of : List Head → ℕ
threes_of heads = of_kind 3 (member_steps heads)

unfoldable pub plains_of : List Head → ℕ
plains_of heads = total (map (λ (head : Head). allowed_in head.parity (own_lengths head)) heads) + of_kind 4 (member_steps heads)

-- r is what members cost, which is at most so much
pub record CostsAre (heads : List Head) (r : Costs) : Type 0 where
  pub threes_are : r.threes ≡ threes_of heads
  pub plains_are : r.plains ≡ plains_of heads
  pub threes_most : r.threes ≤ count_limit * member_limit

-- ---- the record

-- the common powers of the first `count` members are counted, and behind these members the heads are zero
pub record RecordAsked (heads : List Head) (count powers : ℕ) : Type 0 where
  pub size : count ≤ length heads
  pub counted : PowersCounted (take count heads) powers
  pub zeros : heads ≡ with_zero_heads (take count heads)

-- what is worked out of members: their heads, the common powers, and the sizes of the buffers
pub record Outlined (members : List Member) (outline : SetOutline) : Type 0 where
  pub heads_are : outline.heads ≡ heads_by members
  pub common : Common (take (length members) outline.heads) outline.marks
  pub counted : PowersCounted (take (length members) outline.heads) outline.powers
  pub sizes_are : plan_sizes_in (Ok outline.sizes) ≡ set_sizes_of (take (length members) outline.heads)
