-- Members' heads, as the functions of a set ask for them.
use Rattle.std.specs.Prelude.{◌≡◌, List, ℕ, suc, ◌^◌, ◌≤◌, length}
use Rattle.algebra.specs.Each.{Each}
use Rattle.algebra.specs.declared.Basis.{Basis}
use Rattle.number.specs.Limits.{plan_limit}
use Rattle.number.specs.inside.Between.{Between}
use Rattle.needed.specs.inside.Marks.{greatest_target}
use Rattle.lists.specs.Arrange.{leaves_of}
use Rattle.walk.specs.declared.plan.Head.{Head}
use Rattle.sets.specs.Own.{own_split, own_tree, own_steps}
use Rattle.sets.specs.SetPlan.{member_limit}

-- the degree is that of a plan, the base tells the split, and the sizes are those of the member's own lists and steps
pub record HeadFits (head : Head) : Type 0 where
  pub degrees : Between 1 head.degree plan_limit
  pub base_is : head.base ≡ 2 ^ own_split head
  pub coefficients_are : head.coefficients ≡ suc head.degree
  pub lists_are : head.lists ≡ leaves_of (own_tree head)
  pub steps_are : head.steps ≡ length (own_steps head)

-- so it is with the heads of a set's members
pub record HeadsFit (heads : List Head) : Type 0 where
  pub few : length heads ≤ member_limit
  pub each : Each HeadFits heads

-- all heads have this basis
pub record SameBasis (basis : Basis) (heads : List Head) : Type 0 where
  pub each : Each (λ (head : Head). head.basis ≡ basis) heads

-- no member may need a power above n
pub record PowersTo (n : ℕ) (heads : List Head) : Type 0 where
  pub each : Each (λ (head : Head). greatest_target head.degree (own_split head) ≤ n) heads
