-- Request Q-10: "power steps once, for the union of needed powers, then each member's lists and combines." What the list of the common powers holds, and
-- in which order a set's steps and boundaries stand.
use Rattle.std.specs.Prelude.{◌≡◌, ◌↔◌, ℕ}
use mathlib.Core.List.{List, ◌++◌, map, Memᴰ}
use Rattle.algebra.specs.declared.Basis.{Basis}
use Rattle.needed.specs.Needed.{Target, NeededPower, Least}
use Rattle.needed.specs.Promises.{Rising}
use Rattle.lists.specs.Lists.{joined}
use Rattle.walk.specs.declared.plan.Head.{Head}
use Rattle.plan.specs.PlanSteps.{make_step}
use Rattle.sets.specs.Own.{own_split, own_steps, own_boundaries}
use Rattle.sets.specs.SetPlan.{set_powers, set_steps, set_boundaries}

-- one of the members with these heads needs power n
pub data NeededBySome (heads : List Head) (n : ℕ) : Type 0 where
  needed_by : (head : Head) → Memᴰ head heads → NeededPower head.parity head.basis head.degree (own_split head) n → NeededBySome heads n

-- it is a target of one of them
pub data TargetOfSome (heads : List Head) (n : ℕ) : Type 0 where
  target_of : (head : Head) → Memᴰ head heads → Target head.parity head.degree (own_split head) n → TargetOfSome heads n

-- all have one basis
abbrev pub OneBasis : Basis → List Head → Type 0
OneBasis basis heads = (head : Head) → Memᴰ head heads → head.basis ≡ basis

pub record CommonPowers (heads : List Head) : Type 1 where
  -- the list holds the union, and nothing else; it rises, so it holds each power once, and its length is the size of the union
  pub listed : (n : ℕ) → Memᴰ n (set_powers heads) ↔ NeededBySome heads n
  pub rising : Rising (set_powers heads)
  -- where the members have one basis, the union is the least set that holds the targets of each and is closed under parts
  pub least : (basis : Basis) → OneBasis basis heads → Least basis (TargetOfSome heads) (NeededBySome heads)

abbrev pub SetsShare : Type 1
SetsShare = (heads : List Head) → CommonPowers heads

-- the steps are one for each power of the list, then each member's own in member order; the boundaries are each member's own in member order
pub record SetInOrder (heads : List Head) : Type 0 where
  pub steps : set_steps heads ≡ map make_step (set_powers heads) ++ joined (map own_steps heads)
  pub boundaries : set_boundaries heads ≡ joined (map own_boundaries heads)

abbrev pub SetsInOrder : Type 0
SetsInOrder = (heads : List Head) → SetInOrder heads
