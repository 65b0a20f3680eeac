-- Request Q-10, "One set of powers for many curves": which sets are accepted, and what brings the plan of a set.
use Rattle.std.specs.Prelude.{◌≡◌, true, ◌↔◌, ℕ, ◌≤◌, ℤ, length}
use mathlib.Core.List.{List, Memᴰ}
use Rattle.number.specs.Interval.{Ordered}
use Rattle.plan.specs.PlanCall.{Accepted}
use Rattle.plan.specs.PlanSizes.{HasSizes}
use Rattle.sets.specs.Members.{members_in, Curve, handed_count}
use Rattle.sets.specs.SetPlan.{member_limit, heads_of}
use Rattle.sets.specs.SetCall.{curves, SetAccepted}
use Rattle.sets.specs.SetSizes.{set_sizes_of}
use Rattle.sets.specs.declared.member.Member.{Member}
use Rattle.sets.specs.declared.member.Members.{Members}

-- "the same basis and fold setting and, when folded, the same parity"
pub record SameSettings (one other : Member) : Type 0 where
  pub basis : one.basis ≡ other.basis
  pub fold : one.fold ≡ other.fold
  pub parity : one.fold ≡ true → one.parity ≡ other.parity

-- each curve is accepted by itself and has an interval with its bounds in order, and any two curves have these settings in common
pub record GoodSet (curves : List Curve) : Type 0 where
  pub accepted : (curve : Curve) → Memᴰ curve curves → Accepted curve.member.fold curve.member.parity curve.coefficients
  pub ordered : (curve : Curve) → Memᴰ curve curves → Ordered curve.member.a curve.member.b
  pub settings : (one other : Curve) → Memᴰ one curves → Memᴰ other curves → SameSettings one.member other.member

-- there are from 1 to 16 such curves, and their coefficients stand within the one slice
pub record CoveredSet (handed : Members) (c : List ℤ) : Type 0 where
  pub from : 1 ≤ handed.count
  pub to : handed.count ≤ member_limit
  pub within : handed_count (members_in handed) ≤ length c
  pub good : GoodSet (curves handed c)

-- these sets are accepted, and no others
abbrev pub CoveredSetsAccepted : Type 0
CoveredSetsAccepted = (handed : Members) (c : List ℤ) → SetAccepted handed c ↔ CoveredSet handed c

-- what brings the plan of a set: an accepted set, and long enough buffers, which have the sizes of the set
pub record BringsSet (handed : Members) (c out : List ℤ) (bounds steps : List ℕ) : Type 0 where
  pub accepted : SetAccepted handed c
  pub long_enough : HasSizes (set_sizes_of (heads_of (curves handed c))) (length out) (length bounds) (length steps)
