-- What the writers of members' lists ask for and leave (docs/RULES.md, "Sets of curves").
use Rattle.std.specs.Prelude.{◌≡◌, List, map, ℕ, ◌+◌, ◌≤◌, ℤ, length}
use Rattle.std.proofs.lemmas.List.Edits.{sets}
use Rattle.number.specs.Refusal.{first_refusal}
use Rattle.lists.specs.Lists.{joined}
use Rattle.walk.specs.declared.plan.Head.{Head}
use Rattle.plan.specs.PlanCall.{Accepted}
use Rattle.sets.specs.Members.{Curve, curves_in, handed_count}
use Rattle.sets.specs.Own.{own_boundaries, member_head, member_coefficients}
use Rattle.sets.specs.SetPlan.{heads_of, set_coefficients, set_boundaries, coefficient_count, list_count}
use Rattle.sets.specs.SetCall.{own_tests}
use Rattle.sets.specs.inside.Heads.{HeadsFit}
use Rattle.sets.specs.declared.member.Member.{Member}

-- a member with these coefficients
abbrev pub curve_of : Member → List ℤ → Curve
curve_of member c = record { member = member; coefficients = c }

-- a member is accepted, its head is worked out, and its lists have their places, the boundaries from boundary `list` on
pub record MemberFits (member : Member) (head : Head) (list : ℕ) (c out : List ℤ) (bounds : List ℕ) : Type 0 where
  pub accepted : Accepted member.fold member.parity c
  pub head_is : head ≡ member_head (curve_of member c)
  pub room : head.coefficients ≤ length out
  pub boundary_room : list + head.lists ≤ length bounds

-- they stand there, and the head tells how many coefficients they have
pub record MemberPut (member : Member) (head : Head) (list : ℕ) (c out : List ℤ) (bounds : List ℕ) (out' : List ℤ) (bounds' : List ℕ) : Type 0 where
  pub coefficients : out' ≡ sets out 0 (member_coefficients (curve_of member c))
  pub boundaries : bounds' ≡ sets bounds list (own_boundaries head)
  pub size : length (member_coefficients (curve_of member c)) ≡ head.coefficients

-- ---- all members

-- the members stand in the slice and are accepted, their heads are worked out, and their lists have their places
pub record AllListsFit (members : List Member) (heads : List Head) (c out : List ℤ) (bounds : List ℕ) : Type 0 where
  pub within : handed_count members ≤ length c
  pub accepted : first_refusal (joined (map own_tests (curves_in members c))) ≡ 0
  pub heads_fit : HeadsFit heads
  pub heads_are : heads ≡ heads_of (curves_in members c)
  pub room : coefficient_count heads ≤ length out
  pub boundary_room : list_count heads ≤ length bounds

-- they stand from the first places on
pub record AllListsPut (members : List Member) (c out : List ℤ) (bounds : List ℕ) (out' : List ℤ) (bounds' : List ℕ) : Type 0 where
  pub coefficients : out' ≡ sets out 0 (set_coefficients (curves_in members c))
  pub boundaries : bounds' ≡ sets bounds 0 (set_boundaries (heads_of (curves_in members c)))
