-- The members of a set as structs of numbers and the members that these mean, and the planned set as a struct of numbers.
use Rattle.std.specs.Prelude.{Bool, true, ◌&&◌, List, [], ◌∷◌, map, take, replicate}
use Rattle.plan.specs.PlanHead.{no_head}
use Rattle.sets.specs.SetPlan.{member_limit}
use Rattle.sets.specs.declared.member.Member.{Member}
use Rattle.sets.specs.declared.member.Members.{Members}
use Rattle.sets.specs.declared.set.CurveSet.{CurveSet}
use Rattle.sets.specs.SetCall.{SetPlanned}
use Rattle.flat.specs.Kinds.{fold_numbered, strategy_numbered, parity_numbered, basis_numbered, knows_settings}
use Rattle.flat.specs.Unknown.{unknown_kind}
use Rattle.flat.specs.Heads.{flat_head}
use Rattle.flat.specs.declared.members.CMember.{CMember}
use Rattle.flat.specs.declared.members.CMembers.{CMembers}
use Rattle.flat.specs.declared.planned_set.CCurveSet.{CCurveSet}
use Rattle.flat.specs.declared.planned_set.CSetPlanned.{CSetPlanned}

-- ---- members

-- the member that a member of numbers means
unfoldable pub member_meant : CMember → Member
member_meant m = record {
  strategy = strategy_numbered m.strategy;
  parity = parity_numbered m.parity;
  basis = basis_numbered m.basis;
  fold = fold_numbered m.fold;
  a = m.a;
  b = m.b;
  count = m.count;
}

-- the members that are meant: as many, and in each place what it means
unfoldable pub members_meant : CMembers → Members
members_meant handed = record { count = handed.count; members = map member_meant handed.members }

-- whether the kinds of a member are known
abbrev pub knows_member : CMember → Bool
knows_member m = knows_settings m.strategy m.parity m.basis m.fold

-- whether those of each of some members are
unfoldable pub knows_each : List CMember → Bool
knows_each [] = true
knows_each (m ∷ ms) = knows_member m && knows_each ms

-- whether a set call knows all its kinds: those of the first `count` members, or of all 16 if the count is above 16
unfoldable pub knows_members : CMembers → Bool
knows_members handed = knows_each (take handed.count handed.members)

-- ---- the answer of the set call

-- a planned set with its members' heads in numbers
unfoldable pub flat_set : CurveSet → CCurveSet
flat_set set = record { ct = set.ct; pt = set.pt; powers = set.powers; heads = map flat_head set.heads }

abbrev pub flat_set_planned : SetPlanned → CSetPlanned
flat_set_planned r = record { refusal = r.refusal; set = flat_set r.set }

-- the answer to an unknown kind: zero in every field of the set
unfoldable pub no_set_planned : CSetPlanned
no_set_planned = record { refusal = unknown_kind; set = record { ct = 0; pt = 0; powers = 0; heads = replicate member_limit (flat_head no_head) } }
