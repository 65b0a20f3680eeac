use mathlib.Core.Path.{◌≡◌}
use lib.ListN.{length, take, drop}
use Rattle.sets.specs.SetPlan.{member_limit}
use Rattle.flat.specs.Sets.{knows_each, knows_members}
use Rattle.flat.proofs.members.MembersTryFromCMembers.try_from.Given as goal

abbrev pub invariant-loop-i : goal.invariant-loop-i
invariant-loop-i l = record {
  places : length l.handed.members ≡ member_limit;
  rest : knows_members l.handed ≡ knows_each (drop l.i (take l.handed.count l.handed.members));
}
