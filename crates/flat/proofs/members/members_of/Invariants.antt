use mathlib.Core.Path.{◌≡◌}
use lib.ListN.{length}
use Rattle.sets.specs.SetPlan.{member_limit}
use Rattle.flat.specs.Sets.{member_meant}
use Rattle.flat.proofs.PlaceByPlace.{FilledUpto}
use Rattle.flat.proofs.members.members_of.Given as goal

abbrev pub invariant-loop-i : goal.invariant-loop-i
invariant-loop-i l = record {
  places : length l.handed.members ≡ member_limit;
  upto : FilledUpto member_meant l.handed.members l.i l.members;
}
