use mathlib.Core.Path.{◌≡◌}
use lib.ListN.{length}
use Rattle.sets.specs.SetPlan.{member_limit}
use Rattle.flat.specs.Heads.{flat_head}
use Rattle.flat.proofs.PlaceByPlace.{FilledUpto}
use Rattle.flat.proofs.planned_set.CCurveSetFromCurveSet.from.Given as goal

abbrev pub invariant-loop-i : goal.invariant-loop-i
invariant-loop-i l = record {
  places : length l.set.heads ≡ member_limit;
  upto : FilledUpto flat_head l.set.heads l.i l.heads;
}
