use Rattle.sets.specs.inside.Marking.{PlacesAdded}
use Rattle.sets.proofs.marks.add_places.Given as goal

abbrev pub invariant-loop-n : goal.invariant-loop-n
invariant-loop-n l = PlacesAdded l.parity l.top l.limit l.n l.initial.marks l.marks
