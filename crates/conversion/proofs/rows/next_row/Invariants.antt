use mathlib.Core.Path.{◌≡◌}
use Rattle.algebra.proofs.Filling.{copied}
use Rattle.conversion.specs.inside.Converting.{next_places}
use Rattle.conversion.proofs.rows.next_row.Given as goal

abbrev pub invariant-loop-i : goal.invariant-loop-i
invariant-loop-i l = l.row ≡ copied (next_places l.to l.last l.initial.row) l.initial.row l.i
