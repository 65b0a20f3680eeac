use mathlib.Core.Path.{◌≡◌}
use Rattle.algebra.proofs.Filling.{copied}
use Rattle.conversion.specs.inside.Converting.{with_row}
use Rattle.conversion.proofs.sums.add_row.Given as goal

abbrev pub invariant-loop-i : goal.invariant-loop-i
invariant-loop-i l = l.sums ≡ copied (with_row l.q l.row l.initial.sums) l.initial.sums l.i
