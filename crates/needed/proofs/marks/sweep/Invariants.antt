use mathlib.Core.Path.{◌≡◌}
use Rattle.needed.specs.inside.Marks.{sweep_from}
use Rattle.needed.proofs.marks.sweep.Given as goal

abbrev pub invariant-loop-n : goal.invariant-loop-n
invariant-loop-n l = sweep_from l.basis l.n l.marks ≡ sweep_from l.basis l.last l.initial.marks
