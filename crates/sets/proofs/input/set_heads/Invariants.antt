use mathlib.Core.Path.{◌≡◌}
use Rattle.sets.proofs.InputLaws.{heads_upto}
use Rattle.sets.proofs.input.set_heads.Given as goal

abbrev pub invariant-loop-i : goal.invariant-loop-i
invariant-loop-i l = l.heads ≡ heads_upto l.i l.members
