use Rattle.number.proofs.CopyLoop.{Copied}
use Rattle.number.proofs.copy.copy_coeffs.Given as goal

abbrev pub invariant-loop-i : goal.invariant-loop-i
invariant-loop-i g l = Copied l.c l.initial.out l.out l.i
