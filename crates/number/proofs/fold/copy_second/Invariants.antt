use Rattle.number.proofs.FoldLoops.{Copying}
use Rattle.number.proofs.fold.copy_second.Given as goal

abbrev pub invariant-loop-i : goal.invariant-loop-i
invariant-loop-i g l = Copying l.c l.from l.initial.out l.out l.i
