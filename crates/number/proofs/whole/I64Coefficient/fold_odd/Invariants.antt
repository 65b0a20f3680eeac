use Rattle.number.proofs.FoldLoops.{Summing}
use Rattle.number.proofs.whole.I64Coefficient.fold_odd.Given as goal

abbrev pub invariant-loop-i : goal.invariant-loop-i
invariant-loop-i l = Summing l.c l.initial.out l.out l.s l.i
