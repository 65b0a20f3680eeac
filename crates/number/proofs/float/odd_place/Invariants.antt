use Rattle.number.proofs.FoldLoops.{Adding}
use Rattle.number.proofs.float.odd_place.Given as goal

abbrev pub invariant-loop-j : goal.invariant-loop-j
invariant-loop-j l = Adding l.c l.i l.sum l.w l.j
