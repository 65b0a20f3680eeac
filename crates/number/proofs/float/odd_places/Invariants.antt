use Prim.Native.Nat.{◌+◌}
use Rattle.number.proofs.FoldLoops.{Adding}
use Rattle.number.proofs.float.odd_places.Given as goal

abbrev pub invariant-loop-j : goal.invariant-loop-j
invariant-loop-j l = Adding l.c l.i l.first l.w l.j × Adding l.c (l.i + 1) l.second l.v l.j
