use mathlib.Core.Path.{◌≡◌}
use Prim.Native.Nat.{◌-◌}
use lib.ListN.{take, drop}
use lib.IntN.{pos}
use Rattle.algebra.specs.declared.Basis.TheVariants.{Chebyshev}
use Rattle.rebuild.specs.Undo.{can_undo}
use Rattle.number.proofs.Cutting.{cut_to}
use Rattle.rebuild.proofs.Undoing.{undoing, rest}
use Rattle.rebuild.proofs.undo.undo_chebyshev.Given as goal

abbrev pub invariant-loop-j : goal.invariant-loop-j
invariant-loop-j l = record {
  before : l.c ≡ cut_to undoing l.p l.initial.c (pos 0) (l.j - 1);
  passed : can_undo Chebyshev (take l.p l.initial.c) (drop l.p l.initial.c) ≡ rest l.p l.initial.c (l.j - 1);
}
