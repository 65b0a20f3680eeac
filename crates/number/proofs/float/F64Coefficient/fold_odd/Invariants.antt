use mathlib.Core.Path.{◌≡◌}
use Prim.Native.Nat.{◌%◌}
use Rattle.number.specs.Numbers.{float_ops}
use Rattle.number.proofs.FoldLoops.{Placing}
use Rattle.number.proofs.float.F64Coefficient.fold_odd.Given as goal

abbrev pub invariant-loop-i : goal.invariant-loop-i
invariant-loop-i l = Placing float_ops l.c l.initial.out l.out l.i × (l.i % 2 ≡ 0)
