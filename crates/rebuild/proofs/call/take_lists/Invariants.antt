use mathlib.Core.Path.{◌≡◌}
use mathlib.Core.Bool.{true}
use lib.ListN.{take}
use Rattle.algebra.proofs.Filling.{copied}
use Rattle.rebuild.specs.Undo.{every, fits_i64}
use Rattle.rebuild.proofs.call.take_lists.Given as goal

abbrev pub invariant-loop-i : goal.invariant-loop-i
invariant-loop-i l = record {
  copies : l.room ≡ copied l.lists l.initial.room l.i;
  fits : every fits_i64 (take l.i l.lists) ≡ true;
}
