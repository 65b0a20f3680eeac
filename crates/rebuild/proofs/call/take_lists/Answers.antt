-- `rebuild::call::take_lists` meets its contract. At each turn the first i places hold the first i numbers, each of which fits, as it was read; those
-- beyond are as they were.
use mathlib.Core.Path.{refl}
use Prim.Native.Nat.{◌<◌, ◌^◌}
use native.Mathlib.Omega.{arith}
use lib.IntN.{pos}
use lib.ListN.{get_or}
use lib.Signed.{mag}
use Rattle.algebra.proofs.Filling.{copy_step}
use Rattle.number.proofs.Signed.{back}
use Rattle.rebuild.specs.Undo.{fits_i64}
use Rattle.rebuild.proofs.Every.{every_next, every_none}
use Rattle.rebuild.proofs.call.take_lists.Goals as goal

pub loop-i-init : goal.loop-i-init
loop-i-init c = record { copies = refl; fits = every_none fits_i64 }

pub loop-i-preserved : goal.loop-i-preserved
loop-i-preserved c =
    let loop = c.loop-i in
    let lists = c.args.lists.now in
    let small : mag (get_or lists loop.i (pos 0)) < 2 ^ 63 = omega arith in
    record {
      copies = rw loop.invariant.copies (copy_step lists c.args.room.now loop.i (pos 0) _ (omega arith) (omega arith) (back small refl));
      fits = every_next lists loop.i (omega arith) loop.invariant.fits small;
    }
