-- `chains::table::put_chains` meets its contract. The loop's invariant: the lines of the degrees from 2 to the one before this are put, one behind another,
-- each degree's in at most 960 bytes.
use mathlib.Core.Path.{◌≡◌, ap, sym}
use Prim.Native.Nat.{◌-◌}
use native.Mathlib.Omega.{arith}
use Rattle.texts.proofs.PutLaws.{put_length, put_none, put_same, put_then}
use Rattle.chains.specs.Table.{degrees_from}
use Rattle.chains.proofs.TableLaws.{no_degrees, degrees_behind}
use Rattle.chains.proofs.table.put_chains.Goals as goal

pub loop-degree-init : goal.loop-degree-init
loop-degree-init c =
    record { from = omega arith; to = omega arith; put = put_same (put_none c.args.out.now 0) (sym no_degrees); room = omega arith }

pub loop-degree-preserved : goal.loop-degree-preserved
loop-degree-preserved c =
    let loop = c.loop-degree in
    let lines = c.put_degree-next.ensures in
    record {
      from = omega (arith, loop.invariant.from);
      to = omega arith;
      put = put_same (put_then loop.invariant.put lines.0) (degrees_behind loop.degree loop.invariant.from);
      room = omega (arith, loop.invariant.room, lines.1, loop.invariant.from);
    }

pub shape_of-out : goal.shape_of-out
shape_of-out c = put_length c.loop-degree.invariant.put

pub returns : goal.returns
returns c =
    let loop = c.loop-degree in
    let all : loop.degree - 2 ≡ 510 = omega arith in
    (put_same loop.invariant.put (ap (degrees_from 2) all), omega (arith, loop.invariant.room))
