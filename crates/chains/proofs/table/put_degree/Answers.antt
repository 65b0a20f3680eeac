-- `chains::table::put_degree` meets its contract. The loop's invariant: the lines of the settings before k are put, one behind another, each in at most 80
-- bytes.
use mathlib.Core.Path.{◌≡◌, ap, sym}
use native.Mathlib.Omega.{arith}
use Rattle.texts.proofs.PutLaws.{put_length, put_none, put_same, put_then}
use Rattle.chains.specs.Table.{lines_from}
use Rattle.chains.proofs.TableLaws.{no_lines, lines_behind}
use Rattle.chains.proofs.table.put_degree.Goals as goal

pub loop-k-init : goal.loop-k-init
loop-k-init c =
    let args = c.args in
    record { within = omega arith; put = put_same (put_none args.out.now args.at) (sym (no_lines args.degree)); room = omega arith }

pub loop-k-preserved : goal.loop-k-preserved
loop-k-preserved c =
    let inv = c.loop-k.invariant in
    let line = c.put_line_at-next.ensures in
    record {
      within = omega arith;
      put = put_same (put_then inv.put line.0) (lines_behind c.args.degree c.loop-k.k);
      room = omega (arith, inv.room, line.1);
    }

pub shape_of-out : goal.shape_of-out
shape_of-out c = put_length c.loop-k.invariant.put

pub returns : goal.returns
returns c =
    let loop = c.loop-k in
    let all : loop.k ≡ 12 = omega arith in
    (put_same loop.invariant.put (ap (lines_from c.args.degree 0) all), omega (arith, loop.invariant.room))
