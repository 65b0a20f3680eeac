-- `fold_odd` of f64 meets its contract. The loop's invariant: the first i places hold the fold, those beyond are as they were, and i is even.
-- The fold has half as many places as c, and place i sums the odd coefficients from place 2i + 1 on. A turn writes two places; of an odd number
-- of places one is left after the loop.
use mathlib.Core.Path.{refl}
use Prim.Native.Nat.{◌+◌, ◌<◌, ◌/◌}
use native.Mathlib.Omega.{arith}
use lib.ListN.{length, length-set}
use lib.Ieee.{nan}
use Rattle.number.specs.Numbers.{float_ops}
use Rattle.number.proofs.FoldCall.{odd_places}
use Rattle.number.proofs.FoldLoops.{Placed, placing_start, placing_two, placed_last, placed_all}
use Rattle.number.proofs.float.F64Coefficient.fold_odd.Goals as goal
use Rattle.number.proofs.float.F64Coefficient.fold_odd.Goals.{else-loop-i-test, then-loop-i-test+else-i-end-i-gt2}

pub loop-i-init : goal.loop-i-init
loop-i-init c = (placing_start float_ops c.args.c.now c.args.out.now, refl)

pub bounds-out-i : goal.bounds-out-i
bounds-out-i c = omega (arith, odd_places c.requires.0, c.saturating_sub-i-end.ensures)

pub bounds-out-i-in-loop-i : goal.bounds-out-i-in-loop-i
bounds-out-i-in-loop-i c = simp length-set (omega (arith, odd_places c.requires.0, c.saturating_sub-i-end.ensures))

pub loop-i-preserved : goal.loop-i-preserved
loop-i-preserved c =
    let written = c.odd_places.ensures in
    let inside : c.loop-i.i + 1 < length c.args.c.now / 2 = omega (arith, c.saturating_sub-i-end.ensures) in
    (placing_two (odd_places c.requires.0) c.loop-i.invariant.0 nan inside written.0 written.1, omega (arith, c.loop-i.invariant.1))

pub bounds-out-n : goal.bounds-out-n
bounds-out-n c = omega (arith, odd_places c.requires.0)

pub returns-then-n-eq1 : goal.returns-then-n-eq1
returns-then-n-eq1 c =
    let fits = odd_places c.requires.0 in
    let placed : Placed float_ops c.args.c.now c.args.out.now c.loop-i-test.out = elim c.loop-i-test.branch [
      | else-loop-i-test w ↦ rw w.out-is record {
        next = c.loop-i.i;
        even = c.loop-i.invariant.1;
        near = omega (arith, c.saturating_sub-i-end.ensures);
        placing = c.loop-i.invariant.0;
      }
      | then-loop-i-test+else-i-end-i-gt2 w ↦
          let inside : c.loop-i.i + 1 < length c.args.c.now / 2 = omega (arith, c.saturating_sub-i-end.ensures) in
          rw w.out-is record {
            next = c.loop-i.i + 2;
            even = omega (arith, c.loop-i.invariant.1);
            near = omega (arith, c.saturating_sub-i-end.ensures);
            placing = placing_two fits c.loop-i.invariant.0 nan inside w.odd_places.ensures.0 w.odd_places.ensures.1;
          }
    ] in
    placed_last fits placed nan c.if-n-eq1.true c.odd_place.ensures

pub returns-else-n-eq1 : goal.returns-else-n-eq1
returns-else-n-eq1 c =
    let fits = odd_places c.requires.0 in
    let placed : Placed float_ops c.args.c.now c.args.out.now c.loop-i-test.out = elim c.loop-i-test.branch [
      | else-loop-i-test w ↦ rw w.out-is record {
        next = c.loop-i.i;
        even = c.loop-i.invariant.1;
        near = omega (arith, c.saturating_sub-i-end.ensures);
        placing = c.loop-i.invariant.0;
      }
      | then-loop-i-test+else-i-end-i-gt2 w ↦
          let inside : c.loop-i.i + 1 < length c.args.c.now / 2 = omega (arith, c.saturating_sub-i-end.ensures) in
          rw w.out-is record {
            next = c.loop-i.i + 2;
            even = omega (arith, c.loop-i.invariant.1);
            near = omega (arith, c.saturating_sub-i-end.ensures);
            placing = placing_two fits c.loop-i.invariant.0 nan inside w.odd_places.ensures.0 w.odd_places.ensures.1;
          }
    ] in
    placed_all fits placed c.if-n-eq1.false
