-- `fold_odd` of i64 meets its contract. The loop's invariant: the places from i on hold the fold, those before are as they were, and s is the
-- alternating sum of the odd places' coefficients from place 2i + 1 on. A place of the fold is that sum, once or twice.
use mathlib.Core.Path.{◌≡◌}
use Prim.Native.Nat.{suc, ◌-◌}
use native.Mathlib.Omega.{arith}
use borrow.Author.Tests.{leb-true}
use Rattle.algebra.specs.Magnitude.{sum_abs}
use Rattle.number.specs.Limits.{sum_limit}
use Rattle.number.proofs.Signed.{back}
use Rattle.number.proofs.FoldCall.{odd_places}
use Rattle.number.proofs.FoldLoops.{sum_start, sum_abs_next, less_fits, less_is, sum_step}
use Rattle.number.proofs.whole.I64Coefficient.fold_odd.Goals as goal

pub loop-i-init : goal.loop-i-init
loop-i-init c = sum_start c.args.c.now c.args.out.now (odd_places c.requires.0)

pub overflow_sub-s : goal.overflow_sub-s
overflow_sub-s c =
    less_fits c.args.c.now c.args.out.now (odd_places c.requires.0) c.loop-i.invariant (c.loop-i.i - 1) (omega arith)
    (leb-true (sum_abs c.args.c.now) sum_limit c.requires.1)

pub times_lead-requires : goal.times_lead-requires
times_lead-requires c =
    let small = leb-true (sum_abs c.args.c.now) sum_limit c.requires.1 in
    let next : c.loop-i.i ≡ suc (c.loop-i.i - 1) = omega arith in
    let fits = odd_places c.requires.0 in
    let is = less_is c.args.c.now c.args.out.now fits c.loop-i.invariant (c.loop-i.i - 1) next small in
    omega (arith, sum_abs_next c.args.c.now c.args.out.now fits c.loop-i.invariant (c.loop-i.i - 1) next is, small)

pub bounds-out-i : goal.bounds-out-i
bounds-out-i c = omega (arith, odd_places c.requires.0)

pub loop-i-preserved : goal.loop-i-preserved
loop-i-preserved c =
    let small = leb-true (sum_abs c.args.c.now) sum_limit c.requires.1 in
    let next : c.loop-i.i ≡ suc (c.loop-i.i - 1) = omega arith in
    let fits = odd_places c.requires.0 in
    let is = less_is c.args.c.now c.args.out.now fits c.loop-i.invariant (c.loop-i.i - 1) next small in
    sum_step c.args.c.now c.args.out.now fits c.loop-i.invariant (c.loop-i.i - 1) next is (back c.times_lead.type_inv c.times_lead.ensures)
