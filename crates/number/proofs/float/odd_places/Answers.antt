-- `number::float::odd_places` meets its contract. The loop's invariant is that of `odd_place` twice, for place i and for place i + 1, at the same
-- j. Ahead of the loop the sum of place i has taken c[2i+1], which place i + 1 has no part in.
use mathlib.Core.Path.{refl}
use Prim.Native.Nat.{◌+◌}
use native.Mathlib.Omega.{arith}
use Rattle.number.proofs.Literals.{zero_is}
use Rattle.number.proofs.FoldLoops.{adding_start, adding_step, adding_end}
use Rattle.number.proofs.float.odd_places.Goals as goal

pub loop-j-init : goal.loop-j-init
loop-j-init c = (
  rw (c.lead-w.ensures, ← c.lead.ensures) (adding_step (adding_start c.args.c.now c.args.i zero_is c.lead.ensures refl) (omega (arith, c.requires))),
  adding_start c.args.c.now (c.args.i + 1) zero_is c.lead-v.ensures (omega arith),
)

pub loop-j-preserved : goal.loop-j-preserved
loop-j-preserved c =
    let inv = c.loop-j.invariant in
    (adding_step inv.0 c.loop-j-test.true, adding_step inv.1 c.loop-j-test.true)

pub returns : goal.returns
returns c =
    let inv = c.loop-j.invariant in
    (adding_end inv.0 c.loop-j-test.false, adding_end inv.1 c.loop-j-test.false)

pub returns-2 : goal.returns-2
returns-2 c =
    let inv = c.loop-j.invariant in (
      adding_end (adding_step inv.0 c.loop-j-test.true) (omega arith),
      adding_end (adding_step inv.1 c.loop-j-test.true) (omega arith),
    )
