-- `number::float::odd_place` meets its contract. The loop's invariant: for some k from i on, j is 2k + 1, w is coefficient i of R_k, and the sum
-- so far goes on with the coefficients from place j to the sum that is asked for. Down a column each coefficient is the opposite of the one
-- before, so w = -w keeps it.
use mathlib.Core.Path.{refl}
use native.Mathlib.Omega.{arith}
use Rattle.number.proofs.Literals.{zero_is}
use Rattle.number.proofs.FoldLoops.{adding_start, adding_step, adding_end}
use Rattle.number.proofs.float.odd_place.Goals as goal

pub loop-j-init : goal.loop-j-init
loop-j-init c = adding_start c.args.c.now c.args.i zero_is c.lead-w.ensures refl

pub loop-j-preserved : goal.loop-j-preserved
loop-j-preserved c = adding_step c.loop-j.invariant c.loop-j-test.true

pub returns : goal.returns
returns c = adding_end c.loop-j.invariant c.loop-j-test.false

pub returns-2 : goal.returns-2
returns-2 c = adding_end (adding_step c.loop-j.invariant c.loop-j-test.true) (omega arith)
