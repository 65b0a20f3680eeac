-- The loop's invariant: the boundaries rise if those from here on rise from the last one. Each test is the definition's at the next boundary.
use Rattle.std.proofs.Common.{sym, ◌∙◌, arith}
use Rattle.walk.proofs.BoundaryLaws.{rises_not, rises_past, rises_next, rises_done}
use Rattle.walk.proofs.sums.bounds_rise.Goals as goal

pub returns-then-bound-last : goal.returns-then-bound-last
returns-then-bound-last c =
    let l = c.loop-bound in
    sym (rises_not c.args.bounds.now c.args.most l.last l.bound-index c.loop-bound-test.true (omega arith)) ∙ l.invariant

pub returns-then-most-bound : goal.returns-then-most-bound
returns-then-most-bound c =
    let l = c.loop-bound in
    sym (rises_past c.args.bounds.now c.args.most l.last l.bound-index c.loop-bound-test.true (omega arith) (omega arith)) ∙ l.invariant

pub loop-bound-preserved : goal.loop-bound-preserved
loop-bound-preserved c =
    let l = c.loop-bound in
    rw c.from-bound.ensures
    (sym (rises_next c.args.bounds.now c.args.most l.last l.bound-index c.loop-bound-test.true (omega arith) (omega arith)) ∙ l.invariant)

pub returns : goal.returns
returns c =
    let l = c.loop-bound in
    sym (rises_done c.args.bounds.now c.args.most l.last l.bound-index c.loop-bound-test.false) ∙ l.invariant
