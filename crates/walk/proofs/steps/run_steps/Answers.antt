-- The loop's invariant: the steps from here on, run on the state at hand, leave what the walk leaves. A step that is refused refuses the walk.
use Rattle.std.proofs.Common.{sym, ◌∙◌}
use Rattle.walk.specs.Boundaries.{list_at}
use Rattle.walk.specs.inside.Powers.{state_of}
use Rattle.walk.proofs.RunLaws.{left_start, left_refused, left_next, left_done}
use Rattle.walk.proofs.steps.run_steps.Goals as goal

pub loop-i-init : goal.loop-i-init
loop-i-init g c =
    let a = c.args in
    left_start (g.A.Arithmetic.rules a.arithmetic) a.parity a.basis (list_at a.lists.now.coefficients.now a.lists.now.bounds.now) a.steps.now a.count a.y
    _ _ c.first-powers.ensures c.none-waiting.ensures

pub returns-in_err-waiting : goal.returns-in_err-waiting
returns-in_err-waiting g c =
    let a = c.args in
    let l = c.loop-i in
    let refused = rw c.step_at.ensures at c.in_err-waiting.ensures in
    rw c.from_residual.ensures
    (left_refused (g.A.Arithmetic.rules a.arithmetic) a.parity a.basis (list_at a.lists.now.coefficients.now a.lists.now.bounds.now) a.steps.now a.count
    l.i (state_of l.powers l.waiting.list) c.loop-i-test.true refused ∙ l.invariant)

pub loop-i-preserved : goal.loop-i-preserved
loop-i-preserved g c =
    let a = c.args in
    let l = c.loop-i in
    let taken = rw c.step_at.ensures at c.in_ok-waiting.ensures in
    left_next (g.A.Arithmetic.rules a.arithmetic) a.parity a.basis (list_at a.lists.now.coefficients.now a.lists.now.bounds.now) a.steps.now a.count
    l.i (state_of l.powers l.waiting.list) c.loop-i-test.true _ taken ∙ l.invariant

pub returns : goal.returns
returns g c =
    let a = c.args in
    let l = c.loop-i in
    c.one_left.ensures
    ∙ sym (left_done (g.A.Arithmetic.rules a.arithmetic) a.parity a.basis (list_at a.lists.now.coefficients.now a.lists.now.bounds.now) a.steps.now a.count
    l.i (state_of l.powers l.waiting.list) c.loop-i-test.false) ∙ l.invariant
