-- The tests of the scales are made first, in the definition's order. Past them the walk over weights answers as the walk over values does, by the
-- greatest weight of its value.
use Rattle.walk.proofs.ChainLaws.{input_wide, coeff_wide, weights_answered}
use Rattle.walk.proofs.chain.heaviest_chain.Goals as goal

pub returns-then-input-gt-SCALE_LIMIT : goal.returns-then-input-gt-SCALE_LIMIT
returns-then-input-gt-SCALE_LIMIT c =
    let a = c.args in
    input_wide a.head a.coefficients.now a.bounds.now a.steps.now a.input a.coeff c.if-input-gt-SCALE_LIMIT.true

pub returns-then-coeff-gt-SCALE_LIMIT : goal.returns-then-coeff-gt-SCALE_LIMIT
returns-then-coeff-gt-SCALE_LIMIT c =
    let a = c.args in
    coeff_wide a.head a.coefficients.now a.bounds.now a.steps.now a.input a.coeff c.if-input-gt-SCALE_LIMIT.false
    c.if-coeff-gt-SCALE_LIMIT.true

pub returns : goal.returns
returns c =
    let a = c.args in
    rw c.ok_or.ensures.value
    (weights_answered a.head a.coefficients.now a.bounds.now a.steps.now a.input a.coeff c.if-input-gt-SCALE_LIMIT.false
    c.if-coeff-gt-SCALE_LIMIT.false _ c.walk_lent.ensures)
