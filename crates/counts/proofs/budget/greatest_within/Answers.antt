-- `counts::budget::greatest_within` meets its contract. The invariant: up to the degree at hand the greatest within the budget is the same as up to
-- 4,095. A degree that exceeds the budget has the bits of those that are passed over with it, so all of them may be left out.
use mathlib.Core.Path.{refl, sym, ◌∙◌}
use native.Mathlib.Omega.{arith}
use Rattle.counts.proofs.GreatestWithin.{to_the_last, itself, passed_over}
use Rattle.counts.proofs.budget.greatest_within.Goals as goal

pub loop-degree-init : goal.loop-degree-init
loop-degree-init c = (omega arith, refl)

pub bits_from_one-bits-requires : goal.bits_from_one-bits-requires
bits_from_one-bits-requires c =
    let loop = c.loop-degree in
    let scales = c.requires in
    (record { from = c.loop-degree-test.true; to = omega (arith, loop.invariant.0) }, scales.0, scales.1)

pub returns-then-bits-budget : goal.returns-then-bits-budget
returns-then-bits-budget c =
    let loop = c.loop-degree in
    let args = c.args in
    let found = itself args.strategy args.budget args.input args.coeff (omega (arith, c.bits_from_one-bits.ensures, c.if-bits-budget.true)) in
    (c.loop-degree-test.true, sym (loop.invariant.1 ∙ found))

pub lower_degree-degree-requires : goal.lower_degree-degree-requires
lower_degree-degree-requires c =
    record { from = c.loop-degree-test.true; to = omega (arith, c.loop-degree.invariant.0) }

pub loop-degree-smaller : goal.loop-degree-smaller
loop-degree-smaller c = omega (arith, c.lower_degree-degree.ensures.under)

pub loop-degree-preserved : goal.loop-degree-preserved
loop-degree-preserved c =
    let loop = c.loop-degree in
    let args = c.args in
    let lower = c.lower_degree-degree.ensures in
    let exceeds = rw c.bits_from_one-bits.ensures at c.if-bits-budget.false in
    (omega (arith, loop.invariant.0, lower.under), loop.invariant.1 ∙ passed_over args.strategy args.budget args.input args.coeff lower exceeds)

pub returns : goal.returns
returns c =
    let loop = c.loop-degree in
    let args = c.args in
    omega (arith, loop.invariant.1, to_the_last args.strategy args.budget args.input args.coeff loop.degree, c.loop-degree-test.false)
