-- Each test is one of the definition. Past them the steps run on parts of the buffers, which are what the definition takes of them, and on the point as
-- the rules take it; the transform does the rest as the rules do.
use Rattle.std.proofs.Common.{◌≡◌, true, length, sym, ap, ◌∙◌}
use Rattle.std.proofs.Math.Facts.{to_z-of_z}
use Rattle.std.proofs.Math.Seq.{length-take-le}
use Rattle.walk.specs.Lent.{bounds_rise}
use Rattle.walk.proofs.LentLaws.{Counts, few_coefficients, few_bounds, few_steps, not_rising, stuck, walked}
use Rattle.walk.proofs.call.walk_lent.Goals as goal
use Rattle.walk.proofs.call.walk_lent.Given.{Over}
use Rattle.walk.proofs.call.walk_lent.Goals.{After-run_steps, Else-steps-count, In_ok-lists}

pub returns-then-coefficients-n : goal.returns-then-coefficients-n
returns-then-coefficients-n g c =
    let a = c.args in
    few_coefficients (g.A.Arithmetic.rules a.arithmetic) a.head a.coefficients.now a.bounds.now a.steps.now a.point c.if-coefficients-n.true

pub returns-then-bounds-list_count : goal.returns-then-bounds-list_count
returns-then-bounds-list_count g c =
    let a = c.args in
    few_bounds (g.A.Arithmetic.rules a.arithmetic) a.head a.coefficients.now a.bounds.now a.steps.now a.point c.if-coefficients-n.false
    c.if-bounds-list_count.true

pub returns-then-steps-count : goal.returns-then-steps-count
returns-then-steps-count g c =
    let a = c.args in
    few_steps (g.A.Arithmetic.rules a.arithmetic) a.head a.coefficients.now a.bounds.now a.steps.now a.point c.if-coefficients-n.false
    c.if-bounds-list_count.false c.if-steps-count.true

-- past the first three tests the counts are within their buffers
fits : (g : Over) (c : Else-steps-count g) → let a = c.args in
    Counts a.head (length a.coefficients.now) (length a.bounds.now) (length a.steps.now)
fits g c = record { coefficients = c.if-coefficients-n.false; lists = c.if-bounds-list_count.false; steps = c.if-steps-count.false }

-- past the fourth the boundaries rise
rising : (g : Over) (c : In_ok-lists g) → let a = c.args in bounds_rise a.head a.bounds.now ≡ true
rising g c =
    let a = c.args in
    let taken = c.in_ok-lists.ensures in
    rw (taken.0, taken.1, length-take-le a.head.coefficients a.coefficients.now c.if-coefficients-n.false) at c.in_ok-lists.lists.rising

-- the point as a number
point_is : (g : Over) (c : After-run_steps g) → let a = c.args in c.point-x.result ≡ (g.A.Arithmetic.rules a.arithmetic).point a.point
point_is g c = c.point-x.ensures ∙ ap (g.A.Arithmetic.rules c.args.arithmetic).point (to_z-of_z c.ranges.point)

pub returns-in_err-lists : goal.returns-in_err-lists
returns-in_err-lists g c =
    let a = c.args in
    let sized = length-take-le a.head.coefficients a.coefficients.now c.if-coefficients-n.false in
    rw c.from_residual.ensures
    (not_rising (g.A.Arithmetic.rules a.arithmetic) a.head a.coefficients.now a.bounds.now a.steps.now a.point
    (fits g (goal.at.returns-in_err-lists g c).Else-steps-count) (rw sized at c.in_err-lists.ensures))

pub returns-in_err-v : goal.returns-in_err-v
returns-in_err-v g c =
    let here = goal.at.returns-in_err-v g c in
    let a = c.args in
    let taken = c.in_ok-lists.ensures in
    rw c.from_residual-in_err-v.ensures
    (stuck (g.A.Arithmetic.rules a.arithmetic) a.head a.coefficients.now a.bounds.now a.steps.now a.point (fits g here.Else-steps-count)
    (rising g here.In_ok-lists) (sym (rw (taken.0, taken.1, c.input_of-y.ensures, point_is g here.After-run_steps) at c.in_err-v.ensures)))

pub returns : goal.returns
returns g c =
    let here = goal.at.returns g c in
    let a = c.args in
    let taken = c.in_ok-lists.ensures in
    rw (c.output_of.ensures, point_is g here.After-run_steps)
    (walked (g.A.Arithmetic.rules a.arithmetic) a.head a.coefficients.now a.bounds.now a.steps.now a.point (fits g here.Else-steps-count)
    c.in_ok-v.v (rising g here.In_ok-lists)
    (sym (rw (taken.0, taken.1, c.input_of-y.ensures, point_is g here.After-run_steps) at c.in_ok-v.ensures)))
