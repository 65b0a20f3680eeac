-- Past the test of the modulus the answer is that of the walk of the lent plan: a number is its remainder, and none is 24.
use Rattle.std.proofs.Common.{ap, ◌∙◌}
use Rattle.std.proofs.Math.Facts.{to_z-of_z}
use Rattle.std.proofs.lemmas.Result.{err_from_is_err_and}
use Rattle.walk.specs.Rules.{trial_rules}
use Rattle.walk.specs.Lent.{lent_walk}
use Rattle.walk.proofs.LentLaws.{modulus_refused, walk_answered}
use Rattle.walk.proofs.call.trial_walk.Goals as goal

pub returns-in_err-modulus : goal.returns-in_err-modulus
returns-in_err-modulus c =
    let a = c.args in
    let wrong = c.in_err-modulus.ensures in
    let left = err_from_is_err_and c.from_residual.result c.from_residual.ensures.1 in
    rw (left.1, left.2, wrong.0) (modulus_refused a.head a.coefficients.now a.bounds.now a.steps.now a.point a.modulus wrong.1)

pub returns : goal.returns
returns c =
    let a = c.args in
    let modulus = c.in_ok-modulus.modulus in
    rw (c.ok_or.ensures.value, ← c.in_ok-modulus.ensures)
    (walk_answered a.head a.coefficients.now a.bounds.now a.steps.now a.point modulus.m modulus.valid _
    (c.walk_lent.ensures ∙ ap (lent_walk (trial_rules modulus.m) a.head a.coefficients.now a.bounds.now a.steps.now) (to_z-of_z c.ranges.point)))
