-- With four known kinds the answer is the call's own answer for them, and else refusal 43.
use Rattle.plan.specs.PlanSizes.{no_sizes}
use Rattle.flat.specs.Kinds.{knows_settings}
use Rattle.flat.specs.Unknown.{when_known}
use Rattle.flat.specs.Flat.{flat_sizes}
use Rattle.flat.proofs.Reading.{refused_told}
use Rattle.exports.proofs.degrees.sizes.Goals as goal

pub returns-in_err-fold : goal.returns-in_err-fold
unfolding knows_settings
returns-in_err-fold c =
    let refused = c.in_err-fold.ensures in
    refused_told flat_sizes _ no_sizes _ _ c.from_residual.ensures.1 refused.1 (rw refused.0)

pub returns-in_err-settings_of : goal.returns-in_err-settings_of
unfolding knows_settings
returns-in_err-settings_of c =
    let fold = c.in_ok-fold.ensures in
    let refused = c.in_err-settings_of.ensures in
    refused_told flat_sizes _ no_sizes _ _ c.from_residual-in_err-settings_of.ensures.1 refused.1 (rw (fold.0, refused.0))

pub returns : goal.returns
unfolding when_known knows_settings
returns c =
    let fold = c.in_ok-fold.ensures in
    let settings = c.in_ok-settings_of.ensures in
    rw (fold.0, settings.0, c.plan_sizes.ensures, fold.1, settings.1)
