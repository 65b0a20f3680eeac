-- With three known kinds the answer is the call's own answer for them, and else refusal 43.
use Rattle.counts.specs.Calls.{no_counts}
use Rattle.flat.specs.Unknown.{when_known}
use Rattle.flat.specs.Flat.{flat_counts}
use Rattle.flat.proofs.Reading.{refused_told}
use Rattle.exports.proofs.degrees.op_counts.Goals as goal

pub returns-in_err-settings_of : goal.returns-in_err-settings_of
returns-in_err-settings_of c =
    let refused = c.in_err-settings_of.ensures in
    refused_told flat_counts _ no_counts _ _ c.from_residual.ensures.1 refused.1 refused.0

pub returns : goal.returns
unfolding when_known
returns c =
    let settings = c.in_ok-settings_of.ensures in
    rw (settings.0, c.bsgs_op_counts.ensures, settings.1)
