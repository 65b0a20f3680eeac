-- With a known head the answer is the call's own answer for the head that is meant, and else refusal 43.
use mir.Facts.{to_z-of_z}
use Rattle.walk.specs.Trial.{no_trial}
use Rattle.flat.specs.Unknown.{when_known}
use Rattle.flat.specs.Flat.{flat_trial}
use Rattle.flat.proofs.Reading.{refused_told}
use Rattle.exports.proofs.planning.walked.Goals as goal

pub returns-in_err-try_from : goal.returns-in_err-try_from
returns-in_err-try_from c =
    let refused = c.in_err-try_from.ensures in
    refused_told flat_trial _ no_trial _ _ c.from_residual.ensures.1 refused.1 refused.0

pub returns : goal.returns
unfolding when_known
returns c =
    let head = c.in_ok-try_from.ensures in
    rw (head.0, c.trial_walk.ensures, head.1, to_z-of_z c.ranges.point)
