-- With known kinds of all members it is the call's own answer for the members that are meant, and else refusal 43.
use Rattle.plan.specs.PlanSizes.{no_sizes}
use Rattle.flat.specs.Unknown.{when_known}
use Rattle.flat.specs.Flat.{flat_sizes}
use Rattle.flat.proofs.Reading.{refused_told}
use Rattle.exports.proofs.curve_sets.sizes.Goals as goal

pub returns-in_err-try_from : goal.returns-in_err-try_from
returns-in_err-try_from c =
    let refused = c.in_err-try_from.ensures in
    refused_told flat_sizes _ no_sizes _ _ c.from_residual.ensures.1 refused.1 refused.0

pub returns : goal.returns
unfolding when_known
returns c =
    let read = c.in_ok-try_from.ensures in
    rw (read.0, c.set_sizes.ensures, read.1)
