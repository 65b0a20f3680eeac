-- With a known head the answer is the call's own answer for the head that is meant, and else refusal 43.
use Rattle.walk.specs.Chain.{no_chain}
use Rattle.flat.specs.Unknown.{when_known}
use Rattle.flat.specs.Flat.{flat_chain}
use Rattle.flat.proofs.Reading.{refused_told}
use Rattle.exports.proofs.planning.chain.Goals as goal

pub returns-in_err-try_from : goal.returns-in_err-try_from
returns-in_err-try_from c =
    let refused = c.in_err-try_from.ensures in
    refused_told flat_chain _ no_chain _ _ c.from_residual.ensures.1 refused.1 refused.0

pub returns : goal.returns
unfolding when_known
returns c =
    let head = c.in_ok-try_from.ensures in
    rw (head.0, c.heaviest_chain.ensures, head.1)
