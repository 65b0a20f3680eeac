-- With three known kinds the answer is the call's own answer for them, with the call's own buffer, and else refusal 43 with the buffer unchanged.
use Rattle.rebuild.specs.RebuildCall.{no_rebuilt}
use Rattle.flat.specs.Unknown.{when_known}
use Rattle.flat.specs.Flat.{flat_rebuilt}
use Rattle.flat.proofs.Reading.{refused_told, left_told}
use Rattle.exports.proofs.rebuilding.rebuilt.Goals as goal

pub returns-in_err-settings : goal.returns-in_err-settings
returns-in_err-settings c =
    let refused = c.in_err-settings.ensures in
    record {
      answer = refused_told flat_rebuilt _ no_rebuilt _ _ c.from_residual.ensures.1 refused.1 refused.0;
      coefficients = left_told _ _ refused.0;
    }

pub returns : goal.returns
unfolding when_known
returns c =
    let settings = c.in_ok-settings.ensures in
    record {
      answer = rw (settings.0, c.rebuild.ensures.answer, settings.1);
      coefficients = rw (settings.0, c.rebuild.ensures.coefficients, settings.1);
    }
