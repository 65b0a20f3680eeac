-- With three known kinds the answer is the call's own answer for them, with the call's own buffers, and else refusal 43 with the buffers unchanged.
use Rattle.lists.specs.ListCall.{no_lists}
use Rattle.flat.specs.Unknown.{when_known}
use Rattle.flat.specs.Flat.{flat_listed}
use Rattle.flat.proofs.Reading.{refused_told, left_told}
use Rattle.exports.proofs.listing.listed.Goals as goal

pub returns-in_err-settings_of : goal.returns-in_err-settings_of
returns-in_err-settings_of g c =
    let refused = c.in_err-settings_of.ensures in
    record {
      answer = refused_told flat_listed _ no_lists _ _ c.from_residual.ensures.1 refused.1 refused.0;
      coefficients = left_told _ _ refused.0;
      boundaries = left_told _ _ refused.0;
    }

pub returns : goal.returns
unfolding when_known
returns g c =
    let settings = c.in_ok-settings_of.ensures in
    record {
      answer = rw (settings.0, c.decompose_bsgs.ensures.answer, settings.1);
      coefficients = rw (settings.0, c.decompose_bsgs.ensures.coefficients, settings.1);
      boundaries = rw (settings.0, c.decompose_bsgs.ensures.boundaries, settings.1);
    }
