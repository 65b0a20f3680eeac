-- With known kinds of all members the answer is the call's own answer for the members that are meant, with its heads in numbers and the call's own buffers,
-- and else refusal 43 with the buffers unchanged.
use Rattle.flat.specs.Unknown.{when_known}
use Rattle.flat.proofs.NoSet.{refused_set_told}
use Rattle.flat.proofs.Reading.{left_told}
use Rattle.exports.proofs.curve_sets.planned_set.Goals as goal

pub returns-in_err-try_from : goal.returns-in_err-try_from
returns-in_err-try_from c =
    let refused = c.in_err-try_from.ensures in
    record {
      answer = refused_set_told _ _ c.from_residual.ensures.1 refused.1 refused.0;
      coefficients = left_told _ _ refused.0;
      boundaries = left_told _ _ refused.0;
      numbers = left_told _ _ refused.0;
    }

pub returns : goal.returns
unfolding when_known
returns c =
    let read = c.in_ok-try_from.ensures in
    record {
      answer = rw (read.0, c.plan_set.ensures.answer, read.1);
      coefficients = rw (read.0, c.plan_set.ensures.coefficients, read.1);
      boundaries = rw (read.0, c.plan_set.ensures.boundaries, read.1);
      numbers = rw (read.0, c.plan_set.ensures.numbers, read.1);
    }
