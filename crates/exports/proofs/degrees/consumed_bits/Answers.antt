-- With a known strategy it is the call's own answer for it, and else refusal 43.
use mathlib.Core.Path.{refl}
use Rattle.counts.specs.Calls.{no_bits}
use Rattle.flat.specs.Unknown.{when_known}
use Rattle.flat.specs.Flat.{flat_bits}
use Rattle.flat.proofs.Reading.{strategy_read, no_strategy, refused_told}
use Rattle.exports.proofs.degrees.consumed_bits.Goals as goal

pub returns-in_err-try_from : goal.returns-in_err-try_from
returns-in_err-try_from c = refused_told flat_bits _ no_bits _ _ c.from_residual.ensures.1 refl (no_strategy c.in_err-try_from.ensures.1)

pub returns : goal.returns
unfolding when_known
returns c =
    let strategy = strategy_read _ c.in_ok-try_from.ensures in
    rw (strategy.0, c.bsgs_consumed_bits.ensures, strategy.1)
