-- `chains::weigh::closed_bits` meets its contract. It is the call's answer at the strategy that the letter says, and no bits after a refusal.
use Rattle.chains.proofs.NoChain.{bits_given}
use Rattle.chains.proofs.weigh.closed_bits.Goals as goal

pub returns : goal.returns
returns c =
    rw (c.unwrap_or.ensures, bits_given c.bsgs_consumed_bits.result, c.bsgs_consumed_bits.ensures, c.said_strategy.ensures)
