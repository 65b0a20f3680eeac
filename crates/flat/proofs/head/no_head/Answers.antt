-- Zeros in every field, where 0.0 is +0.
use Rattle.number.proofs.Literals.{zero_is}
use Rattle.flat.proofs.head.no_head.Goals as goal

pub returns : goal.returns
returns c = rw zero_is
