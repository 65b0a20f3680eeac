-- `number::powers::bit_len` meets its contract: the width less the leading zeros is the one length that holds n.
use Rattle.number.proofs.Bits.{len_leading}
use Rattle.number.proofs.powers.bit_len.Goals as goal

pub returns : goal.returns
returns c = len_leading 64 c.args.n c.ranges.n.fits
