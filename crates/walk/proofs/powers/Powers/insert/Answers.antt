-- The place is within the array, and the store leaves the others.
use Rattle.std.proofs.Common.{arith}
use Rattle.walk.proofs.PowerLaws.{powers_set}
use Rattle.walk.proofs.powers.Powers.insert.Goals as goal

pub returns : goal.returns
returns c = let powers = c.args.self.now in powers_set powers.values powers.made c.args.n c.args.v (omega arith) (omega arith)
