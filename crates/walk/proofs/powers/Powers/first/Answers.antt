-- The two stores put powers 0 and 1 into places that are empty.
use Rattle.std.proofs.Common.{arith}
use Rattle.walk.proofs.PowerLaws.{powers_first}
use Rattle.walk.proofs.powers.Powers.first.Goals as goal

pub returns : goal.returns
returns g c = rw c.one.ensures (powers_first (g.A.Arithmetic.rules c.args.arithmetic) 4096 c.args.y (omega arith))
