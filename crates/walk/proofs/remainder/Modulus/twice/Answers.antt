-- It is the product with 2, and 2 is 1 + 1 modulo m too.
use Rattle.std.proofs.Common.{◌∙◌}
use Rattle.walk.proofs.Modular.{twice}
use Rattle.walk.proofs.remainder.Modulus.twice.Goals as goal

pub returns : goal.returns
returns c = c.mul.ensures ∙ twice c.args.a c.args.self.valid
