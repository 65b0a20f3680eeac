-- Reducing the factors first does not change the remainder of their product.
use Rattle.std.proofs.Common.{sym}
use Rattle.std.proofs.lemmas.Nat.{mul-mod}
use Rattle.walk.proofs.remainder.Modulus.mul.Goals as goal

pub returns : goal.returns
returns c = sym (mul-mod c.args.a c.args.b c.args.self.m)
