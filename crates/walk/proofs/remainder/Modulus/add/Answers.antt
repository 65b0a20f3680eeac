-- Reducing the summands first does not change the remainder of their sum.
use Rattle.std.proofs.Common.{sym}
use Rattle.std.proofs.Math.Nat.{add-mod}
use Rattle.walk.proofs.remainder.Modulus.add.Goals as goal

pub returns : goal.returns
returns c = sym (add-mod c.args.a c.args.b c.args.self.m)
