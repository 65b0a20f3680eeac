-- Below 2 an index is refused, and its parts are zeros.
use Rattle.std.proofs.Common.{refl}
use Rattle.number.proofs.SplitParts.{split_below}
use Rattle.walk.proofs.make.split_or_zeros.Goals as goal

pub returns-then-n-lt2 : goal.returns-then-n-lt2
returns-then-n-lt2 c = rw (split_below c.args.n c.if-n-lt2.true) (refl, refl, refl)
