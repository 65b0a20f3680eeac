-- None of the places counts.
use Rattle.std.proofs.Common.{refl}
use Rattle.walk.specs.inside.Waits.{last_first}
use Rattle.walk.proofs.waiting.Waiting.none.Goals as goal

pub returns : goal.returns
unfolding last_first
returns c = refl
