-- `rebuild::call::rebuild_lists` meets its contract. The room holds the lists, and they are rebuilt there.
use Rattle.rebuild.specs.inside.Rebuilding.{coefficients_at}
use Rattle.rebuild.proofs.call.rebuild_lists.Goals as goal

pub returns : goal.returns
unfolding coefficients_at
returns c = rw (c.take_lists.ensures.0, c.relists.ensures) at c.rebuild_part.ensures
