-- `chains::weigh::no_bounds` meets its contract. It is the array of zeros.
use mathlib.Core.Path.{refl}
use Rattle.chains.specs.ZeroChain.{no_bounds}
use Rattle.chains.proofs.weigh.no_bounds.Goals as goal

pub returns : goal.returns
unfolding no_bounds
returns c = refl
