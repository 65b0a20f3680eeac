-- `chains::weigh::no_steps` meets its contract. It is the array of zeros.
use mathlib.Core.Path.{refl}
use Rattle.chains.specs.ZeroChain.{no_steps}
use Rattle.chains.proofs.weigh.no_steps.Goals as goal

pub returns : goal.returns
unfolding no_steps
returns c = refl
