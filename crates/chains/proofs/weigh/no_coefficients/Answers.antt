-- `chains::weigh::no_coefficients` meets its contract. It is the array of zeros.
use mathlib.Core.Path.{refl}
use Rattle.chains.specs.ZeroChain.{no_coefficients}
use Rattle.chains.proofs.weigh.no_coefficients.Goals as goal

pub returns : goal.returns
unfolding no_coefficients
returns c = refl
