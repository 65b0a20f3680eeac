-- `chains::letters::letters_at` meets its contract. Each letter is read from its row at the place that the definition reads.
use mathlib.Core.Path.{refl}
use Rattle.chains.specs.Letters.{letters_at}
use Rattle.chains.proofs.letters.letters_at.Goals as goal

pub returns : goal.returns
unfolding letters_at
returns c = refl
