-- What the pair needs to know of the slices.
use Rattle.std.specs.Prelude.{List, ℕ, length}
use Rattle.algebra.specs.declared.Parity.{Parity}
use Rattle.counts.specs.Slices.{last_of}
use Rattle.counts.specs.PlainCount.{plain_count}
use Rattle.counts.specs.declared.slices.Tally.{Tally}

-- how many slices, their pt-ct multiplications, and the degree of the last
unfoldable pub tally_of : Parity → (slices : List ℕ) → Tally
tally_of parity slices = record { slices = length slices; pt = plain_count parity slices; last = last_of slices }
