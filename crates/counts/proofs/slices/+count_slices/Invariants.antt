use Rattle.number.specs.Bits.{bit_len}
use Rattle.counts.proofs.slices.+count_slices.Given as goal

abbrev pub decreases-count_slices : goal.decreases-count_slices
decreases-count_slices l = bit_len l.degree
