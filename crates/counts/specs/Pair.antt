-- The pair (ct-ct, pt-ct) of a degree at a split (docs/RULES.md, "Choosing the split").
use Rattle.std.specs.Prelude.{Bool, cond, ◌&&◌, List, ℕ, ◌+◌, ◌-◌, leb, eqb, length}
use Rattle.algebra.specs.declared.Basis.{Basis}
use Rattle.algebra.specs.declared.Parity.{Parity}
use Rattle.number.specs.Bits.{is_power_of_two}
use Rattle.needed.specs.NeededList.{needed_count}
use Rattle.counts.specs.Slices.{slices_of, last_of}
use Rattle.counts.specs.PlainCount.{plain_count}
use Rattle.counts.specs.declared.pair.Pair.{Pair}

-- whether the estimate takes the last combine to be plain: there are two or more slices, the last has degree 0, and the degree is a power of two
unfoldable pub last_is_plain : (degree slices last : ℕ) → Bool
last_is_plain degree slices last = leb 2 slices && (eqb last 0 && is_power_of_two degree)

-- one multiplication moved from ct-ct to pt-ct
abbrev pub one_plain : Pair → Pair
one_plain pair = record { ct = pair.ct - 1; pt = pair.pt + 1 }

-- ct-ct: the slices less one, and the needed powers; pt-ct: that of the slices; one multiplication moved where the last combine is plain
unfoldable pub pair_of : Parity → (degree needed : ℕ) → (slices : List ℕ) → Pair
pair_of parity degree needed slices =
    let pair : Pair = record { ct = length slices - 1 + needed; pt = plain_count parity slices } in
    cond (last_is_plain degree (length slices) (last_of slices)) (one_plain pair) pair

-- the pair of a degree at a split
unfoldable pub pair_at : Parity → Basis → (degree split : ℕ) → Pair
pair_at parity basis degree split = pair_of parity degree (needed_count parity basis degree split) (slices_of degree split)
