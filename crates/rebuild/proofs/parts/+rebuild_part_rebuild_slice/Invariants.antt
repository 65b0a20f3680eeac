use Prim.Native.Nat.{◌+◌, ◌*◌}
use lib.ListN.{length}
use Rattle.rebuild.proofs.parts.+rebuild_part_rebuild_slice.Given as goal

abbrev pub decreases-rebuild_part : goal.decreases-rebuild_part
decreases-rebuild_part l = 2 * (length l.c.now * 64 + l.split) + 1

abbrev pub decreases-rebuild_slice : goal.decreases-rebuild_slice
decreases-rebuild_slice l = 2 * (length l.c.now * 64 + l.split)
