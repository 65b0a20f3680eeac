use Prim.Native.Nat.{◌+◌, ◌*◌}
use Rattle.lists.proofs.count.+count_lists_count_slice.Given as goal

abbrev pub decreases-count_lists : goal.decreases-count_lists
decreases-count_lists l = 2 * (l.degree * 64 + l.split) + 1

abbrev pub decreases-count_slice : goal.decreases-count_slice
decreases-count_slice l = 2 * (l.degree * 64 + l.split)
