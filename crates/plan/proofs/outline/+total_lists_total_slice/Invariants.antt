use Prim.Native.Nat.{◌+◌, ◌*◌}
use Rattle.plan.proofs.outline.+total_lists_total_slice.Given as goal

abbrev pub decreases-total_lists : goal.decreases-total_lists
decreases-total_lists l = 2 * (l.degree * 64 + l.split) + 1

abbrev pub decreases-total_slice : goal.decreases-total_slice
decreases-total_slice l = 2 * (l.degree * 64 + l.split)
