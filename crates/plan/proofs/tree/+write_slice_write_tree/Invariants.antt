use Prim.Native.Nat.{◌+◌, ◌*◌}
use Rattle.plan.proofs.tree.+write_slice_write_tree.Given as goal

abbrev pub decreases-write_slice : goal.decreases-write_slice
decreases-write_slice l = 2 * (l.degree * 64 + l.split)

abbrev pub decreases-write_tree : goal.decreases-write_tree
decreases-write_tree l = 2 * (l.degree * 64 + l.split) + 1
