use Prim.Native.Nat.{◌+◌, ◌*◌}
use lib.ListN.{length}
use Rattle.lists.proofs.list.+list_coeffs_list_slice.Given as goal

abbrev pub decreases-list_coeffs : goal.decreases-list_coeffs
decreases-list_coeffs g l = 2 * (length l.c.now * 64 + l.split) + 1

abbrev pub decreases-list_slice : goal.decreases-list_slice
decreases-list_slice g l = 2 * (length l.c.now * 64 + l.split)
