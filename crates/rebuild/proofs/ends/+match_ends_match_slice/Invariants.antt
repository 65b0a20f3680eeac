use Prim.Native.Nat.{◌+◌, ◌*◌}
use Rattle.rebuild.proofs.ends.+match_ends_match_slice.Given as goal

abbrev pub decreases-match_ends : goal.decreases-match_ends
decreases-match_ends l = 2 * (l.degree * 64 + l.split) + 1

abbrev pub decreases-match_slice : goal.decreases-match_slice
decreases-match_slice l = 2 * (l.degree * 64 + l.split)
