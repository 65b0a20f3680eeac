use mathlib.Core.Path.{◌≡◌}
use lib.Dec.{ltb}
use lib.ListN.{drop}
use Rattle.sets.specs.Members.{handed_count}
use Rattle.sets.proofs.member.lengths_fit.Given as goal

abbrev pub invariant-loop-member : goal.invariant-loop-member
invariant-loop-member l = ltb l.slice (handed_count l.members) ≡ ltb l.left (handed_count (drop l.member-index l.members))
