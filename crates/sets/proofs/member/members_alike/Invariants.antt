use mathlib.Core.Path.{◌≡◌}
use lib.ListN.{drop}
use Rattle.sets.specs.Members.{alike_to}
use Rattle.sets.proofs.member.members_alike.Given as goal

abbrev pub invariant-loop-member : goal.invariant-loop-member
invariant-loop-member l = alike_to l.first l.others ≡ alike_to l.first (drop l.member-index l.others)
