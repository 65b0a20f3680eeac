use Prim.Native.Nat.{◌≤◌}
use lib.ListN.{take}
use Rattle.number.specs.Limits.{plan_limit}
use Rattle.sets.specs.inside.Heads.{PowersTo}
use Rattle.sets.proofs.marks.greatest_power.Given as goal

abbrev pub invariant-loop-head : goal.invariant-loop-head
invariant-loop-head l = record { most : l.greatest ≤ plan_limit; upto : PowersTo l.greatest (take l.head-index l.heads) }
