use Rattle.sets.specs.inside.Marking.{TargetsUpto}
use Rattle.sets.proofs.marks.common_targets.Given as goal

abbrev pub invariant-loop-head : goal.invariant-loop-head
invariant-loop-head l = TargetsUpto l.heads l.head-index l.marks
