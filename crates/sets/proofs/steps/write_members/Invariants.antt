use mathlib.Core.Path.{◌≡◌}
use lib.ListN.{length}
use Rattle.sets.specs.inside.Writing.{MembersPut}
use Rattle.sets.proofs.steps.write_members.Given as goal

abbrev pub invariant-loop-head : goal.invariant-loop-head
invariant-loop-head l = record {
  same : length l.steps
      ≡ length l.initial.steps;
  upto : MembersPut l.heads l.head-index l.step l.initial.steps l.next l.steps;
}
