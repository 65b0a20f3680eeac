use mathlib.Core.Path.{◌≡◌}
use lib.ListN.{length}
use Rattle.plan.proofs.PowerSteps.{Upto}
use Rattle.plan.proofs.powers.write_marks.Given as goal

abbrev pub invariant-loop-n : goal.invariant-loop-n
invariant-loop-n l = record {
  same : length l.steps
      ≡ length l.initial.steps;
  upto : Upto l.marks l.n l.step l.initial.steps l.steps;
}
