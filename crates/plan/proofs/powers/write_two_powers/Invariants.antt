use mathlib.Core.Path.{◌≡◌}
use lib.ListN.{length}
use Rattle.plan.proofs.TwoPowerSteps.{Left}
use Rattle.plan.proofs.powers.write_two_powers.Given as goal

abbrev pub invariant-loop-k : goal.invariant-loop-k
invariant-loop-k l = record {
  same : length l.steps
      ≡ length l.initial.steps;
  left : Left l.split l.digits l.step l.initial.steps l.k l.next l.steps;
}
