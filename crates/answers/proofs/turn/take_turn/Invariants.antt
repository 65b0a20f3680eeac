use mathlib.Core.Path.{◌≡◌}
use Prim.Native.Nat.{◌-◌}
use lib.ListN.{length}
use Rattle.answers.proofs.TurnLaws.{SoFar}
use Rattle.answers.proofs.turn.take_turn.Given as goal

abbrev pub invariant-loop-at : goal.invariant-loop-at
invariant-loop-at l =
    record {
      done : SoFar l.block l.from l.initial.line l.held l.initial.out l.line l.out l.at l.kept l.text;
      coefficients_long : length l.coefficients ≡ length l.initial.coefficients;
      planned_long : length l.planned ≡ length l.initial.planned;
      bounds_long : length l.bounds ≡ length l.initial.bounds;
      steps_long : length l.steps ≡ length l.initial.steps;
      out_long : length l.out ≡ length l.initial.out;
    }

abbrev pub decreases-loop-at : goal.decreases-loop-at
decreases-loop-at l =
    length l.block - l.at
