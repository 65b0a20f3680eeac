-- What is held stands for the bytes of the block taken so far, and so do the texts, where all of them were written. Each turn takes some bytes, so the
-- rest gets shorter.
use mathlib.Core.Path.{◌≡◌}
use mathlib.Core.Bool.{true}
use Prim.Native.Nat.{◌-◌, ◌≤◌}
use lib.ListN.{length, take}
use Rattle.std.specs.Io.KnownBytes.{Appends}
use Rattle.answers.specs.Turns.{turn_text, turn_held}
use Rattle.planlines.proofs.block.answer_block.Given as goal

abbrev pub invariant-loop-written : goal.invariant-loop-written
invariant-loop-written g l =
    record {
      within : l.at ≤ length l.block;
      line_held : take l.kept l.line ≡ turn_held (take l.held l.initial.line) (take l.at l.block);
      told : l.written ≡ true → Appends (g.W.Write.contents l.initial.output) (g.W.Write.contents l.output)
          (turn_text (take l.held l.initial.line) (take l.at l.block));
      kept_within : l.kept ≤ length l.line;
      line_long : length l.line ≡ length l.initial.line;
      coefficients_long : length l.coefficients ≡ length l.initial.coefficients;
      planned_long : length l.planned ≡ length l.initial.planned;
      bounds_long : length l.bounds ≡ length l.initial.bounds;
      steps_long : length l.steps ≡ length l.initial.steps;
      out_long : length l.out ≡ length l.initial.out;
    }

abbrev pub decreases-loop-written : goal.decreases-loop-written
decreases-loop-written g l =
    length l.block - l.at
