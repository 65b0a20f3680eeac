-- The buffers keep their lengths, and what is held stands for the bytes read so far, whose answers are written.
use mathlib.Core.Path.{◌≡◌}
use lib.ListN.{length, take}
use Rattle.answers.specs.TakeTurn.{TurnRoom}
use Rattle.planlines.specs.BlocksAnswered.{ReadAnswered}
use Rattle.planlines.proofs.input.answer_blocks.Given as goal

abbrev pub invariant-loop : goal.invariant-loop
invariant-loop g l =
    record {
      room : TurnRoom l.line l.held l.coefficients l.planned l.bounds l.steps l.out;
      told : ReadAnswered (g.R.Read.remaining l.initial.input) (g.R.Read.remaining l.input) (g.W.Write.contents l.initial.output)
          (g.W.Write.contents l.output) (take l.held l.line);
      block_long : length l.block ≡ length l.initial.block;
      line_long : length l.line ≡ length l.initial.line;
      coefficients_long : length l.coefficients ≡ length l.initial.coefficients;
      planned_long : length l.planned ≡ length l.initial.planned;
      bounds_long : length l.bounds ≡ length l.initial.bounds;
      steps_long : length l.steps ≡ length l.initial.steps;
      out_long : length l.out ≡ length l.initial.out;
    }
