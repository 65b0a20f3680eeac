-- Before the first read nothing is read or told; a block that is read and answered is one part more.
use mathlib.Core.Bool.{Bool, true, false, not, true≢false}
use mathlib.Core.Path.{◌≡◌, refl, ◌∙◌}
use native.Mathlib.Omega.{arith}
use lib.ListN.{take}
use Rattle.planlines.proofs.ToldLaws.{told_none, told_more}
use Rattle.planlines.proofs.input.answer_blocks.Goals as goal

not-false : (b : Bool) → not b ≡ false → b ≡ true
not-false true is = refl
not-false false is = absurd (true≢false is)

pub loop-init : goal.loop-init
loop-init g c = record {
  room = c.requires;
  told = told_none _ _ c.args.line.now;
  block_long = refl;
  line_long = refl;
  coefficients_long = refl;
  planned_long = refl;
  bounds_long = refl;
  steps_long = refl;
  out_long = refl;
}

pub loop-preserved : goal.loop-preserved
loop-preserved g c =
    let inv = c.loop.invariant in
    let room = inv.room in
    let answered = c.answer_block-answered in
    let kept = answered.auto in
    let written = not-false _ c.if-not-answered.false in
    record {
      room = record {
        line_size = kept.line ∙ room.line_size;
        held_within = omega (arith, answered.ensures.held.within, kept.line);
        coefficients_long = omega (arith, kept.coefficients, room.coefficients_long);
        planned_long = omega (arith, kept.planned, room.planned_long);
        bounds_long = omega (arith, kept.bounds, room.bounds_long);
        steps_long = omega (arith, kept.steps, room.steps_long);
        text_size = kept.out ∙ room.text_size;
      };
      told = told_more inv.told (take c.in-Bytes.count c.read_block-read.new.block) c.in-Bytes.ensures.from (answered.ensures.written written)
          (answered.ensures.held.line_held written);
      block_long = c.read_block-read.auto.block ∙ inv.block_long;
      line_long = kept.line ∙ inv.line_long;
      coefficients_long = kept.coefficients ∙ inv.coefficients_long;
      planned_long = kept.planned ∙ inv.planned_long;
      bounds_long = kept.bounds ∙ inv.bounds_long;
      steps_long = kept.steps ∙ inv.steps_long;
      out_long = kept.out ∙ inv.out_long;
    }
