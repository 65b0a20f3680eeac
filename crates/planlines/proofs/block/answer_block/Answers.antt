-- Before the first turn nothing is taken of the block; a turn that takes a part holds and writes what stands for one part more.
use mathlib.Core.Path.{refl, ◌∙◌}
use Prim.Native.Nat.{◌≤◌}
use native.Mathlib.Omega.{arith}
use lib.ListN.{take}
use Rattle.planlines.proofs.BlockLaws.{held_start, held_more, put_front}
use Rattle.planlines.proofs.ToldLaws.{part_none, turn_told}
use Rattle.planlines.proofs.block.answer_block.Goals as goal

pub loop-written-init : goal.loop-written-init
loop-written-init g c =
    let a = c.args in
    record {
      within = omega arith;
      line_held = held_start a.block.now a.line.now a.held c.requires.line_size;
      told = λ _. part_none _ (take a.held a.line.now) a.block.now;
      kept_within = c.requires.held_within;
      line_long = refl;
      coefficients_long = refl;
      planned_long = refl;
      bounds_long = refl;
      steps_long = refl;
      out_long = refl;
    }

pub loop-written-preserved : goal.loop-written-preserved
loop-written-preserved g c =
    let block = c.args.block.now in
    let first = take c.args.held c.args.line.now in
    let at = c.loop-written.at in
    let inv = c.loop-written.invariant in
    let turn = c.take_turn-turn in
    let reaches : at ≤ turn.result.read = omega (arith, turn.ensures.onward c.if-at-block.true) in
    let before = g.W.Write.contents c.args.output.now in
    let between = g.W.Write.contents c.loop-written.output in
    let after = g.W.Write.contents c.write_text-written.new.output in
    let held = take c.loop-written.kept c.loop-written.line in
    let text_is = put_front turn.ensures.text turn.ensures.text_within in
    record {
      within = turn.ensures.within;
      line_held = held_more _ _ _ _ at c.loop-written.kept turn.result inv.line_held reaches turn.ensures.line_held;
      told = λ written.
          turn_told before between after first held block at turn.result reaches (inv.told c.loop-written-test.true) inv.line_held
          (take turn.result.text turn.new.out) text_is (c.write_text-written.ensures written);
      kept_within = omega (arith, turn.ensures.held_within, turn.auto.line);
      line_long = turn.auto.line ∙ inv.line_long;
      coefficients_long = turn.auto.coefficients ∙ inv.coefficients_long;
      planned_long = turn.auto.planned ∙ inv.planned_long;
      bounds_long = turn.auto.bounds ∙ inv.bounds_long;
      steps_long = turn.auto.steps ∙ inv.steps_long;
      out_long = turn.auto.out ∙ inv.out_long;
    }
