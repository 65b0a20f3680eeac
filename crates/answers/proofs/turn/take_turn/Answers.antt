-- `answers::turn::take_turn` meets its contract. The loop's invariant: what is put and what is held stand for the part of the block that is taken. Each
-- turn takes a piece, so the rest gets shorter, and the text of one piece more fits, since there is room for the longest.
use mathlib.Core.Path.{refl, ◌∙◌}
use native.Mathlib.Omega.{arith}
use Rattle.answers.proofs.TurnLaws.{so_far_start, so_far_more, so_far_end}
use Rattle.answers.proofs.turn.take_turn.Goals as goal

pub loop-at-init : goal.loop-at-init
loop-at-init c =
    let pre = c.requires in
    record {
      done = so_far_start pre.from_in_bounds pre.turn_room.line_size pre.turn_room.held_within;
      coefficients_long = refl;
      planned_long = refl;
      bounds_long = refl;
      steps_long = refl;
      out_long = refl;
    }

pub loop-at-preserved : goal.loop-at-preserved
loop-at-preserved c =
    let inv = c.loop-at.invariant in
    record {
      done =
          so_far_more inv.done c.loop-at-test.true (omega (arith, c.if-most-text.false, c.requires.turn_room.text_size)) c.take_piece-piece.ensures
          c.take_piece-piece.auto.line c.put_piece-text.ensures c.held_after-kept.ensures;
      coefficients_long = c.put_piece-text.auto.coefficients ∙ inv.coefficients_long;
      planned_long = c.put_piece-text.auto.planned ∙ inv.planned_long;
      bounds_long = c.put_piece-text.auto.bounds ∙ inv.bounds_long;
      steps_long = c.put_piece-text.auto.steps ∙ inv.steps_long;
      out_long = c.put_piece-text.auto.out ∙ inv.out_long;
    }

pub returns-then-most-text : goal.returns-then-most-text
returns-then-most-text c =
    so_far_end c.loop-at.invariant.done c.requires.turn_room.line_size (omega (arith, c.requires.turn_room.text_size))
    (λ more. omega (arith, c.if-most-text.true, c.requires.turn_room.text_size))
