-- `answers::turn::put_end` meets its contract: with no byte held there is no line and no text, and otherwise the bytes held are a line, which is answered.
use mathlib.Core.Path.{ap, sym, ◌∙◌}
use Prim.Native.Nat.{ℕ}
use native.Mathlib.Omega.{arith}
use lib.ListN.{take}
use lib.Seq.{length-take-le}
use Rattle.texts.proofs.PutLaws.{put_none, put_same}
use Rattle.answers.specs.Turns.{end_text}
use Rattle.answers.proofs.TurnLaws.{end_none, end_some}
use Rattle.answers.proofs.turn.put_end.Goals as goal

pub returns-then-held-eq0 : goal.returns-then-held-eq0
returns-then-held-eq0 c =
    let a = c.args in
    put_same (put_none a.out.now 0) (sym end_none ∙ ap (λ (n : ℕ). end_text (take n a.line.now)) (sym c.if-held-eq0.true))

pub returns : goal.returns
returns c =
    let a = c.args in
    put_same c.put_answer.ensures
    (sym (end_some (take a.held a.line.now) (omega (arith, length-take-le a.held a.line.now c.requires.held_in_bounds, c.if-held-eq0.false))))
