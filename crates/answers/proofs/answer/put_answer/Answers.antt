-- `answers::answer::put_answer` meets its contract. A line without the form gets the line of refusal 12. Of any other the settings and the coefficients
-- are planned: all of them, or, where the line has more than are kept, enough to be too many.
use Rattle.std.proofs.Common.{ap, ◌∙◌, arith}
use Rattle.number.proofs.Refused.{refused}
use Rattle.texts.specs.Text.{refusal_line}
use Rattle.texts.proofs.PutLaws.{put_same}
use Rattle.answers.specs.inside.TextFor.{text_for}
use Rattle.answers.proofs.AnswerLaws.{line_refused, line_said}
use Rattle.answers.proofs.answer.put_answer.Goals as goal

pub returns-in-Err : goal.returns-in-Err
returns-in-Err c =
    put_same c.put_refusal.ensures
    (ap refusal_line c.from.ensures ∙ line_refused c.requires.coefficients_long c.in-Err.ensures (refused c.in-Err.refusal))

pub returns-in-Ok : goal.returns-in-Ok
returns-in-Ok c =
    put_same c.put_planned.ensures
    (ap (text_for _ _ _ _) c.part_between-c.ensures ∙ line_said c.requires.coefficients_long c.in-Ok.ensures (omega arith))
