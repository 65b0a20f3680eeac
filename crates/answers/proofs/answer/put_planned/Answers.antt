-- `answers::answer::put_planned` meets its contract. The buffers are long enough for every plan, and the literals are the bounds of the interval of lines,
-- which are in order; so the plan call refuses only its polynomial, and the line of that refusal is put. Otherwise the buffers hold the plan, and the
-- text of what they hold is the plan's.
use Rattle.std.proofs.Common.{ap, ◌∙◌, arith}
use lib.Ieee.{of_bits}
use Rattle.number.proofs.Refused.{refused}
use Rattle.texts.specs.Text.{refusal_line}
use Rattle.texts.proofs.PutLaws.{put_same}
use Rattle.answers.proofs.AnswerLaws.{refused_text, planned_text, planned_ends}
use Rattle.answers.proofs.answer.put_planned.Goals as goal

pub returns-in-Err : goal.returns-in-Err
unfolding of_bits
returns-in-Err c =
    put_same c.put_refusal.ensures
    (ap refusal_line c.from.ensures ∙ refused_text _ _ _ _ _ c.requires c.in-Err.ensures (refused c.in-Err.refusal))

pub put_plan-requires : goal.put_plan-requires
unfolding of_bits
put_plan-requires c = planned_ends _ _ _ _ _ c.requires c.in-Ok.ensures (omega arith)

pub returns-in-Ok : goal.returns-in-Ok
unfolding of_bits
returns-in-Ok c = put_same c.put_plan.ensures (planned_text _ _ _ _ _ c.requires c.in-Ok.ensures (omega arith))
