-- What `put_last` puts is within its buffer, which kept its length, and so did that of the line.
use mathlib.Core.Path.{◌∙◌}
use native.Mathlib.Omega.{arith}
use Rattle.planlines.proofs.LastLaws.{last_put}
use Rattle.planlines.proofs.input.answer_input.Goals as goal

pub returns-clause-last : goal.returns-clause-last
returns-clause-last g c =
    let stopped = c.answer_blocks-stopped in
    let long = c.put_last-text.auto.out ∙ stopped.auto.out ∙ c.requires.text_size in
    let left = last_put stopped.result.last _ c.put_last-text.ensures long in
    record { held_within = omega (arith, stopped.ensures.held, stopped.auto.line); text = left.0; within = left.1 }
