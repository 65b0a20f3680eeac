-- What the step does is decoded as in the definition, and then done as the definition does it.
use Rattle.std.proofs.Common.{◌∙◌}
use Rattle.walk.specs.Boundaries.{list_at}
use Rattle.walk.specs.inside.Powers.{powers_of, state_of}
use Rattle.walk.proofs.StepLaws.{beside_stack, not_done, is_done}
use Rattle.walk.proofs.steps.take_step.Goals as goal

pub returns-in_err-instruction : goal.returns-in_err-instruction
returns-in_err-instruction g c =
    let a = c.args in
    let lists = list_at a.lists.now.coefficients.now a.lists.now.bounds.now in
    rw c.from_residual.ensures
    (not_done (g.A.Arithmetic.rules a.arithmetic) a.parity a.basis lists (state_of a.powers.now a.waiting.list) a.step c.in_err-instruction.ensures)

pub returns-in_err-make_power-in-Make : goal.returns-in_err-make_power-in-Make
returns-in_err-make_power-in-Make g c =
    let a = c.args in
    let lists = list_at a.lists.now.coefficients.now a.lists.now.bounds.now in
    let does = c.in_ok-instruction.ensures in
    let done = is_done (g.A.Arithmetic.rules a.arithmetic) a.parity a.basis lists (state_of a.powers.now a.waiting.list) a.step _
    (rw c.in-Make.is at does) in
    rw c.from_residual-in_err-make_power-in-Make.ensures (rw (← c.in_err-make_power-in-Make.ensures) at done)

pub returns-in_ok-make_power-in-Make : goal.returns-in_ok-make_power-in-Make
returns-in_ok-make_power-in-Make g c =
    let a = c.args in
    let lists = list_at a.lists.now.coefficients.now a.lists.now.bounds.now in
    let does = c.in_ok-instruction.ensures in
    let done = is_done (g.A.Arithmetic.rules a.arithmetic) a.parity a.basis lists (state_of a.powers.now a.waiting.list) a.step _
    (rw c.in-Make.is at does) in
    rw (← c.in_ok-make_power-in-Make.ensures) at done

pub returns-in-Load : goal.returns-in-Load
returns-in-Load g c =
    let a = c.args in
    let lists = list_at a.lists.now.coefficients.now a.lists.now.bounds.now in
    let does = c.in_ok-instruction.ensures in
    let done = is_done (g.A.Arithmetic.rules a.arithmetic) a.parity a.basis lists (state_of a.powers.now a.waiting.list) a.step _
    (rw c.in-Load.is at does) in
    beside_stack (powers_of a.powers.now) _ _ c.load.ensures ∙ done

pub returns-in-Combine : goal.returns-in-Combine
returns-in-Combine g c =
    let a = c.args in
    let lists = list_at a.lists.now.coefficients.now a.lists.now.bounds.now in
    let does = c.in_ok-instruction.ensures in
    let done = is_done (g.A.Arithmetic.rules a.arithmetic) a.parity a.basis lists (state_of a.powers.now a.waiting.list) a.step _
    (rw c.in-Combine.is at does) in
    beside_stack (powers_of a.powers.now) _ _ c.combine.ensures ∙ done
