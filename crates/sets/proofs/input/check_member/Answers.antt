-- `sets::input::check_member` meets its contract: the tests of a plan's input, and then that of the interval.
use mathlib.Core.Path.{sym, ◌∙◌}
use native.Mathlib.Omega.{arith}
use Rattle.std.proofs.lemmas.Result.{err_from_is_err_and}
use Rattle.number.proofs.Refused.{refused}
use Rattle.plan.proofs.PlanTests.{early_kept, early_passed, early_unordered}
use Rattle.sets.proofs.input.check_member.Goals as goal

pub returns-in_err-check_input : goal.returns-in_err-check_input
returns-in_err-check_input c =
    let member = c.args.member.now in
    let p = err_from_is_err_and c.from_residual.result c.from_residual.ensures.1 in
    rw (p.1, p.2) (c.in_err-check_input.ensures
    ∙ sym (early_kept member.fold member.parity c.args.c.now member.a member.b
    (omega (arith, refused c.in_err-check_input.field-0.0, c.in_err-check_input.ensures))))

pub returns-then-not-member : goal.returns-then-not-member
returns-then-not-member c =
    let member = c.args.member.now in
    sym (early_unordered member.fold member.parity c.args.c.now member.a member.b (sym c.in_ok-check_input.ensures) c.if-not-member.true)

pub returns : goal.returns
returns c =
    let member = c.args.member.now in
    sym (early_passed member.fold member.parity c.args.c.now member.a member.b (sym c.in_ok-check_input.ensures) c.if-not-member.false)
