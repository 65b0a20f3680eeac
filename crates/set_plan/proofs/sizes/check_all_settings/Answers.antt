-- `set_plan::sizes::check_all_settings` meets its contract. The invariant: the refusal of the members from a place on is that of all.
use mathlib.Core.Path.{sym, ◌∙◌}
use native.Mathlib.Omega.{arith}
use Rattle.std.proofs.lemmas.Result.{err_from_is_err_and}
use Rattle.number.proofs.Refused.{refused}
use Rattle.set_plan.proofs.SizesLaws.{refused_here, passed_here, settings_end}
use Rattle.set_plan.proofs.sizes.check_all_settings.Goals as goal

pub returns-in_err-check_settings : goal.returns-in_err-check_settings
returns-in_err-check_settings c =
    let p = err_from_is_err_and c.from_residual.result c.from_residual.ensures.1 in
    rw (p.1, p.2) (refused_here c.args.members.now c.loop-member.member-index c.loop-member-test.true c.degree_of.ensures
    c.in_err-check_settings.ensures (refused c.in_err-check_settings.field-0.0) ∙ sym c.loop-member.invariant)

pub loop-member-preserved : goal.loop-member-preserved
loop-member-preserved c =
    c.loop-member.invariant
    ∙ passed_here c.args.members.now c.loop-member.member-index c.loop-member-test.true c.degree_of.ensures c.in_ok-check_settings.ensures
    (omega arith)

pub returns : goal.returns
returns c = sym (c.loop-member.invariant ∙ settings_end c.args.members.now c.loop-member.member-index c.loop-member-test.false)
