-- `plan::sizes::plan_sizes` meets its contract: it makes the tests of degree and settings, and past them the sizes are those of the outline of what is
-- planned.
use mathlib.Core.Path.{sym, ap, ◌∙◌}
use native.Mathlib.Omega.{arith}
use Rattle.std.specs.Prelude.{Ok}
use Rattle.std.proofs.lemmas.Result.{err_from_is_err_and}
use Rattle.number.proofs.FirstRefusal.{when_refused, when_accepted}
use Rattle.number.proofs.Refused.{refused}
use Rattle.plan.specs.PlanSizes.{no_sizes, sizes_refusal, sizes_of, sizes_call, PlanSizes, plan_sizes_in}
use Rattle.plan.specs.declared.outline.Outline.{Outline}
use Rattle.plan.specs.declared.sizes.Sizes.{Sizes}
use Rattle.plan.proofs.sizes.plan_sizes.Goals as goal

-- the sizes of an outline
abbrev of_outline : Outline → PlanSizes
of_outline o = record { refusal = 0; coefficients = o.coefficients; lists = o.lists; steps = o.steps }

pub returns-in_err-check_settings : goal.returns-in_err-check_settings
unfolding sizes_call
returns-in_err-check_settings c =
    let p = err_from_is_err_and c.from_residual.result c.from_residual.ensures.1 in
    rw (p.1, p.2) (ap no_sizes c.in_err-check_settings.ensures
    ∙ when_refused (sizes_refusal c.args.fold c.args.settings.parity c.args.degree) _ _
    (omega (arith, refused c.in_err-check_settings.field-0.0, c.in_err-check_settings.ensures)))

pub planned_outline-requires : goal.planned_outline-requires
planned_outline-requires c = sym c.in_ok-check_settings.ensures

pub returns : goal.returns
unfolding sizes_call sizes_of
returns c =
    ap (λ (s : Sizes). plan_sizes_in (Ok s)) c.sizes.ensures
    ∙ ap of_outline c.planned_outline.ensures ∙ when_accepted _ _ (sym c.in_ok-check_settings.ensures)
