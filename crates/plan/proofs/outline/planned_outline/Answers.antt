-- `plan::outline::planned_outline` meets its contract: of what is planned there is one coefficient more than its degree, which is within the limits
-- where degree and settings pass their tests.
use mathlib.Core.Path.{◌≡◌, ap₂, ap, ◌∙◌}
use Prim.Native.Nat.{ℕ, ◌+◌, ◌-◌}
use native.Mathlib.Omega.{arith}
use Rattle.counts.specs.declared.settings.Settings.{Settings}
use Rattle.number.specs.Limits.{plan_limit}
use Rattle.number.specs.inside.Between.{Between}
use Rattle.plan.specs.PlanSizes.{degree_to_plan}
use Rattle.plan.specs.inside.Outlines.{outline_for}
use Rattle.plan.proofs.PlanTests.{SettingsPass, settings_pass, degree_range, degree_planned}
use Rattle.plan.proofs.outline.planned_outline.Goals as goal
use Rattle.plan.proofs.outline.planned_outline.Goals.{After-planned_count-count, Start}

pass : (c : Start) → SettingsPass c.args.fold c.args.settings.parity c.args.degree
pass c = settings_pass c.args.fold c.args.settings.parity c.args.degree c.requires

-- the planned degree
degree_is : (c : After-planned_count-count) →
    c.planned_count-count.result - 1 ≡ degree_to_plan c.args.fold c.args.settings.parity c.args.degree
degree_is c =
    ap (λ (n : ℕ). n - 1) c.planned_count-count.ensures
    ∙ degree_planned c.args.fold c.args.settings.parity (c.args.degree + 1)
    ∙ ap (degree_to_plan c.args.fold c.args.settings.parity) (omega arith)

degrees : (c : After-planned_count-count) → Between 1 (c.planned_count-count.result - 1) plan_limit
degrees c =
    rw (degree_is c) (degree_range c.args.fold c.args.settings.parity c.args.degree (settings_pass c.args.fold c.args.settings.parity c.args.degree c.requires))

pub overflow_add-degree : goal.overflow_add-degree
overflow_add-degree c = omega (arith, (pass (goal.at.overflow_add-degree c).Start).degrees.to)

pub overflow_sub-count : goal.overflow_sub-count
overflow_sub-count c = omega (arith, (degrees (goal.at.overflow_sub-count c).After-planned_count-count).from)

pub outline_of-requires : goal.outline_of-requires
outline_of-requires c = degrees (goal.at.outline_of-requires c).After-planned_count-count

pub returns : goal.returns
returns c =
    c.outline_of.ensures
    ∙ ap₂ (λ (s : Settings) (d : ℕ). outline_for s.strategy s.parity s.basis d) c.planned_settings.ensures
    (degree_is (goal.at.returns c).After-planned_count-count)
