-- `plan::head::head_of` meets its contract: each number is that of the outline, with the costs of its lists and of the transform. The ranges of the
-- outline keep every sum small.
use mathlib.Core.Path.{ap, ap₂, sym, ◌∙◌}
use native.Mathlib.Omega.{arith}
use Rattle.algebra.specs.declared.PolynomialInputTransform.{PolynomialInputTransform}
use Rattle.counts.specs.declared.settings.Settings.{Settings}
use Rattle.counts.proofs.DepthLaws.{depth_bounds}
use Rattle.plan.specs.PlanHead.{head_of}
use Rattle.plan.specs.PlanCall.{planned_parity}
use Rattle.plan.specs.inside.Outlines.{outline_for}
use Rattle.plan.specs.declared.head.Costs.{Costs}
use Rattle.plan.proofs.HeadCounts.{OutlineRange, outline_range, cost_once, cost_most, head_is}
use Rattle.plan.proofs.head.head_of.Goals as goal
use Rattle.plan.proofs.head.head_of.Goals.{After-planned_transform-transform}

known : (c : After-planned_transform-transform) → OutlineRange c.args.outline
known c =
    outline_range c.args.settings.strategy (planned_parity c.args.fold c.args.settings.parity) c.args.settings.basis c.args.degree
    c.requires.0 c.requires.1

pub costs_of-costs-requires : goal.costs_of-costs-requires
costs_of-costs-requires c =
    let range = known (goal.at.costs_of-costs-requires c).After-planned_transform-transform in
    (omega (arith, range.nonempty), range.at_most)

pub power_of_two-base-requires : goal.power_of_two-base-requires
power_of_two-base-requires c = omega (arith, (known (goal.at.power_of_two-base-requires c).After-planned_transform-transform).split.to)

pub overflow_add-result : goal.overflow_add-result
overflow_add-result c =
    let range = known (goal.at.overflow_add-result c).After-planned_transform-transform in
    omega (arith, range.powers, range.at_most, ap (λ (k : Costs). k.threes) c.costs_of-costs.ensures)

pub overflow_add-result-2 : goal.overflow_add-result-2
overflow_add-result-2 c =
    let range = known (goal.at.overflow_add-result-2 c).After-planned_transform-transform in
    let transform = c.planned_transform-transform.result in
    omega (
      arith,
      cost_most transform,
      cost_once transform,
      c.transform_cost-cost.ensures,
      range.powers,
      range.at_most,
      ap (λ (k : Costs). k.threes) c.costs_of-costs.ensures,
    )

pub overflow_add-result-3 : goal.overflow_add-result-3
overflow_add-result-3 c =
    let degrees = c.requires.0 in
    let transform = c.planned_transform-transform.result in
    let deepest = depth_bounds c.planned_settings-planned.result.strategy c.args.degree (record { from = degrees.from; to = omega (arith, degrees.to) }) in
    omega (arith, cost_most transform, cost_once transform, c.transform_cost-cost.ensures, c.depth_from_one-depth.ensures, deepest.to)

pub returns : goal.returns
returns c =
    let planned = c.planned_settings-planned.result in
    head_is planned.strategy planned.parity planned.basis c.planned_transform-transform.result c.args.interval c.args.degree c.requires.0
    (c.requires.1
    ∙ ap (λ (s : Settings). outline_for s.strategy s.parity s.basis c.args.degree) (sym c.planned_settings-planned.ensures))
    c.costs_of-costs.ensures c.transform_cost-cost.ensures c.depth_from_one-depth.ensures c.power_of_two-base.ensures
    ∙ ap₂ (λ (s : Settings) (t : PolynomialInputTransform). head_of s.strategy s.parity s.basis t c.args.interval c.args.degree)
    c.planned_settings-planned.ensures c.planned_transform-transform.ensures
