-- `sets::input::member_head` meets its contract: the head of the plan by its outline, with the power steps taken off its steps.
use mathlib.Core.Path.{◌≡◌, ◌∙◌, ap}
use Prim.Native.Nat.{ℕ}
use native.Mathlib.Omega.{arith}
use Rattle.number.specs.Refusal.{first_refusal}
use Rattle.plan.specs.PlanCall.{planned_parity, settings_tests}
use Rattle.plan.specs.PlanSizes.{degree_to_plan}
use Rattle.plan.specs.inside.Outlines.{outline_for}
use Rattle.sets.proofs.InputLaws.{count_is, head_asked, powers_within, head_put}
use Rattle.sets.proofs.input.member_head.Goals as goal
use Rattle.sets.proofs.input.member_head.Goals.{After-planned_outline-outline}

-- the outline is that of the member's settings
told : (c : After-planned_outline-outline) → let member = c.args.member.now in
    c.planned_outline-outline.result ≡ outline_for member.strategy (planned_parity member.fold member.parity) member.basis
    (degree_to_plan member.fold member.parity c.degree_of.result)
told c = rw c.settings-settings.ensures at c.planned_outline-outline.ensures

pub planned_outline-outline-requires : goal.planned_outline-outline-requires
planned_outline-outline-requires c =
    let member = c.args.member.now in
    rw c.settings-settings.ensures
    (ap (λ (n : ℕ). first_refusal (settings_tests member.fold member.parity n)) c.degree_of.ensures ∙ c.requires)

pub overflow_sub-degree : goal.overflow_sub-degree
overflow_sub-degree c =
    omega (arith, count_is c.args.member.now c.requires c.degree_of.ensures (told (goal.at.overflow_sub-degree c).After-planned_outline-outline))

pub head_of-head-requires : goal.head_of-head-requires
head_of-head-requires c =
    rw c.settings-settings.ensures
    (head_asked c.args.member.now c.requires c.degree_of.ensures (told (goal.at.head_of-head-requires c).After-planned_outline-outline))

pub overflow_sub-result : goal.overflow_sub-result
overflow_sub-result c =
    powers_within c.args.member.now c.requires c.degree_of.ensures (told (goal.at.overflow_sub-result c).After-planned_outline-outline)

pub returns : goal.returns
returns c =
    head_put c.args.member.now c.requires c.degree_of.ensures (told (goal.at.returns c).After-planned_outline-outline)
    c.change_of_basis-interval.ensures (rw c.settings-settings.ensures at c.head_of-head.ensures)
