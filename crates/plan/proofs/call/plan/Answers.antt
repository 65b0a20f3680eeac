-- `plan::call::plan` meets its contract. Each test is one of the definition, in its order; past them the head is that of the planned degree on its
-- interval, and the buffers hold what the writer leaves.
use mathlib.Core.Path.{◌≡◌, refl, sym, ◌∙◌, ap}
use Prim.Native.Nat.{◌-◌}
use native.Mathlib.Omega.{arith}
use Rattle.std.specs.Prelude.{Ok}
use Rattle.std.proofs.lemmas.Result.{err_from_is_err_and}
use Rattle.number.proofs.Refused.{refused}
use Rattle.plan.specs.PlanCall.{planned_parity, planned_transform}
use Rattle.plan.specs.PlanSizes.{sizes_in, plan_sizes_in}
use Rattle.plan.specs.declared.sizes.Sizes.{Sizes}
use Rattle.plan.proofs.HeadCounts.{outline_sizes, head_sizes}
use Rattle.plan.proofs.PlanTests.{settings_accepted}
use Rattle.plan.proofs.CallAnswers.{OutlinePlanned, outline_planned, refused_input, refused_interval, refused_buffers, plan_fits, planned_call}
use Rattle.plan.proofs.call.plan.Goals as goal
use Rattle.plan.proofs.call.plan.Goals.{After-planned_outline-outline, After-sizes}

-- the outline is that of what is planned
outlined : (c : After-planned_outline-outline) → let s = c.args.settings in
    OutlinePlanned s.strategy s.parity s.basis c.args.fold c.args.c.now c.planned_outline-outline.result
outlined c =
    let s = c.args.settings in
    outline_planned s.strategy s.parity s.basis c.args.fold c.args.c.now
    (sym c.in_ok-check_input.ensures) c.degree_of.ensures c.planned_outline-outline.ensures

-- and its sizes are those of the head
sized : (c : After-sizes) → plan_sizes_in (Ok c.sizes.result) ≡ sizes_in c.head_of-head.result
sized c =
    let s = c.args.settings in
    let parity = planned_parity c.args.fold s.parity in
    let transform = planned_transform c.args.fold s.parity s.basis in
    let degree = c.planned_outline-outline.result.coefficients - 1 in
    let told = outlined (goal.at.After-sizes c).After-planned_outline-outline in
    ap (λ (z : Sizes). plan_sizes_in (Ok z)) c.sizes.ensures
    ∙ outline_sizes s.strategy parity s.basis degree told.outline_is
    ∙ sym (ap sizes_in c.head_of-head.ensures ∙ head_sizes s.strategy parity s.basis transform c.change_of_basis-interval.result degree)

pub returns-in_err-check_input : goal.returns-in_err-check_input
returns-in_err-check_input c =
    let p = err_from_is_err_and c.from_residual.result c.from_residual.ensures.1 in
    let s = c.args.settings in
    rw (p.1, p.2) (refused_input s.strategy s.parity s.basis c.args.fold c.args.c.now c.args.a
    c.args.b c.args.out.now c.args.bounds.now c.args.steps.now c.in_err-check_input.ensures (refused c.in_err-check_input.field-0.0) refl)

pub returns-then-not-a-b : goal.returns-then-not-a-b
returns-then-not-a-b c =
    let s = c.args.settings in
    refused_interval s.strategy s.parity s.basis c.args.fold c.args.c.now c.args.a
    c.args.b c.args.out.now c.args.bounds.now c.args.steps.now (sym c.in_ok-check_input.ensures) c.if-not-a-b.true refl

pub planned_outline-outline-requires : goal.planned_outline-outline-requires
planned_outline-outline-requires c =
    rw c.degree_of.ensures (settings_accepted c.args.fold c.args.settings.parity c.args.c.now (sym c.in_ok-check_input.ensures))

pub overflow_sub-degree : goal.overflow_sub-degree
overflow_sub-degree c = omega (arith, (outlined (goal.at.overflow_sub-degree c).After-planned_outline-outline).degrees.from)

pub head_of-head-requires : goal.head_of-head-requires
head_of-head-requires c =
    let told = outlined (goal.at.head_of-head-requires c).After-planned_outline-outline in
    (told.degrees, told.outline_is)

pub returns-in_err-check_buffers : goal.returns-in_err-check_buffers
returns-in_err-check_buffers c =
    let at = goal.at.returns-in_err-check_buffers c in
    let s = c.args.settings in
    let p = err_from_is_err_and c.from_residual-in_err-check_buffers.result c.from_residual-in_err-check_buffers.ensures.1 in
    rw (p.1, p.2) (refused_buffers s.strategy s.parity s.basis c.args.fold c.args.c.now c.args.a
    c.args.b c.args.out.now c.args.bounds.now c.args.steps.now (sym c.in_ok-check_input.ensures) c.if-not-a-b.false
    (outlined at.After-planned_outline-outline).count_is c.change_of_basis-interval.ensures c.head_of-head.ensures (sized at.After-sizes)
    c.in_err-check_buffers.ensures (refused c.in_err-check_buffers.field-0.0) refl)

pub fill-requires : goal.fill-requires
fill-requires c =
    let at = goal.at.fill-requires c in
    let s = c.args.settings in
    let told = outlined at.After-planned_outline-outline in
    plan_fits s.strategy s.parity s.basis c.args.fold c.args.c.now c.args.a
    c.args.b c.args.out.now c.args.bounds.now c.args.steps.now (sym c.in_ok-check_input.ensures) c.if-not-a-b.false
    told.count_is c.change_of_basis-interval.ensures c.head_of-head.ensures (sized at.After-sizes) c.in_ok-check_buffers.ensures refl told.outline_is

pub returns : goal.returns
returns c =
    let at = goal.at.returns c in
    let s = c.args.settings in
    planned_call s.strategy s.parity s.basis c.args.fold c.args.c.now c.args.a
    c.args.b c.args.out.now c.args.bounds.now c.args.steps.now (sym c.in_ok-check_input.ensures) c.if-not-a-b.false
    (outlined at.After-planned_outline-outline).count_is c.change_of_basis-interval.ensures c.head_of-head.ensures (sized at.After-sizes)
    c.in_ok-check_buffers.ensures refl c.fill.ensures
