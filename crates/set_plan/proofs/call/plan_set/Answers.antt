-- `set_plan::call::plan_set` meets its contract. Every test is made before the first write, so a refusal leaves all as it was. Past the tests the heads
-- are those of the members as planned alone, and what is written and answered is made from them.
use mathlib.Core.Path.{refl, sym}
use Rattle.std.proofs.lemmas.Result.{err_from_is_err_and}
use Rattle.number.proofs.Refused.{refused}
use Rattle.sets.specs.Members.{members_in}
use Rattle.set_plan.specs.inside.Counting.{Outlined}
use Rattle.set_plan.proofs.CallLaws.{ahead_tells, members_pass, refused_ahead, refused_room, lists_room, steps_room, record_asked, planned_set_lem}
use Rattle.set_plan.proofs.call.plan_set.Goals as goal
use Rattle.set_plan.proofs.call.plan_set.Goals.{After-set_outline-outline}

-- what is worked out before anything is written
outlined : (c : After-set_outline-outline) → Outlined (members_in c.args.members) c.set_outline-outline.result
outlined c = rw c.list-curves.ensures at c.set_outline-outline.ensures

pub returns-in_err-check_ahead : goal.returns-in_err-check_ahead
returns-in_err-check_ahead c =
    let p = err_from_is_err_and c.from_residual.result c.from_residual.ensures.1 in
    rw (p.1, p.2) (refused_ahead c.args.members c.args.c.now c.args.out.now c.args.bounds.now c.args.steps.now
    c.in_err-check_ahead.ensures (refused c.in_err-check_ahead.field-0.0) refl)

pub set_outline-outline-requires : goal.set_outline-outline-requires
set_outline-outline-requires c =
    let ahead = ahead_tells c.args.members c.args.c.now (sym c.in_ok-check_ahead.ensures) in
    rw c.list-curves.ensures (members_pass ahead, ahead.alikes)

pub returns-in_err-check_buffers : goal.returns-in_err-check_buffers
returns-in_err-check_buffers c =
    let here = goal.at.returns-in_err-check_buffers c in
    let p = err_from_is_err_and c.from_residual-in_err-check_buffers.result c.from_residual-in_err-check_buffers.ensures.1 in
    rw (p.1, p.2) (refused_room c.args.members c.args.c.now c.args.out.now c.args.bounds.now c.args.steps.now
    (sym c.in_ok-check_ahead.ensures) (outlined here.After-set_outline-outline)
    c.in_err-check_buffers.ensures (refused c.in_err-check_buffers.field-0.0) refl)

pub write_all_lists-requires : goal.write_all_lists-requires
write_all_lists-requires c =
    let here = goal.at.write_all_lists-requires c in
    rw c.list-curves.ensures
    (lists_room c.args.members c.args.c.now c.args.out.now c.args.bounds.now c.args.steps.now
    (sym c.in_ok-check_ahead.ensures) (outlined here.After-set_outline-outline) c.in_ok-check_buffers.ensures refl)

pub write_set-requires : goal.write_set-requires
write_set-requires c =
    let here = goal.at.write_set-requires c in
    rw c.list-curves.ensures
    (steps_room c.args.members c.args.c.now c.args.out.now c.args.bounds.now c.args.steps.now
    (sym c.in_ok-check_ahead.ensures) (outlined here.After-set_outline-outline) c.in_ok-check_buffers.ensures refl)

pub set_record-requires : goal.set_record-requires
set_record-requires c =
    let here = goal.at.set_record-requires c in
    rw c.list-curves.ensures
    (record_asked c.args.members c.args.c.now c.args.out.now c.args.bounds.now c.args.steps.now
    (sym c.in_ok-check_ahead.ensures) (outlined here.After-set_outline-outline) c.in_ok-check_buffers.ensures)

pub returns : goal.returns
returns c =
    let here = goal.at.returns c in
    planned_set_lem c.args.members c.args.c.now c.args.out.now c.args.bounds.now c.args.steps.now
    (sym c.in_ok-check_ahead.ensures) (outlined here.After-set_outline-outline) c.in_ok-check_buffers.ensures refl
    (rw c.list-curves.ensures at c.write_all_lists.ensures) (rw c.list-curves.ensures at c.write_set.ensures)
    (rw c.list-curves.ensures at c.set_record.ensures)
