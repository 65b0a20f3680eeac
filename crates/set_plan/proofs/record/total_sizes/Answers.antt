-- `set_plan::record::total_sizes` meets its contract. The invariant: what is summed, with the sizes of the members that are left, is the whole; the steps
-- begin with the common power steps.
use mathlib.Core.Path.{◌≡◌, ap}
use mathlib.Core.List.{[]}
use native.Mathlib.Omega.{arith}
use lib.ListN.{drop, drop_of_length-le}
use Rattle.sets.specs.SetPlan.{coefficient_count, list_count, own_step_count}
use Rattle.sets.proofs.HeadLaws.{sizes_most}
use Rattle.set_plan.proofs.CountLaws.{fits_here, coefficients_from_lem, lists_from, steps_from_lem, counts_none, sizes_summed}
use Rattle.set_plan.proofs.record.total_sizes.Goals as goal

pub overflow_add-coefficients : goal.overflow_add-coefficients
overflow_add-coefficients c =
    let fit = c.requires.heads_fit in
    omega (
      arith,
      c.loop-head.invariant.coefficients_most,
      (sizes_most (fits_here fit c.loop-head.head-index c.loop-head-test.true)).coefficients,
      c.loop-head-test.true,
      fit.few,
    )

pub overflow_add-lists : goal.overflow_add-lists
overflow_add-lists c =
    let fit = c.requires.heads_fit in
    omega (
      arith,
      c.loop-head.invariant.lists_most,
      (sizes_most (fits_here fit c.loop-head.head-index c.loop-head-test.true)).lists,
      c.loop-head-test.true,
      fit.few,
    )

pub overflow_add-steps : goal.overflow_add-steps
overflow_add-steps c =
    let fit = c.requires.heads_fit in
    omega (
      arith,
      c.loop-head.invariant.steps_most,
      (sizes_most (fits_here fit c.loop-head.head-index c.loop-head-test.true)).steps,
      c.loop-head-test.true,
      fit.few,
    )

pub loop-head-preserved : goal.loop-head-preserved
loop-head-preserved c =
    let fit = c.requires.heads_fit in
    let inv = c.loop-head.invariant in
    let i = c.loop-head.head-index in
    let below = c.loop-head-test.true in
    let most = sizes_most (fits_here fit i below) in
    record {
      coefficients_left = omega (arith, inv.coefficients_left, coefficients_from_lem fit i below);
      lists_left = omega (arith, inv.lists_left, lists_from fit i below);
      steps_left = omega (arith, inv.steps_left, steps_from_lem fit i below);
      coefficients_most = omega (arith, inv.coefficients_most, most.coefficients);
      lists_most = omega (arith, inv.lists_most, most.lists);
      steps_most = omega (arith, inv.steps_most, most.steps);
    }

pub returns : goal.returns
returns c =
    let inv = c.loop-head.invariant in
    let none : drop c.loop-head.head-index c.args.heads.now ≡ [] = drop_of_length-le c.args.heads.now c.loop-head-test.false in
    sizes_summed c.requires (omega (arith, inv.coefficients_left, ap coefficient_count none, counts_none.0))
    (omega (arith, inv.lists_left, ap list_count none, counts_none.1)) (omega (arith, inv.steps_left, ap own_step_count none, counts_none.2))
