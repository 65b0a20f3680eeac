-- `set_plan::costs::sum_costs` meets its contract. The invariant: what is summed, with the costs of the members that are left, is the whole.
use mathlib.Core.Path.{◌≡◌, ap}
use mathlib.Core.List.{[]}
use native.Mathlib.Omega.{arith}
use lib.ListN.{drop, drop_of_length-le}
use Rattle.plan.specs.declared.head.Costs.{Costs}
use Rattle.set_plan.specs.inside.Counting.{threes_of, plains_of}
use Rattle.set_plan.proofs.CountLaws.{own_most, fits_here, threes_from, plains_from, threes_none, plains_none}
use Rattle.set_plan.proofs.costs.sum_costs.Goals as goal

pub own_costs-own-requires : goal.own_costs-own-requires
own_costs-own-requires c = fits_here c.requires c.loop-head.head-index c.loop-head-test.true

pub overflow_add-threes : goal.overflow_add-threes
overflow_add-threes c =
    let most = own_most (fits_here c.requires c.loop-head.head-index c.loop-head-test.true) in
    omega (
      arith,
      ap (λ (k : Costs). k.threes) c.own_costs-own.ensures,
      most.0,
      c.loop-head.invariant.threes_most,
      c.loop-head-test.true,
      c.requires.few,
    )

pub overflow_add-plains : goal.overflow_add-plains
overflow_add-plains c =
    let most = own_most (fits_here c.requires c.loop-head.head-index c.loop-head-test.true) in
    omega (
      arith,
      ap (λ (k : Costs). k.plains) c.own_costs-own.ensures,
      most.1,
      c.loop-head.invariant.plains_most,
      c.loop-head-test.true,
      c.requires.few,
    )

pub loop-head-preserved : goal.loop-head-preserved
loop-head-preserved c =
    let inv = c.loop-head.invariant in
    let i = c.loop-head.head-index in
    let below = c.loop-head-test.true in
    let most = own_most (fits_here c.requires i below) in
    let threes = ap (λ (k : Costs). k.threes) c.own_costs-own.ensures in
    let plains = ap (λ (k : Costs). k.plains) c.own_costs-own.ensures in
    record {
      threes_left = omega (arith, inv.threes_left, threes, threes_from c.requires i below);
      plains_left = omega (arith, inv.plains_left, plains, plains_from c.requires i below);
      threes_most = omega (arith, inv.threes_most, threes, most.0);
      plains_most = omega (arith, inv.plains_most, plains, most.1);
    }

pub returns : goal.returns
returns c =
    let inv = c.loop-head.invariant in
    let none : drop c.loop-head.head-index c.args.heads.now ≡ [] = drop_of_length-le c.args.heads.now c.loop-head-test.false in
    record {
      threes_are = omega (arith, inv.threes_left, ap threes_of none, threes_none);
      plains_are = omega (arith, inv.plains_left, ap plains_of none, plains_none);
      threes_most = omega (arith, inv.threes_most, c.requires.few, c.loop-head.auto.head-index-end);
    }
