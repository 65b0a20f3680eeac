-- `set_plan::record::set_record` meets its contract: powers, combines of kind 3 and the transform's multiplications make up the one count, and the
-- members' plain multiplications the other.
use native.Mathlib.Omega.{arith}
use lib.ListN.{take}
use Rattle.set_plan.proofs.CountLaws.{cost_most, record_is}
use Rattle.set_plan.proofs.record.set_record.Goals as goal

pub overflow_add-result : goal.overflow_add-result
overflow_add-result c =
    omega (arith, c.sum_costs-costs.ensures.threes_most, c.requires.counted.powers_most)

pub overflow_add-result-2 : goal.overflow_add-result-2
overflow_add-result-2 c =
    let counted = c.requires.counted in
    omega (
      arith,
      c.sum_costs-costs.ensures.threes_most,
      counted.powers_most,
      c.set_cost-cost.ensures,
      cost_most (take c.args.count c.args.heads),
      counted.heads_fit.few,
    )

pub returns : goal.returns
returns c = record_is c.requires c.sum_costs-costs.ensures c.set_cost-cost.ensures
