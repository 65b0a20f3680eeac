-- `plan::outline::outline_of` meets its contract, number by number; the chosen split is from 1 to 12, as each counter asks.
use native.Mathlib.Omega.{arith}
use Rattle.plan.proofs.HeadCounts.{planned_at, ranges_at, outline_is, counts_range}
use Rattle.plan.proofs.outline.outline_of.Goals as goal

pub total_lists-totals-requires : goal.total_lists-totals-requires
total_lists-totals-requires c =
    ranges_at c.args.settings.strategy c.args.settings.parity c.args.settings.basis c.args.degree c.requires
    c.split_for_strategy-split.ensures

pub invariant_of-count_needed : goal.invariant_of-count_needed
invariant_of-count_needed c =
    record { planned = planned_at c.args.settings.strategy c.args.settings.parity c.args.settings.basis c.args.degree c.requires c.split_for_strategy-split.ensures }

pub count_steps-steps-requires : goal.count_steps-steps-requires
count_steps-steps-requires c =
    counts_range c.args.settings.strategy c.args.settings.parity c.args.settings.basis c.args.degree c.requires c.relists-leading.result
    c.split_for_strategy-split.result c.total_lists-totals.ensures c.count_needed-powers.ensures

pub overflow_add-result : goal.overflow_add-result
overflow_add-result c = omega (arith, c.requires.to)

pub returns : goal.returns
returns c =
    outline_is c.args.settings.strategy c.args.settings.parity c.args.settings.basis c.args.degree c.requires
    c.split_for_strategy-split.ensures c.relists-leading.ensures c.total_lists-totals.ensures c.count_needed-powers.ensures
    c.last_plain-plain.ensures c.count_steps-steps.ensures
