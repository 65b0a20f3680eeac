-- `plan::write::write_steps` meets its contract: the power steps, and behind them those of the tree.
use Rattle.plan.proofs.FilledBuffers.{powers_fit, tree_fits, all_steps}
use Rattle.plan.proofs.write.write_steps.Goals as goal

pub invariant_of-slicing : goal.invariant_of-slicing
invariant_of-slicing c = record { planned = c.requires.planned }

pub write_powers-step-requires : goal.write_powers-step-requires
write_powers-step-requires c = powers_fit c.requires

pub write_tree-requires : goal.write_tree-requires
write_tree-requires c =
    rw c.relists.ensures (tree_fits c.requires c.write_powers-step.ensures c.write_powers-step.auto.steps)

pub returns : goal.returns
returns c =
    all_steps c.requires c.write_powers-step.ensures c.write_powers-step.auto.steps (rw c.relists.ensures at c.write_tree.ensures)
