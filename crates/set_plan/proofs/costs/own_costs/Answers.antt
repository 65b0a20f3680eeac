-- `set_plan::costs::own_costs` meets its contract: a member's combines are counted by its lists, and one of them is of kind 4 where the last is plain.
use mathlib.Core.Path.{◌∙◌}
use Rattle.set_plan.proofs.CountLaws.{costs_fit, costs_are}
use Rattle.set_plan.proofs.costs.own_costs.Goals as goal

pub costs_of-requires : goal.costs_of-requires
costs_of-requires c = costs_fit c.requires c.own_totals-totals.ensures

pub returns : goal.returns
returns c = c.costs_of.ensures ∙ costs_are c.requires c.own_totals-totals.ensures c.last_plain.ensures
