use mathlib.Core.Path.{◌≡◌}
use Prim.Native.Nat.{◌+◌, ◌*◌, ◌≤◌}
use lib.ListN.{drop}
use Rattle.number.specs.Limits.{count_limit}
use Rattle.sets.specs.SetPlan.{coefficient_count, list_count, own_step_count}
use Rattle.set_plan.proofs.record.total_sizes.Given as goal

abbrev pub invariant-loop-head : goal.invariant-loop-head
invariant-loop-head l = record {
  coefficients_left : l.coefficients + coefficient_count (drop l.head-index l.heads) ≡ coefficient_count l.heads;
  lists_left : l.lists + list_count (drop l.head-index l.heads) ≡ list_count l.heads;
  steps_left : l.steps + own_step_count (drop l.head-index l.heads) ≡ l.powers + own_step_count l.heads;
  coefficients_most : l.coefficients ≤ count_limit * l.head-index;
  lists_most : l.lists ≤ count_limit * l.head-index;
  steps_most : l.steps ≤ count_limit + (count_limit + count_limit) * l.head-index;
}
