use mathlib.Core.Path.{◌≡◌}
use Prim.Native.Nat.{◌+◌, ◌*◌, ◌≤◌}
use lib.ListN.{drop}
use Rattle.number.specs.Limits.{count_limit}
use Rattle.set_plan.specs.inside.Counting.{threes_of, plains_of}
use Rattle.set_plan.proofs.costs.sum_costs.Given as goal

abbrev pub invariant-loop-head : goal.invariant-loop-head
invariant-loop-head l = record {
  threes_left : l.threes + threes_of (drop l.head-index l.heads) ≡ threes_of l.heads;
  plains_left : l.plains + plains_of (drop l.head-index l.heads) ≡ plains_of l.heads;
  threes_most : l.threes ≤ count_limit * l.head-index;
  plains_most : l.plains ≤ count_limit * l.head-index;
}
