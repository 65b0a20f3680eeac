use mathlib.Core.Path.{◌≡◌}
use Prim.Native.Nat.{◌≤◌}
use Rattle.number.specs.Limits.{plan_limit}
use Rattle.counts.specs.LargestDegree.{greatest_within}
use Rattle.counts.proofs.budget.greatest_within.Given as goal

abbrev pub invariant-loop-degree : goal.invariant-loop-degree
invariant-loop-degree l =
    (l.degree ≤ plan_limit) × (greatest_within l.strategy l.budget l.input l.coeff plan_limit ≡ greatest_within l.strategy l.budget l.input l.coeff l.degree)

abbrev pub decreases-loop-degree : goal.decreases-loop-degree
decreases-loop-degree l = l.degree
