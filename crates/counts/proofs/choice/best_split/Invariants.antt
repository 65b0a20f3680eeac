use Rattle.counts.specs.Pair.{pair_at}
use Rattle.counts.proofs.BetterLaws.{BestSoFar}
use Rattle.counts.proofs.choice.best_split.Given as goal

abbrev pub invariant-loop-split : goal.invariant-loop-split
invariant-loop-split l = BestSoFar (pair_at l.parity l.basis l.degree) l.bits l.split l.best
