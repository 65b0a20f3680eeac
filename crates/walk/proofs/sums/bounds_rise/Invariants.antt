use Rattle.std.proofs.Common.{◌≡◌, drop}
use Rattle.walk.specs.Boundaries.{rises}
use Rattle.walk.proofs.sums.bounds_rise.Given as goal

abbrev pub invariant-loop-bound : goal.invariant-loop-bound
invariant-loop-bound l = rises l.last l.most (drop l.bound-index l.bounds) ≡ rises 0 l.most l.bounds
