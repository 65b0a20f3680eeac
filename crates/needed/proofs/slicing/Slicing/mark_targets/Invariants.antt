use mathlib.Core.Path.{◌≡◌}
use Rattle.number.specs.Limits.{count_limit}
use Rattle.needed.specs.NeededList.{is_target}
use Rattle.needed.proofs.PlaceLaws.{filled}
use Rattle.needed.proofs.slicing.Slicing.mark_targets.Given as goal

abbrev pub invariant-loop-n : goal.invariant-loop-n
invariant-loop-n l = l.marks ≡ filled (is_target l.parity l.top l.limit) count_limit l.n
