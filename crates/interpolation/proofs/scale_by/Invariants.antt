use mathlib.Core.Path.{◌≡◌}
use mathlib.Core.List.{◌++◌}
use lib.ListN.{take, drop}
use Rattle.number.specs.Numbers.{float_ops}
use Rattle.interpolation.specs.Interpolate.{scaled_by}
use Rattle.interpolation.proofs.scale_by.Given as goal

abbrev pub invariant-loop-sum : goal.invariant-loop-sum
invariant-loop-sum l =
    take l.sum-index l.sums ++ scaled_by float_ops l.factor (drop l.sum-index l.sums) ≡ scaled_by float_ops l.factor l.initial.sums
