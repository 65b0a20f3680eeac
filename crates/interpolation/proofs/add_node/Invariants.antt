use mathlib.Core.Path.{◌≡◌}
use mathlib.Core.List.{◌++◌}
use Prim.Native.Nat.{◌+◌}
use lib.ListN.{take, drop}
use Rattle.algebra.specs.Power.{cheb}
use Rattle.number.specs.Numbers.{float_ops}
use Rattle.interpolation.specs.Interpolate.{add_node}
use Rattle.interpolation.proofs.add_node.Given as goal

abbrev pub invariant-loop-sum : goal.invariant-loop-sum
invariant-loop-sum l =
    (l.t_prev ≡ cheb float_ops l.node l.sum-index) × (l.t ≡ cheb float_ops l.node (l.sum-index + 1))
    × (take l.sum-index l.sums ++ add_node float_ops l.sum-index l.node l.value (drop l.sum-index l.sums) ≡ add_node float_ops 0 l.node l.value l.initial.sums)
