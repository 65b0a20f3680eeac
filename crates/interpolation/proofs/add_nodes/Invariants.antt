use mathlib.Core.Path.{◌≡◌}
use Rattle.std.specs.Slice.Iter.{iter_rest}
use Rattle.number.specs.Numbers.{float_ops}
use Rattle.interpolation.specs.Interpolate.{add_nodes}
use Rattle.interpolation.proofs.add_nodes.Given as goal

abbrev pub invariant-loop-node : goal.invariant-loop-node
invariant-loop-node l =
    add_nodes float_ops (iter_rest l.node-iterator.a) (iter_rest l.node-iterator.b) l.sums ≡ add_nodes float_ops l.nodes l.values l.initial.sums
