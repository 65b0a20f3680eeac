-- The loop's invariant: the nodes that are left, added to what stands in the sums now, give what all nodes added to the first sums give.
use mathlib.Core.Path.{◌≡◌, sym, ap, ◌∙◌}
use Rattle.std.specs.Slice.Iter.{iter_rest}
use Rattle.std.proofs.lemmas.Slice.Zip.{Zip-more, either_empty_from_Zip}
use borrow.Author.Rules.{rules}
use Rattle.number.specs.Numbers.{float_ops}
use Rattle.interpolation.specs.Interpolate.{add_nodes}
use Rattle.interpolation.proofs.InterpolateLoops.{node_more, nodes_end}
use Rattle.interpolation.proofs.add_nodes.Goals as goal

pub loop-node-init : goal.loop-node-init
loop-node-init c =
    let nodes : iter_rest c.into_iter-node-iterator.result.a ≡ c.args.nodes.now = search rules in
    let values : iter_rest c.into_iter-node-iterator.result.b ≡ c.args.values.now = search rules in
    rw (nodes, values)

pub loop-node-preserved : goal.loop-node-preserved
loop-node-preserved c =
    let old = c.loop-node.node-iterator in
    let new = c.next.new.self in
    let more = Zip-more old new c.next.result (c.in-Some.node, c.in-Some.value) c.in-Some.is c.next.ensures.steps in
    ap (add_nodes float_ops (iter_rest new.a) (iter_rest new.b)) c.add_node.ensures
    ∙ node_more float_ops c.in-Some.node.now c.in-Some.value.now c.loop-node.sums more.0 more.1
    ∙ c.loop-node.invariant

pub returns : goal.returns
returns c =
    let left = c.loop-node.node-iterator in
    let end = either_empty_from_Zip left c.next.new.self c.next.result c.in-None.is c.next.ensures.steps in
    sym (nodes_end float_ops (iter_rest left.a) (iter_rest left.b) c.loop-node.sums end) ∙ c.loop-node.invariant
