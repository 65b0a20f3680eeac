-- `sets::marks::common_targets` meets its contract. The invariant: what one of the members passed needs at once is marked, and nothing else.
use Rattle.sets.specs.inside.Heads.{HeadFits}
use Rattle.sets.proofs.Arrays.{any_head, each_at}
use Rattle.sets.proofs.MarkingLaws.{targets_none, targets_more, targets_all}
use Rattle.sets.proofs.marks.common_targets.Goals as goal

pub loop-head-init : goal.loop-head-init
loop-head-init c = targets_none c.args.heads.now

pub add_targets-requires : goal.add_targets-requires
add_targets-requires c = (
  each_at any_head HeadFits c.loop-head.head-index c.args.heads.now c.loop-head-test.true c.requires.each,
  c.loop-head.invariant.size,
)

pub loop-head-preserved : goal.loop-head-preserved
loop-head-preserved c = targets_more c.loop-head.invariant c.loop-head-test.true c.add_targets.ensures

pub returns : goal.returns
returns c = targets_all c.loop-head.invariant c.loop-head-test.false
