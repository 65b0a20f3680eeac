-- `sets::steps::write_own` meets its contract: the tree is cut at the member's own split, and the totals of its lists tell whether the last is plain.
use Rattle.sets.proofs.WritingLaws.{tree_fits, own_put}
use Rattle.sets.proofs.steps.write_own.Goals as goal

pub own_totals-requires : goal.own_totals-requires
own_totals-requires c = c.requires.head_fits

pub own_slicing-split-requires : goal.own_slicing-split-requires
own_slicing-split-requires c = c.requires.head_fits

pub write_tree-requires : goal.write_tree-requires
write_tree-requires c =
    tree_fits c.args.head.now c.requires.head_fits c.relists-leading.ensures c.own_slicing-split.ensures.1 c.requires.places

pub returns : goal.returns
returns c =
    own_put c.args.head.now c.requires.head_fits c.relists-leading.ensures c.own_slicing-split.ensures.1 c.own_totals.ensures
    c.last_plain-plain.ensures c.write_tree.ensures
