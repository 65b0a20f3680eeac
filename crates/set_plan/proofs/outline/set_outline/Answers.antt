-- `set_plan::outline::set_outline` meets its contract: the first heads are those of the members, of which all have one basis.
use Rattle.sets.proofs.HeadLaws.{heads_fit, one_basis}
use Rattle.set_plan.proofs.outline.set_outline.Goals as goal

pub common_marks-marks-requires : goal.common_marks-marks-requires
common_marks-marks-requires c =
    (heads_fit c.requires.0 c.set_heads-heads.ensures, one_basis c.requires.0 c.set_heads-heads.ensures c.requires.1)

pub count_common-powers-requires : goal.count_common-powers-requires
count_common-powers-requires c = (heads_fit c.requires.0 c.set_heads-heads.ensures, c.common_marks-marks.ensures)
