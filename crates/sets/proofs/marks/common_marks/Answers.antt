-- `sets::marks::common_marks` meets its contract. No power is above the greatest that a member may need, so a sweep from there down marks the least set
-- that holds what each member needs at once; and in one basis that is the union of what each needs.
use Rattle.sets.proofs.MarkingLaws.{common_swept}
use Rattle.sets.proofs.marks.common_marks.Goals as goal

pub returns : goal.returns
returns c =
    common_swept c.requires.0 c.requires.1 c.common_targets-marks.ensures c.greatest_power.ensures.0 c.sweep.ensures
