-- `sets::marks::count_common` meets its contract: no power is above the greatest that a member may need, so the places up to it hold all marks.
use Rattle.sets.proofs.MarkingLaws.{powers_counted}
use Rattle.sets.proofs.marks.count_common.Goals as goal

pub returns : goal.returns
returns c =
    powers_counted c.requires.0 c.requires.1 c.greatest_power.ensures.0 c.count_marks.ensures
