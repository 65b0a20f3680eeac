-- The bounds of the interval of lines are in order.
use mathlib.Core.Path.{refl}
use lib.Ieee.{lt, neg}
use Rattle.number.specs.Interval.{Ordered}
use Rattle.answers.specs.LineInterval.{minus_one, plus_one}

pub ones_ordered : Ordered minus_one plus_one
unfolding lt neg
ones_ordered = refl
