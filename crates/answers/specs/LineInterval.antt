-- The interval on which the polynomial of a line is planned (docs/RULES.md, "Lines of planlines"): from −1 to 1. A line does not say one, and nothing of
-- it is printed (texts/specs/IntervalUnprinted).
use Rattle.std.specs.Prelude.{Float}
use Rattle.number.specs.Numbers.{float_ops}

abbrev pub minus_one : Float
minus_one = float_ops.neg float_ops.one

abbrev pub plus_one : Float
plus_one = float_ops.one
