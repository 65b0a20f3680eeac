-- The first element is set, and the part after it is scaled by the call: the definition's two parts.
use mathlib.Core.Path.{◌∙◌}
use lib.Ieee.{nan}
use Rattle.number.specs.Numbers.{float_ops}
use Rattle.interpolation.specs.Interpolate.{scaled_by}
use Rattle.number.proofs.Literals.{one_is, double_is}
use Rattle.interpolation.proofs.InterpolateLoops.{head_part, scaled_parts}
use borrow.Author.Rules.{rules}
use Rattle.interpolation.proofs.scale.Goals as goal

pub returns : goal.returns
returns c =
    let args = c.args in
    let sums = args.sums.now in
    head_part (scaled_by float_ops _) sums _ c.scale_by.new.sums (search rules) c.scale_by.ensures
    ∙ rw (one_is, double_is) (scaled_parts float_ops _ nan sums (search rules))
