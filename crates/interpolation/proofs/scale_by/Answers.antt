-- The places before the index are scaled and the rest is still to be, which together is what is to be left.
use mathlib.Core.Path.{refl, sym, ◌∙◌}
use lib.Ieee.{nan}
use Rattle.number.specs.Numbers.{float_ops}
use Rattle.interpolation.specs.Interpolate.{scaled_by}
use Rattle.algebra.proofs.Filling.{place_step, place_end}
use borrow.Author.Rules.{rules}
use Rattle.interpolation.proofs.scale_by.Goals as goal

pub loop-sum-preserved : goal.loop-sum-preserved
loop-sum-preserved c =
    let rest = scaled_by float_ops c.args.factor in
    place_step rest rest c.loop-sum.sums c.loop-sum.sum-index _ nan (search rules) refl ∙ c.loop-sum.invariant

pub returns : goal.returns
returns c =
    let rest = scaled_by float_ops c.args.factor in
    sym (place_end rest c.loop-sum.sums c.loop-sum.sum-index (search rules) refl) ∙ c.loop-sum.invariant
