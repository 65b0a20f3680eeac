-- `sets::marks::add_targets` meets its contract: a power is needed at once if it is the top power, or below the limit and allowed.
use mathlib.Core.Path.{ap₂, ◌∙◌}
use native.Mathlib.Omega.{arith}
use Rattle.number.proofs.Bits.{top_power_lem}
use Rattle.needed.specs.Needed.{baby_limit}
use Rattle.sets.proofs.MarkingLaws.{targets_added}
use Rattle.sets.proofs.marks.add_targets.Goals as goal

pub mark-requires : goal.mark-requires
mark-requires c =
    let degrees = c.requires.0.degrees in
    omega (arith, c.top_power-top.ensures, (top_power_lem c.args.head.now.degree degrees.from).within, degrees.to)

pub returns : goal.returns
returns c =
    targets_added c.args.head.now c.requires.0 c.top_power-top.ensures
    (c.baby_limit-limit.ensures ∙ ap₂ baby_limit c.own_slicing.ensures.0 c.own_slicing.ensures.1)
    c.add_places.ensures c.mark.ensures
