-- `needed::Slicing::needed_marks` meets its contract. It marks the targets among places without marks, and sweeps from the greatest target down.
-- The places without marks beyond it change nothing.
use mathlib.Core.Path.{◌∙◌}
use native.Mathlib.Omega.{arith}
use Rattle.number.specs.Limits.{count_limit}
use Rattle.needed.specs.inside.Marks.{greatest_target, needed_marks}
use Rattle.needed.proofs.PlaceLaws.{sweep_padded}
use Rattle.needed.proofs.NeededMarks.{greatest_within_lem}
use Rattle.needed.proofs.slicing.Slicing.needed_marks.Goals as goal

pub sweep-requires : goal.sweep-requires
sweep-requires c =
    let at = c.args.self in
    omega (arith, greatest_within_lem at.degree at.split at.planned.degrees.from, c.greatest_target.ensures, at.planned.degrees.to)

pub returns : goal.returns
unfolding needed_marks
returns c =
    let at = c.args.self in
    c.sweep.ensures
    ∙ rw (c.mark_targets.ensures, c.greatest_target.ensures) (sweep_padded c.args.basis (greatest_target at.degree at.split) count_limit _)
