-- `needed::Slicing::mark_targets` meets its contract. The invariant: the places passed are filled, and no place beyond has a mark.
-- It ends as the places up to the greatest target, with places without marks behind them.
use mathlib.Core.Path.{◌≡◌, ap, ◌∙◌}
use mathlib.Core.Bool.{Bool}
use mathlib.Core.List.{List}
use Prim.Native.Nat.{◌<◌}
use native.Mathlib.Omega.{arith}
use lib.ListN.{set}
use Rattle.number.specs.Limits.{count_limit}
use Rattle.needed.specs.NeededList.{is_target}
use Rattle.needed.specs.inside.Marks.{target_marks}
use Rattle.needed.proofs.PlaceLaws.{fill_start, fill_step, fill_end}
use Rattle.needed.proofs.NeededMarks.{greatest_within_lem}
use Rattle.needed.proofs.slicing.Slicing.mark_targets.Goals as goal
use Rattle.needed.proofs.slicing.Slicing.mark_targets.Goals.{After-is_target}

-- the place is inside the array
inside : (c : After-is_target) → c.loop-n.n < count_limit
inside c =
    let at = c.args.self in
    omega (arith, greatest_within_lem at.degree at.split at.planned.degrees.from, c.greatest_target-n-end.ensures, at.planned.degrees.to)

pub loop-n-init : goal.loop-n-init
loop-n-init c = c.requires ∙ fill_start _ count_limit

pub bounds-marks-n : goal.bounds-marks-n
bounds-marks-n c = inside (goal.at.bounds-marks-n c).After-is_target

pub loop-n-preserved : goal.loop-n-preserved
loop-n-preserved c =
    let loop = c.loop-n in
    let test = is_target c.args.parity c.top_power-top.result c.baby_limit-limit.result in
    ap (λ (marks : List Bool). set marks loop.n c.is_target.result) loop.invariant
    ∙ fill_step test count_limit loop.n (inside (goal.at.loop-n-preserved c).After-is_target) c.is_target.ensures

pub returns-2 : goal.returns-2
unfolding target_marks
returns-2 c =
    let loop = c.loop-n in
    let test = is_target c.args.parity c.top_power-top.result c.baby_limit-limit.result in
    let end : loop.n ≡ c.greatest_target-n-end.result = omega arith in
    ap (λ (marks : List Bool). set marks loop.n c.is_target.result) loop.invariant
    ∙ fill_step test count_limit loop.n (inside (goal.at.returns-2 c).After-is_target) c.is_target.ensures
    ∙ rw (end, c.greatest_target-n-end.ensures, c.baby_limit-limit.ensures, c.top_power-top.ensures) (fill_end _ count_limit _)
