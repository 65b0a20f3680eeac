-- `needed::marks::sweep` meets its contract. The invariant: the sweep of the marks from n down gives the whole sweep. A place that is not marked
-- is passed over, as in the definition.
use mathlib.Core.Path.{◌≡◌, refl, sym, ◌∙◌, ap}
use Prim.Native.Nat.{◌-◌, ◌≤◌}
use native.Mathlib.Omega.{arith}
use Rattle.needed.specs.inside.Marks.{sweep_at, sweep_from}
use Rattle.needed.proofs.MarkLaws.{place_marked, place_unmarked}
use Rattle.needed.proofs.SweepLaws.{sweep_place, sweep_end}
use Rattle.needed.proofs.marks.sweep.Goals as goal
use Rattle.needed.proofs.marks.sweep.Goals.{then-marks-n, else-marks-n}

pub loop-n-init : goal.loop-n-init
loop-n-init c = refl

pub loop-n-preserved : goal.loop-n-preserved
loop-n-preserved c =
    let loop = c.loop-n in
    let basis = c.args.basis in
    let n = loop.n in
    let swept : sweep_from basis (n - 1) c.if-marks-n.marks ≡ sweep_from basis (n - 1) (sweep_at basis n loop.marks) =
    elim c.if-marks-n.branch [
      | then-marks-n w ↦ ap (sweep_from basis (n - 1)) (w.marks-is ∙ w.mark_parts.ensures ∙ sym (place_marked basis n loop.marks w.if-marks-n.true))
      | else-marks-n w ↦ ap (sweep_from basis (n - 1)) (w.marks-is ∙ sym (place_unmarked basis n loop.marks w.if-marks-n.false))
    ] in
    swept ∙ sym (sweep_place basis n loop.marks c.loop-n-test.true) ∙ loop.invariant

pub returns : goal.returns
returns c =
    let loop = c.loop-n in
    let low : loop.n ≤ 1 = omega arith in
    sym (sweep_end c.args.basis loop.n loop.marks low) ∙ loop.invariant
