-- `rebuild::parts::rebuild_part` and `rebuild_slice` meet their contracts. A part below the base is a slice; otherwise low is rebuilt, then high, and
-- the cut is undone. Twice the length times 64 plus the split, and one more for the part, falls at each call: the length at a cut, the split where a
-- slice was listed again.
use mathlib.Core.Path.{◌≡◌, sym, ◌∙◌}
use mathlib.Core.Bool.{true, ◌&&◌}
use Prim.Native.Nat.{ℕ}
use native.Mathlib.Omega.{arith}
use lib.Pow.{pow_pos}
use Rattle.number.specs.Tests.{degree_of}
use Rattle.lists.specs.Tree.{listed_again}
use Rattle.lists.proofs.TreeRule.{Again, leading_again}
use Rattle.rebuild.proofs.PartRanges.{smaller_split}
use Rattle.rebuild.proofs.RebuildSteps.{Parting, Low, High}
use Rattle.rebuild.proofs.RebuildSteps as steps
use Rattle.rebuild.proofs.parts.+rebuild_part_rebuild_slice.Goals as goal
use Rattle.rebuild.proofs.parts.+rebuild_part_rebuild_slice.Goals.{rebuild_part-After-rebuild_part, rebuild_part-After-rebuild_part-2}
use Rattle.rebuild.proofs.parts.+rebuild_part_rebuild_slice.Goals.{rebuild_part-After-top_power-p, rebuild_slice-After-listed_again}

-- the cut whose parts are rebuilt
parting : {t : ℕ} (c : rebuild_part-After-top_power-p t)
    → let args = c.args in
    Parting args.leading args.whole args.split args.c.now c.top_power-p.result
parting c =
    let base_is = c.power_of_two-base.ensures in
    record { ranges = c.requires.1.0; fits = c.requires.1.1; from = omega arith; power = c.top_power-p.ensures }

-- its low part, and then its high part
abbrev low_of : {t : ℕ} (c : rebuild_part-After-rebuild_part t)
    → let args = c.args in
    (k : Parting args.leading args.whole args.split args.c.now c.top_power-p.result) → Low args.basis k
low_of c k = record {
  y = c.rebuild_part.new.c;
  done = c.rebuild_part.result;
  told = c.rebuild_part.ensures;
  kept = c.rebuild_part.auto.c;
}

abbrev high_of : {t : ℕ} (c : rebuild_part-After-rebuild_part-2 t)
    → let args = c.args in
    (k : Parting args.leading args.whole args.split args.c.now c.top_power-p.result)
    → High args.basis k (record {
      y = c.rebuild_part.new.c;
      done = c.rebuild_part.result;
      told = c.rebuild_part.ensures;
      kept = c.rebuild_part.auto.c;
    })
high_of c k = record {
  z = c.rebuild_part-2.new.c;
  done = c.rebuild_part-2.result;
  told = c.rebuild_part-2.ensures;
  kept = c.rebuild_part-2.auto.c;
  went_on = c.if-not-rebuild_part.false;
}

pub rebuild_part-top_power-p-requires : goal.rebuild_part-top_power-p-requires
rebuild_part-top_power-p-requires t c = omega (arith, pow_pos c.args.split)

pub rebuild_part-slice_bounds-rebuild_part-end : goal.rebuild_part-slice_bounds-rebuild_part-end
rebuild_part-slice_bounds-rebuild_part-end t c =
    let here = goal.at.rebuild_part-slice_bounds-rebuild_part-end t c in
    omega (arith, steps.under c.args.basis (parting here.After-top_power-p))

pub rebuild_part-slice_bounds-rebuild_part-end-2 : goal.rebuild_part-slice_bounds-rebuild_part-end-2
rebuild_part-slice_bounds-rebuild_part-end-2 t c =
    let here = goal.at.rebuild_part-slice_bounds-rebuild_part-end-2 t c in
    sym (steps.low_length c.args.basis (parting here.After-top_power-p))

pub rebuild_part-rebuild_part-requires : goal.rebuild_part-rebuild_part-requires
rebuild_part-rebuild_part-requires t c =
    let k = parting (goal.at.rebuild_part-rebuild_part-requires t c).After-top_power-p in
    let basis = c.args.basis in (
      omega (arith, steps.low_length basis k, steps.under basis k),
      (rw (steps.low_length basis k) (steps.positive basis k), (steps.ranges_low basis k, steps.fits_low basis k)),
    )

pub rebuild_part-returns-then-not-rebuild_part : goal.rebuild_part-returns-then-not-rebuild_part
rebuild_part-returns-then-not-rebuild_part t c =
    let here = goal.at.rebuild_part-returns-then-not-rebuild_part t c in
    let k = parting here.After-top_power-p in
    let low = low_of here.After-rebuild_part k in
    steps.low_failed c.args.basis k low c.if-not-rebuild_part.true

pub rebuild_part-offset_bounds-c-p : goal.rebuild_part-offset_bounds-c-p
rebuild_part-offset_bounds-c-p t c =
    let k = parting (goal.at.rebuild_part-offset_bounds-c-p t c).After-top_power-p in
    record { fits = omega (arith, steps.under c.args.basis k, k.ranges.part_limit) }

pub rebuild_part-slice_bounds-rebuild_part-count : goal.rebuild_part-slice_bounds-rebuild_part-count
rebuild_part-slice_bounds-rebuild_part-count t c =
    let here = goal.at.rebuild_part-slice_bounds-rebuild_part-count t c in
    let k = parting here.After-top_power-p in
    let low = low_of here.After-rebuild_part k in
    let basis = c.args.basis in
    omega (arith, steps.under basis k, steps.joined_length basis k low)

pub rebuild_part-slice_bounds-rebuild_part-start : goal.rebuild_part-slice_bounds-rebuild_part-start
rebuild_part-slice_bounds-rebuild_part-start t c =
    let here = goal.at.rebuild_part-slice_bounds-rebuild_part-start t c in
    let k = parting here.After-top_power-p in
    let low = low_of here.After-rebuild_part k in
    let basis = c.args.basis in
    omega (arith, steps.under basis k, steps.joined_length basis k low)

pub rebuild_part-rebuild_part-requires-2 : goal.rebuild_part-rebuild_part-requires-2
rebuild_part-rebuild_part-requires-2 t c =
    let here = goal.at.rebuild_part-rebuild_part-requires-2 t c in
    let k = parting here.After-top_power-p in
    let low = low_of here.After-rebuild_part k in
    let basis = c.args.basis in
    let long = steps.lent_length basis k low in (
      omega (arith, long, steps.half_way basis k, steps.under basis k, steps.positive basis k),
      (
        omega (arith, long, steps.under basis k),
        (steps.ranges_high basis k low, steps.fits_high basis k low),
      ),
    )

pub rebuild_part-returns-then-not-rebuild_part-2 : goal.rebuild_part-returns-then-not-rebuild_part-2
rebuild_part-returns-then-not-rebuild_part-2 t c =
    let here = goal.at.rebuild_part-returns-then-not-rebuild_part-2 t c in
    let k = parting here.After-top_power-p in
    let low = low_of here.After-rebuild_part k in
    let high = high_of here.After-rebuild_part-2 k in
    steps.high_failed c.args.basis k low high c.if-not-rebuild_part-2.true

pub rebuild_part-undo_cut-requires : goal.rebuild_part-undo_cut-requires
rebuild_part-undo_cut-requires t c =
    let here = goal.at.rebuild_part-undo_cut-requires t c in
    let k = parting here.After-top_power-p in
    let low = low_of here.After-rebuild_part k in
    let high = high_of here.After-rebuild_part-2 k in
    let basis = c.args.basis in
    let long = steps.back_length basis k low high in (
      omega (arith, long, steps.under basis k),
      (
        omega (arith, long, steps.half_way basis k),
        steps.back_fits basis k low high c.if-not-rebuild_part-2.false,
      ),
    )

pub rebuild_part-returns : goal.rebuild_part-returns
rebuild_part-returns t c =
    let here = goal.at.rebuild_part-returns t c in
    let k = parting here.After-top_power-p in
    let low = low_of here.After-rebuild_part k in
    let high = high_of here.After-rebuild_part-2 k in
    steps.both_done c.args.basis k low high c.if-not-rebuild_part-2.false
    c.undo_cut.ensures

-- a slice that the test says was listed again
told_again : {t : ℕ} (c : rebuild_slice-After-listed_again t) → c.listed_again.result ≡ true
    → let args = c.args in (args.leading && listed_again args.whole (degree_of args.c.now) args.split) ≡ true
told_again c told = sym c.listed_again.ensures ∙ told

again : {t : ℕ} (c : rebuild_slice-After-listed_again t) → c.listed_again.result ≡ true
    → let args = c.args in Again args.whole (degree_of args.c.now) args.split
again c told = leading_again c.args.leading _ _ _ (told_again c told)

pub rebuild_slice-smaller_split-smaller-requires : goal.rebuild_slice-smaller_split-smaller-requires
rebuild_slice-smaller_split-smaller-requires t c =
    let here = goal.at.rebuild_slice-smaller_split-smaller-requires t c in
    record { from = (again here.After-listed_again c.if-listed_again.true).positive; to = c.requires.1.0.part_limit }

pub rebuild_slice-rebuild_part-requires : goal.rebuild_slice-rebuild_part-requires
rebuild_slice-rebuild_part-requires t c =
    let smaller = (again (goal.at.rebuild_slice-rebuild_part-requires t c).After-listed_again c.if-listed_again.true).smaller in
    let split_is = c.smaller_split-smaller.ensures in (
      omega arith,
      (c.requires.0, (smaller_split c.requires.1.0 (omega arith), c.requires.1.1.0)),
    )

pub rebuild_slice-returns-then-listed_again : goal.rebuild_slice-returns-then-listed_again
rebuild_slice-returns-then-listed_again t c =
    steps.slice_again c.args.basis c.args.leading c.args.whole c.args.split c.args.c.now
    c.requires.1.1.1 (told_again (goal.at.rebuild_slice-returns-then-listed_again t c).After-listed_again c.if-listed_again.true)
    (rw c.smaller_split-smaller.ensures at c.rebuild_part.ensures)

pub rebuild_slice-returns : goal.rebuild_slice-returns
rebuild_slice-returns t c =
    steps.slice_once c.args.basis c.args.leading c.args.whole c.args.split c.args.c.now
    c.requires.1.1.1 (sym c.listed_again.ensures ∙ c.if-listed_again.false)
