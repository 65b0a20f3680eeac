-- `lists::list::list_coeffs` and `list_slice` meet their contracts. A part below the base is a slice; otherwise the cut leaves its low part in the
-- first p places and its high part behind, and what the two calls leave is what the tree's cut leaves. Twice the length times 64 plus the
-- split, and one more for the lister, falls at each call: the length at a cut, the split at a relisting.
use mathlib.Core.Path.{◌≡◌, refl, ap, sym, ◌∙◌}
use mathlib.Core.Bool.{true, ◌&&◌}
use Prim.Native.Nat.{ℕ, ◌≤◌}
use native.Mathlib.Nat.{mul-le-mul_right}
use native.Mathlib.Omega.{arith}
use lib.ListN.{length}
use prog.Memory.{size}
use denote.Param.{layout}
use Rattle.algebra.specs.Cut.{cut_at}
use Rattle.number.specs.Tests.{degree_of}
use Rattle.lists.specs.Tree.{listed_again}
use Rattle.lists.proofs.TreeRule.{Again, leading_again}
use Rattle.lists.proofs.ListerCuts as cuts
use Rattle.lists.proofs.ListerCuts.{Cutting}
use Rattle.lists.proofs.list.+list_coeffs_list_slice.Goals as goal
use Rattle.lists.proofs.list.+list_coeffs_list_slice.Goals.{list_coeffs-After-cut_coeffs, list_coeffs-After-top_power-p, list_slice-After-listed_again}

uncut : (g : _) {t : ℕ} (c : list_coeffs-After-top_power-p g t)
    → let args = c.args in
    Cutting g.C.Coefficient.numbers.ops args.leading args.basis args.whole args.split args.at args.n args.c.now args.bounds.now
    c.top_power-p.result (cut_at g.C.Coefficient.numbers.ops args.basis c.top_power-p.result args.c.now)
uncut g c = record { listable = c.requires.0; from = omega arith; power = c.top_power-p.ensures; parted = refl }

cutting : (g : _) {t : ℕ} (c : list_coeffs-After-cut_coeffs g t)
    → let args = c.args in
    Cutting g.C.Coefficient.numbers.ops args.leading args.basis args.whole args.split args.at args.n args.c.now args.bounds.now
    c.top_power-p.result c.cut_coeffs.new.c
cutting g c = record { listable = c.requires.0; from = omega arith; power = c.top_power-p.ensures; parted = c.cut_coeffs.ensures }

pub list_coeffs-cut_coeffs-requires : goal.list_coeffs-cut_coeffs-requires
list_coeffs-cut_coeffs-requires g t c =
    let k = uncut g (goal.at.list_coeffs-cut_coeffs-requires g t c).After-top_power-p in
    (cuts.under k, (cuts.half k, g.met.C.Coefficient.lists_cut _ (omega (arith, cuts.positive k, cuts.under k)) c.requires.1))

pub list_coeffs-slice_bounds-list_coeffs-end : goal.list_coeffs-slice_bounds-list_coeffs-end
list_coeffs-slice_bounds-list_coeffs-end g t c =
    let k = cutting g (goal.at.list_coeffs-slice_bounds-list_coeffs-end g t c).After-cut_coeffs in
    omega (arith, cuts.under k, cuts.same_length k)

pub list_coeffs-slice_bounds-list_coeffs-end-2 : goal.list_coeffs-slice_bounds-list_coeffs-end-2
list_coeffs-slice_bounds-list_coeffs-end-2 g t c = sym (cuts.low_length (cutting g (goal.at.list_coeffs-slice_bounds-list_coeffs-end-2 g t c).After-cut_coeffs))

pub list_coeffs-list_coeffs-m-requires : goal.list_coeffs-list_coeffs-m-requires
list_coeffs-list_coeffs-m-requires g t c =
    let k = cutting g (goal.at.list_coeffs-list_coeffs-m-requires g t c).After-cut_coeffs in
    λ κs e. (
      omega (arith, cuts.low_length k, cuts.under k),
      (
        e,
        (
          cuts.listable_low k,
          rw k.parted
              (g.met.C.Coefficient.lists_low c.args.basis c.top_power-p.result c.args.c.now (omega (arith, cuts.under k)) c.requires.1),
        ),
      ),
    )

pub list_coeffs-offset_bounds-c-p : goal.list_coeffs-offset_bounds-c-p
list_coeffs-offset_bounds-c-p g t c =
    let k = cutting g (goal.at.list_coeffs-offset_bounds-c-p g t c).After-cut_coeffs in
    let under : c.top_power-p.result ≤ length c.args.c.now = omega (arith, cuts.under k) in
    record { fits = omega (arith, mul-le-mul_right (size (layout g.row.C)) under) }

pub list_coeffs-slice_bounds-list_coeffs-count : goal.list_coeffs-slice_bounds-list_coeffs-count
list_coeffs-slice_bounds-list_coeffs-count g t c =
    let k = cutting g (goal.at.list_coeffs-slice_bounds-list_coeffs-count g t c).After-cut_coeffs in
    omega (arith, cuts.under k, cuts.joined_length k c.list_coeffs-m.ensures c.list_coeffs-m.auto.c)

pub list_coeffs-slice_bounds-list_coeffs-start : goal.list_coeffs-slice_bounds-list_coeffs-start
list_coeffs-slice_bounds-list_coeffs-start g t c =
    let k = cutting g (goal.at.list_coeffs-slice_bounds-list_coeffs-start g t c).After-cut_coeffs in
    omega (arith, cuts.under k, cuts.joined_length k c.list_coeffs-m.ensures c.list_coeffs-m.auto.c)

pub list_coeffs-overflow_add-at : goal.list_coeffs-overflow_add-at
list_coeffs-overflow_add-at g t c =
    let k = cutting g (goal.at.list_coeffs-overflow_add-at g t c).After-cut_coeffs in
    omega (arith, cuts.under k, k.listable.ends_fit)

pub list_coeffs-list_coeffs-requires : goal.list_coeffs-list_coeffs-requires
list_coeffs-list_coeffs-requires g t c =
    let k = cutting g (goal.at.list_coeffs-list_coeffs-requires g t c).After-cut_coeffs in
    let lent = cuts.part_is k c.list_coeffs-m.ensures c.list_coeffs-m.auto.c in
    λ κs e. (
      omega (arith, ap length lent, cuts.high_length k, cuts.half k, cuts.under k, cuts.positive k),
      (
        e,
        (
          cuts.listable_high k c.list_coeffs-m.ensures c.list_coeffs-m.auto.c c.list_coeffs-m.auto.bounds,
          rw (lent, k.parted)
              (g.met.C.Coefficient.lists_high c.args.basis c.top_power-p.result c.args.c.now (omega (arith, cuts.under k)) (cuts.half k)
              c.requires.1),
        ),
      ),
    )

pub list_coeffs-returns : goal.list_coeffs-returns
list_coeffs-returns g t c =
    cuts.place_both (cutting g (goal.at.list_coeffs-returns g t c).After-cut_coeffs) c.list_coeffs-m.ensures c.list_coeffs-m.auto.c c.list_coeffs.ensures

-- a slice that the test says is listed again
told_again : (g : _) {t : ℕ} (c : list_slice-After-listed_again g t) → c.listed_again.result ≡ true
    → (c.args.leading && listed_again c.args.whole (degree_of c.args.c.now) c.args.split) ≡ true
told_again g c told = sym c.listed_again.ensures ∙ told

again : (g : _) {t : ℕ} (c : list_slice-After-listed_again g t) → c.listed_again.result ≡ true
    → Again c.args.whole (degree_of c.args.c.now) c.args.split
again g c told =
    leading_again c.args.leading c.args.whole (degree_of c.args.c.now) c.args.split (told_again g c told)

pub list_slice-smaller_split-smaller-requires : goal.list_slice-smaller_split-smaller-requires
list_slice-smaller_split-smaller-requires g t c =
    let here = goal.at.list_slice-smaller_split-smaller-requires g t c in
    record { from = (again g here.After-listed_again c.if-listed_again.true).positive; to = c.requires.0.ranges.part_limit }

pub list_slice-list_coeffs-requires : goal.list_slice-list_coeffs-requires
list_slice-list_coeffs-requires g t c =
    let here = goal.at.list_slice-list_coeffs-requires g t c in
    let told = told_again g here.After-listed_again c.if-listed_again.true in
    let smaller = cuts.smaller c.requires.0 c.requires.1.1 told in
    λ κs e. (
      omega (arith, c.smaller_split-smaller.ensures),
      (e, (rw c.smaller_split-smaller.ensures (cuts.listable_again c.requires.0 c.requires.1.1 told), c.requires.1.0)),
    )

pub list_slice-returns-then-listed_again : goal.list_slice-returns-then-listed_again
list_slice-returns-then-listed_again g t c =
    cuts.place_again c.requires.0 c.requires.1.1 (told_again g (goal.at.list_slice-returns-then-listed_again g t c).After-listed_again c.if-listed_again.true)
    (rw c.smaller_split-smaller.ensures at c.list_coeffs.ensures)

pub list_slice-bounds-bounds-n : goal.list_slice-bounds-bounds-n
list_slice-bounds-bounds-n g t c = cuts.room_for_one c.requires.0

pub list_slice-returns : goal.list_slice-returns
list_slice-returns g t c =
    cuts.place_slice c.requires.0 c.requires.1.1 (sym c.listed_again.ensures ∙ c.if-listed_again.false)
