-- `conversion::sums::add_row` meets its contract. At each turn the first i sums have their terms, and those from i on are as they were.
use mathlib.Core.Path.{◌≡◌, sym, ◌∙◌, ap}
use mathlib.Core.List.{List}
use Prim.Native.Nat.{◌<◌}
use native.Mathlib.Omega.{arith}
use lib.IntN.{ℤ, pos, ◌+ℤ◌, ◌*ℤ◌}
use lib.ListN.{length, set}
use mir.Syntax.{w64}
use mir.Val.{SFits, to_z, of_z}
use mir.Facts.{to_z-of_z}
use borrow.Author.Rules.{rules}
use Rattle.algebra.proofs.Filling.{copy_ahead, copy_step, copy_all}
use Rattle.algebra.proofs.Fits.{fits_abs}
use Rattle.algebra.proofs.Magnitudes.{abs_add, abs_mul}
use Rattle.bases.proofs.Convert.{length_tabulate, get_d_tabulate}
use Rattle.conversion.specs.inside.Converting.{places_of, with_row}
use Rattle.conversion.proofs.sums.add_row.Goals as goal
use Rattle.conversion.proofs.sums.add_row.Goals.{At-loop-i}

-- the sums with their terms
abbrev after : At-loop-i → List ℤ
after c = with_row (to_z w64 (of_z w64 c.args.q)) c.args.row.now c.args.sums.now

size : (c : At-loop-i) → length (after c) ≡ length c.args.sums.now
size c = length_tabulate (length c.args.sums.now) _

module _ (c : At-loop-i) (below : c.loop-i.i < length c.args.sums.now) where
  abbrev q : ℤ
  q = c.args.q

  abbrev r : ℤ
  r = places_of c.args.row.now c.loop-i.i

  -- the sum is still as it was
  sum_is : places_of c.loop-i.sums c.loop-i.i ≡ places_of c.args.sums.now c.loop-i.i
  sum_is =
      ap (λ (sums : List ℤ). places_of sums c.loop-i.i) c.loop-i.invariant
      ∙ copy_ahead (after c) c.args.sums.now c.loop-i.i (pos 0) (omega (arith, size c))

  product_fits : SFits w64 (q *ℤ r)
  product_fits = fits_abs (q *ℤ r) (omega (arith, abs_mul q r, c.requires.fits c.loop-i.i below))

  total_fits : SFits w64 (places_of c.loop-i.sums c.loop-i.i +ℤ q *ℤ r)
  total_fits =
      rw sum_is
      (fits_abs (places_of c.args.sums.now c.loop-i.i +ℤ q *ℤ r)
      (omega (arith, abs_add (places_of c.args.sums.now c.loop-i.i) (q *ℤ r), abs_mul q r, c.requires.fits c.loop-i.i below)))

pub overflow_add-sum : goal.overflow_add-sum
overflow_add-sum c =
    let here = (goal.at.overflow_add-sum c).At-loop-i in
    let sum = places_of c.loop-i.sums c.loop-i.i in
    let place = places_of c.args.row.now c.loop-i.i in
    let read_sum : to_z w64 (of_z w64 sum) ≡ sum = search rules in
    let read_place : to_z w64 (of_z w64 place) ≡ place = search rules in
    rw (read_sum, to_z-of_z c.ranges.q, read_place, to_z-of_z (product_fits here c.loop-i-test.true)) (total_fits here c.loop-i-test.true)

pub loop-i-preserved : goal.loop-i-preserved
loop-i-preserved c =
    let here = (goal.at.loop-i-preserved c).At-loop-i in
    let i = c.loop-i.i in
    let below = c.loop-i-test.true in
    let sum = places_of c.loop-i.sums i in
    let place = places_of c.args.row.now i in
    let read_sum : to_z w64 (of_z w64 sum) ≡ sum = search rules in
    let read_place : to_z w64 (of_z w64 place) ≡ place = search rules in
    let written = to_z w64 (of_z w64 (to_z w64 (of_z w64 sum) +ℤ to_z w64 (of_z w64 (to_z w64 (of_z w64 c.args.q) *ℤ to_z w64 (of_z w64 place))))) in
    let value : written ≡ places_of (after here) i =
    rw (read_sum, to_z-of_z c.ranges.q, read_place, to_z-of_z (product_fits here below))
    (to_z-of_z (total_fits here below) ∙ ap (◌+ℤ c.args.q *ℤ place) (sum_is here below)
    ∙ sym (get_d_tabulate (length c.args.sums.now) _ i (pos 0) below)) in
    ap (λ (sums : List ℤ). set sums i written) c.loop-i.invariant
    ∙ copy_step (after here) c.args.sums.now i (pos 0) written (omega (arith, below, size here)) (omega (arith, size here)) value

pub returns : goal.returns
returns c =
    let k = (goal.at.returns c).At-loop-i in
    c.loop-i.invariant
    ∙ copy_all (after k) c.args.sums.now c.loop-i.i (omega (arith, c.loop-i-test.false, size k))
    (size k)
    ∙ ap (λ (q : ℤ). with_row q c.args.row.now c.args.sums.now) (to_z-of_z c.ranges.q)
