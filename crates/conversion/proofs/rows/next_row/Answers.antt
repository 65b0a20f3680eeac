-- `conversion::rows::next_row` meets its contract. At each turn the first i places are the next row's, and those from i on are as they were: so the place
-- that is read there is still that of the row before.
use mathlib.Core.Path.{◌≡◌, sym, ◌∙◌, ap}
use mathlib.Core.List.{List}
use Prim.Native.Nat.{ℕ, ◌+◌}
use native.Mathlib.Omega.{arith}
use lib.IntN.{ℤ, pos}
use lib.ListN.{length, set}
use mir.Syntax.{w64}
use mir.Val.{to_z, of_z}
use borrow.Author.Rules.{rules}
use Rattle.algebra.specs.declared.Basis.{Basis}
use Rattle.algebra.proofs.Filling.{copy_step, copy_ahead, copy_all}
use Rattle.number.proofs.Signed.{back}
use Rattle.bases.proofs.Convert.{length_tabulate, get_d_tabulate}
use Rattle.conversion.specs.inside.Converting.{places_of, left_of, place_of, next_places}
use Rattle.conversion.proofs.RowLaws.{place_next}
use Rattle.conversion.proofs.rows.next_row.Goals as goal
use Rattle.conversion.proofs.rows.next_row.Goals.{At-loop-i}

-- the next row
abbrev next : At-loop-i → List ℤ
next c = next_places c.args.to c.args.last.now c.args.row.now

size : (c : At-loop-i) → length (next c) ≡ length c.args.row.now
size c = length_tabulate (length c.args.row.now) _

places : (to : Basis) (i : ℕ) {a b c a' b' c' : ℤ} → a ≡ a' → b ≡ b' → c ≡ c' → place_of to i a b c ≡ place_of to i a' b' c'
places to i e f g = rw (e, f, g)

pub loop-i-preserved : goal.loop-i-preserved
loop-i-preserved c =
    let here = (goal.at.loop-i-preserved c).At-loop-i in
    let i = c.loop-i.i in
    let below = c.loop-i-test.true in
    let left : to_z w64 (of_z w64 c.left_of.result) ≡ left_of c.args.last.now i = back c.left_of.type_inv c.left_of.ensures in
    let right : to_z w64 (of_z w64 c.unwrap_or-right.result) ≡ places_of c.args.last.now (i + 1) = search rules in
    let read : to_z w64 (of_z w64 (places_of c.loop-i.row i)) ≡ places_of c.loop-i.row i = search rules in
    let before : to_z w64 (of_z w64 (places_of c.loop-i.row i)) ≡ places_of c.args.row.now i =
    read ∙ ap (λ (row : List ℤ). places_of row i) c.loop-i.invariant ∙ copy_ahead (next here) c.args.row.now i (pos 0) (omega (arith, below, size here)) in
    let value : to_z w64 (of_z w64 c.place.result) ≡ places_of (next here) i =
    back c.place.type_inv (c.place.ensures ∙ places c.args.to i left right before ∙ place_next c.args.to c.args.last.now c.args.row.now i
    ∙ sym (get_d_tabulate (length c.args.row.now) _ i (pos 0) below)) in
    ap (λ (row : List ℤ). set row i (to_z w64 (of_z w64 c.place.result))) c.loop-i.invariant
    ∙ copy_step (next here) c.args.row.now i (pos 0) _ (omega (arith, below, size here)) (omega (arith, size here)) value

pub returns : goal.returns
returns c =
    let here = (goal.at.returns c).At-loop-i in
    c.loop-i.invariant ∙ copy_all (next here) c.args.row.now c.loop-i.i (omega (arith, c.loop-i-test.false, size here)) (size here)
