-- Rows in lists of 21 places: a place from its neighbours, the next row from the two before it, the first two rows, and how large their places are.
use mathlib.Core.Path.{◌≡◌, refl, sym, ◌∙◌, ap, ap₂, fun_ext}
use mathlib.Core.Bool.{Bool, false, cond}
use mathlib.Core.List.{List}
use Prim.Native.Nat.{ℕ, zero, suc, ◌+◌, ◌≤◌, ◌<◌}
use native.Mathlib.Decide.{ℕ_discrete, dec_le}
use native.Mathlib.Numerals.{add-one}
use native.Mathlib.Omega.{arith}
use borrow.Author.Tests.{ne_eqb}
use lib.Dec.{eqb}
use lib.IntN.{ℤ, pos, nat_abs, ◌+ℤ◌, +ℤ_idl}
use lib.ListN.{length, set, replicate, length-replicate, get_or-replicate, get_or-eq_default}
use lib.Seq.{get_or-set_same, get_or-set_other}
use Rattle.algebra.specs.Operations.{whole_ops, double}
use Rattle.algebra.specs.declared.Basis.{Basis}
use Rattle.algebra.specs.declared.Basis.TheVariants.{Monomial, Chebyshev}
use Rattle.algebra.proofs.Integers.{integers}
use Rattle.bases.specs.Rows.{unit_row, next_row, row_of}
use Rattle.bases.proofs.Convert.{length_tabulate, get_d_tabulate}
use Rattle.bases.proofs.Rows.{row_zero, row_one, row_step, row_above, unit_same, unit_other}
use Rattle.conversion.specs.inside.Converting.{places_of, left_of, place_of, next_places, RowsFit, IsRow}
use Rattle.conversion.proofs.Growth.{row_small}

-- ---- the next row

-- a place from its neighbours is that of the recurrence
pub place_next : (to : Basis) (last before : List ℤ) (i : ℕ)
    → place_of to i (left_of last i) (places_of last (i + 1)) (places_of before i) ≡ next_row whole_ops to (places_of last) (places_of before) i
place_next Monomial last before zero = refl
place_next Monomial last before (suc i) = refl
place_next Chebyshev last before zero = refl
place_next Chebyshev last before (suc zero) = ap (◌+ℤ places_of last 2) (sym (+ℤ_idl (double whole_ops (places_of last 0))))
place_next Chebyshev last before (suc (suc i)) =
    let apart : eqb (suc (suc i)) 1 ≡ false = ne_eqb (suc (suc i)) 1 (λ is. omega arith) in
    ap₂ ◌+ℤ◌
    (ap (λ (b : Bool). cond b (double whole_ops (places_of last (suc i))) (places_of last (suc i))) apart ∙ sym (+ℤ_idl (places_of last (suc i))))
    (ap (places_of last) (add-one (suc (suc i))))

-- 21 places are enough for rows 0 to 20
pub next_is : (to : Basis) (n : ℕ) (last before : List ℤ) → suc (suc n) ≤ 20 → length before ≡ 21 → IsRow to (suc n) last → IsRow to n before
    → IsRow to (suc (suc n)) (next_places to last before)
next_is to n last before low long last-is before_is = record { each = λ i. by_place i (dec_le (suc i) 21) }
  where
    row : ℕ → ℤ
    row = next_row whole_ops to (places_of last) (places_of before)

    by_place : (i : ℕ) → Dec (i < 21) → places_of (next_places to last before) i ≡ row_of whole_ops to (suc (suc n)) i
    by_place i (yes inside) =
        get_d_tabulate (length before) row i (pos 0) (omega arith)
        ∙ ap₂ (λ (l b : ℕ → ℤ). next_row whole_ops to l b i) (fun_ext last-is.each) (fun_ext before_is.each)
        ∙ sym (row_step whole_ops to n i)
    by_place i (no beyond) =
        get_or-eq_default (next_places to last before) (pos 0) (omega (arith, length_tabulate (length before) row))
        ∙ sym (row_above integers to (suc (suc n)) i (omega arith))

-- ---- the first two rows

unit_is : (n i : ℕ) → n < 21 → places_of (set (replicate 21 (pos 0)) n (pos 1)) i ≡ unit_row whole_ops n i
unit_is n i inside = by_place (ℕ_discrete i n) (dec_le (suc i) 21)
  where
    by_place : Dec (i ≡ n) → Dec (i < 21) → places_of (set (replicate 21 (pos 0)) n (pos 1)) i ≡ unit_row whole_ops n i
    by_place (yes is) within =
        ap (places_of (set (replicate 21 (pos 0)) n (pos 1))) is
        ∙ get_or-set_same (replicate 21 (pos 0)) n (pos 1) (pos 0) (omega (arith, length-replicate 21 (pos 0)))
        ∙ sym (unit_same whole_ops n) ∙ ap (unit_row whole_ops n) (sym is)
    by_place (no apart) (yes within) =
        get_or-set_other (replicate 21 (pos 0)) n i (pos 1) (pos 0) apart ∙ get_or-replicate 21 i (pos 0) (pos 0) within
        ∙ sym (unit_other whole_ops n i (λ is. apart (sym is)))
    by_place (no apart) (no beyond) =
        get_or-set_other (replicate 21 (pos 0)) n i (pos 1) (pos 0) apart
        ∙ get_or-eq_default (replicate 21 (pos 0)) (pos 0) {n = i} (omega (arith, length-replicate 21 (pos 0)))
        ∙ sym (unit_other whole_ops n i (λ is. apart (sym is)))

pub first_is : (to : Basis) → IsRow to 0 (set (replicate 21 (pos 0)) 0 (pos 1))
first_is to = record { each = λ i. unit_is 0 i (omega arith) ∙ sym (row_zero whole_ops to i) }

pub second_is : (to : Basis) → IsRow to 1 (set (replicate 21 (pos 0)) 1 (pos 1))
second_is to = record { each = λ i. unit_is 1 i (omega arith) ∙ sym (row_one whole_ops to i) }

-- ---- their places

pub is_small : (to : Basis) (n : ℕ) (row : List ℤ) → n ≤ 20 → IsRow to n row → (i : ℕ) → nat_abs (places_of row i) ≤ 3486784401
is_small to n row low is i = omega (arith, ap nat_abs (is.each i), row_small to n i low)

pub rows_fit : (to : Basis) (n : ℕ) (last before : List ℤ) → suc n ≤ 20 → length last ≡ 21 → length before ≡ 21 → IsRow to (suc n) last → IsRow to n before
    → RowsFit last before
rows_fit to n last before low last_long before_long last-is before_is = record {
  long = last_long ∙ sym before_long;
  last_small = λ i. omega (arith, is_small to (suc n) last low last-is i);
  before_small = λ i. let under : n ≤ 20 = omega arith in omega (arith, is_small to n before under before_is i);
}
