-- One row more: its terms fit, the next row can be made, and what holds before a row is added holds again behind it, with the two rows exchanged.
use mathlib.Core.Path.{◌≡◌, sym, ◌∙◌, ap, subst}
use mathlib.Core.Bool.{Bool, true, false, cond}
use mathlib.Core.List.{List}
use Prim.Native.Nat.{ℕ, suc, ◌+◌, ◌%◌, ◌≤◌, ◌<◌}
use native.Mathlib.Numerals.{add-one}
use native.Mathlib.Omega.{arith}
use borrow.Author.Tests.{lt-ltb, eq-eqb, ne_eqb}
use lib.Dec.{eqb, ltb}
use lib.IntN.{ℤ, pos}
use lib.ListN.{length, set, replicate, length-set, length-replicate}
use Rattle.algebra.specs.declared.Basis.{Basis}
use Rattle.bases.specs.Convert.{quotient_of, converted}
use Rattle.bases.proofs.Convert.{length_tabulate}
use Rattle.conversion.specs.inside.Converting.{places_of, next_places, RowsFit, IsRow, Convertible, with_row, TermsFit, Summing}
use Rattle.conversion.proofs.RowLaws.{next_is, first_is, second_is, rows_fit}
use Rattle.conversion.proofs.Terms.{sums_start, sums_step, sums_end, terms_fit}

module _ {to : Basis} {c : List ℤ} {n : ℕ} {row next sums : List ℤ} (now : Summing to c n row next sums) where
  -- no coefficient is left
  pub all_summed : length c ≤ n → sums ≡ converted to c
  all_summed past =
      let within = now.within in
      now.sums_are ∙ sums_end to c n (omega arith)

  abbrev q : ℤ
  q = quotient_of to n (places_of c n)

  pub row_fits : n < length c → TermsFit q row sums
  row_fits more = subst (TermsFit q row) (sym now.sums_are) (terms_fit to c now.ready n row more now.row_long (now.row_is more))

  -- there is a coefficient for row n + 2
  pub next_fits : suc (suc n) < length c → RowsFit next row
  next_fits more =
      let few = now.ready.few in
      rows_fit to n next row (omega arith) now.next_long now.row_long (now.next_is (omega arith)) (now.row_is (omega arith))

  -- `later` is row n + 2, if there is a coefficient for it
  pub row_summed : n < length c → (later : List ℤ) → length later ≡ 21 → (suc (suc n) < length c → later ≡ next_places to next row)
      → Summing to c (n + 1) next later (with_row q row sums)
  row_summed more later long later_is = subst (λ (m : ℕ). Summing to c m next later (with_row q row sums)) (sym (add-one n)) record {
    ready = now.ready;
    within = omega arith;
    row_long = now.next_long;
    next_long = long;
    row_is = now.next_is;
    next_is = λ under.
        let few = now.ready.few in
        subst (IsRow to (suc (suc n))) (sym (later_is under)) (next_is to n next row (omega arith) now.row_long (now.next_is (omega arith)) (now.row_is more));
    sums_are = ap (with_row q row) now.sums_are ∙ sums_step to c n row (now.row_is more);
  }

  -- so it is behind row n, which row n + 2 replaces if there is a coefficient for it
  pub row_replaced : n < length c → {later sums_later : List ℤ} → sums_later ≡ with_row q row sums
      → later ≡ cond (ltb (n + 2) (length c)) (next_places to next row) row → Summing to c (n + 1) next later sums_later
  row_replaced more {later} {sums_later} sums_is later_is =
      rw sums_is
      (row_summed more later (ap length later_is ∙ long (ltb (n + 2) (length c)))
      (λ under. later_is ∙ ap (λ (b : Bool). cond b (next_places to next row) row) (lt-ltb (n + 2) (length c) (omega arith))))
    where
      long : (b : Bool) → length (cond b (next_places to next row) row) ≡ 21
      long true = length_tabulate (length row) _ ∙ now.row_long
      long false = now.row_long

-- of two rows the one with n's parity, where the first has the even number
abbrev pub of_parity : (n : ℕ) → (even odd : List ℤ) → List ℤ
of_parity n even odd = cond (eqb (n % 2) 0) even odd

pub of_even : (n : ℕ) (even odd : List ℤ) → n % 2 ≡ 0 → of_parity n even odd ≡ even
of_even n even odd is = rw (eq-eqb (n % 2) 0 is)

pub of_odd : (n : ℕ) (even odd : List ℤ) → n % 2 ≡ 1 → of_parity n even odd ≡ odd
of_odd n even odd is = rw (ne_eqb (n % 2) 0 (λ none. omega arith))

-- before any row is added
pub none_summed : (to : Basis) (c : List ℤ) → Convertible c
    → Summing to c 0 (set (replicate 21 (pos 0)) 0 (pos 1)) (set (replicate 21 (pos 0)) 1 (pos 1)) (replicate (length c) (pos 0))
none_summed to c ready = record {
  ready = ready;
  within = omega arith;
  row_long = length-set (replicate 21 (pos 0)) 0 (pos 1) ∙ length-replicate 21 (pos 0);
  next_long = length-set (replicate 21 (pos 0)) 1 (pos 1) ∙ length-replicate 21 (pos 0);
  row_is = λ below. first_is to;
  next_is = λ below. second_is to;
  sums_are = sums_start to c;
}
