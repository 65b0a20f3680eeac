-- What the code asks of the sums: they fit i64, since quotients are at most 2^30 together and a row's places at most 3^20.
use mathlib.Core.Path.{◌≡◌, sym, ◌∙◌, ap, ap₂}
use mathlib.Core.List.{List}
use Prim.Native.Nat.{ℕ, zero, suc, ◌+◌, ◌*◌, ◌^◌, ◌≤◌, ◌<◌}
use native.Mathlib.Nat.{mul-le-mul}
use native.Mathlib.Omega.{arith}
use lib.IntN.{ℤ, pos, nat_abs, ◌+ℤ◌, ◌*ℤ◌}
use lib.ListN.{length, replicate, take}
use Rattle.algebra.specs.Magnitude.{sum_abs}
use Rattle.algebra.specs.Operations.{whole_ops}
use Rattle.algebra.specs.declared.Basis.{Basis}
use Rattle.algebra.proofs.Magnitudes.{abs_add, abs_mul, abs_get_d, sum_abs_take, sum_abs_take_suc}
use Rattle.algebra.proofs.Sums.{sum_none, sum_suc}
use Rattle.bases.specs.Rows.{denominator, row_of}
use Rattle.bases.specs.Convert.{quotient_of, new_coefficient, tabulate, converted}
use Rattle.bases.proofs.Convert.{length_tabulate, get_d_tabulate, tabulate_ext, tabulate_constant, quotient_small}
use Rattle.conversion.specs.inside.Converting.{places_of, IsRow, Convertible, with_row, TermsFit, part_of}
use Rattle.conversion.proofs.Growth.{row_small}

-- ---- the sums of the first n terms

module _ (to : Basis) (c : List ℤ) where
  -- coefficient k's quotient
  abbrev q : (k : ℕ) → ℤ
  q k = quotient_of to k (places_of c k)

  -- term k of the new coefficient i
  abbrev term : (i k : ℕ) → ℤ
  term i k = q k *ℤ row_of whole_ops to k i

  pub sums_start : replicate (length c) (pos 0) ≡ tabulate (length c) (part_of to c 0)
  sums_start =
      sym (tabulate_constant (length c) (pos 0))
      ∙ tabulate_ext (length c) (λ i. pos 0) (part_of to c 0) (λ i below. sym (sum_none whole_ops (term i)))

  pub sums_step : (n : ℕ) (row : List ℤ) → IsRow to n row
      → with_row (q n) row (tabulate (length c) (part_of to c n)) ≡ tabulate (length c) (part_of to c (suc n))
  sums_step n row is =
      ap (λ (k : ℕ). tabulate k (λ i. places_of (tabulate (length c) (part_of to c n)) i +ℤ q n *ℤ places_of row i))
      (length_tabulate (length c) (part_of to c n))
      ∙ tabulate_ext (length c) _ (part_of to c (suc n))
      (λ i below. ap₂ ◌+ℤ◌ (get_d_tabulate (length c) (part_of to c n) i (pos 0) below) (ap (q n *ℤ◌) (is.each i)) ∙ sym (sum_suc whole_ops (term i) n))

  pub sums_end : (n : ℕ) → n ≡ length c → tabulate (length c) (part_of to c n) ≡ converted to c
  unfolding new_coefficient
  sums_end n is = ap (λ (k : ℕ). tabulate (length c) (part_of to c k)) is

  module _ (ready : Convertible c) where
    -- a term is at most its coefficient times 3^20
    term_small : (i n : ℕ) → n < length c → nat_abs (q n) * nat_abs (row_of whole_ops to n i) ≤ nat_abs (places_of c n) * 3486784401
    term_small i n within =
        let few = ready.few in
        let low : n ≤ 20 = omega arith in
        mul-le-mul (quotient_small (places_of c n) (denominator to n)) (row_small to n i low)

    part_small : (i n : ℕ) → n ≤ length c → nat_abs (part_of to c n i) ≤ sum_abs (take n c) * 3486784401
    part_small i zero within = omega (arith, ap nat_abs (sum_none whole_ops (term i)))
    part_small i (suc n) within =
        omega (
          arith,
          ap nat_abs (sum_suc whole_ops (term i) n),
          abs_add (part_of to c n i) (term i n),
          abs_mul (q n) (row_of whole_ops to n i),
          part_small i n (omega arith),
          term_small i n (omega arith),
          sum_abs_take_suc c n (omega arith),
        )

    -- a sum and the next term fit, since 2^31·3^20 is below 2^63
    pub terms_fit : (n : ℕ) (row : List ℤ) → n < length c → length row ≡ 21 → IsRow to n row → TermsFit (q n) row (tabulate (length c) (part_of to c n))
    terms_fit n row within long is =
        let few = ready.few in
        let sums_long : length (tabulate (length c) (part_of to c n)) ≡ length c = length_tabulate (length c) (part_of to c n) in
        record { reaches = omega arith; fits = λ i below. at_place i (omega arith) }
      where
        at_place : (i : ℕ) → i < length c
            → nat_abs (places_of (tabulate (length c) (part_of to c n)) i) + nat_abs (q n) * nat_abs (places_of row i) < 2 ^ 63
        at_place i below =
            let small = ready.small in
            rw (get_d_tabulate (length c) (part_of to c n) i (pos 0) below, is.each i)
            (omega (arith, part_small i n (omega arith), term_small i n within, sum_abs_take n c, abs_get_d c n))
