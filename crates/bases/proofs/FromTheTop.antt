-- From the top. What is left and the last coefficient have the value of the whole, and there is no other such list.
use mathlib.Core.Path.{◌≡◌, refl, sym, ◌∙◌, ap, ap₂}
use mathlib.Core.Bool.{true}
use mathlib.Core.List.{List, [], ◌∷◌, ◌++◌}
use Prim.Native.Nat.{ℕ, suc, ◌+◌, ◌-◌, ◌^◌, ◌%◌, ◌<◌}
use native.Mathlib.Numerals.{add-one}
use native.Mathlib.Omega.{arith}
use lib.IntN.{ℤ, pos, nat_abs, ◌+ℤ◌, ◌-ℤ◌, ◌*ℤ◌}
use lib.ListN.{length, get_or, length-append, get_or-append}
use lib.Seq.{get_or_at}
use lib.Signed.{quot_z}
use Rattle.algebra.specs.Operations.{whole_ops}
use Rattle.algebra.specs.Power.{pow, cheb, power}
use Rattle.algebra.specs.Value.{sum, dot, value}
use Rattle.algebra.specs.declared.Basis.{Basis}
use Rattle.algebra.specs.declared.Basis.TheVariants.{Monomial, Chebyshev}
use Rattle.algebra.proofs.Integers.{integers}
use Rattle.algebra.proofs.Solve.{◌:=◌, num, ◌:+◌, ◌:-◌, ◌:*◌, :-◌, ring, from}
use Rattle.algebra.proofs.Sums.{sum_suc, sum_ext, sum_sub, sum_mul, dot_is, dot_past}
use Rattle.bases.specs.Rows.{row_of}
use Rattle.bases.specs.Convert.{is_whole, quotient_of, converted}
use Rattle.bases.specs.FromTheTop.{LeadingCoefficient, less_t, TopFirst, FromTheTop}
use Rattle.bases.proofs.Rows.{row_leads, row_multiple}
use Rattle.bases.proofs.RowsLaw.{rows_law}
use Rattle.bases.proofs.Convert.{length_tabulate, get_d_tabulate, quotient_exact, multiple_none, whole_exactly_if}
use Rattle.bases.proofs.Promises.{values_kept, only_one}

pub leading_coefficient : LeadingCoefficient
leading_coefficient = row_leads

-- one more coefficient
value_snoc : (basis : Basis) (x : ℤ) (c : List ℤ) (z : ℤ)
    → value whole_ops basis x (c ++ (z ∷ [])) ≡ value whole_ops basis x c +ℤ z *ℤ power whole_ops basis x (length c)
unfolding dot
value_snoc basis x c z =
    let size : length (c ++ (z ∷ [])) ≡ suc (length c) = length-append c (z ∷ []) ∙ add-one (length c) in
    ap (sum whole_ops (λ j. get_or (c ++ (z ∷ [])) j (pos 0) *ℤ power whole_ops basis x j)) size
    ∙ sum_suc whole_ops (λ j. get_or (c ++ (z ∷ [])) j (pos 0) *ℤ power whole_ops basis x j) (length c)
    ∙ ap₂ ◌+ℤ◌
    (sum_ext whole_ops _ (λ j. get_or c j (pos 0) *ℤ power whole_ops basis x j) (length c)
    (λ j below. ap (◌*ℤ power whole_ops basis x j) (get_or-append c (z ∷ []) (pos 0) j below)))
    (ap (◌*ℤ power whole_ops basis x (length c)) (get_or_at c z [] (pos 0) (length c) refl))

module _ (c : List ℤ) (z : ℤ) (all : is_whole Chebyshev (c ++ (z ∷ [])) ≡ true) where
  abbrev n : ℕ
  n = length c

  abbrev q : ℤ
  q = quotient_of Chebyshev n z

  abbrev row : ℕ → ℤ
  row i = row_of whole_ops Monomial n i

  size : length (c ++ (z ∷ [])) ≡ suc (length c)
  size = length-append c (z ∷ []) ∙ add-one (length c)

  each : (j : ℕ) → j < suc n → nat_abs (get_or (c ++ (z ∷ [])) j (pos 0)) % 2 ^ (j - 1) ≡ 0
  each j below = (whole_exactly_if Chebyshev (c ++ (z ∷ []))).0 all j (omega (arith, size))

  -- z = q·2^(n-1)
  last : q *ℤ row n ≡ z
  last =
      ap (q *ℤ◌) (row_leads n)
      ∙ quotient_exact z (2 ^ (n - 1)) (ap (λ (y : ℤ). nat_abs y % 2 ^ (n - 1)) (sym (get_or_at c z [] (pos 0) n refl)) ∙ each n (omega arith))

  -- what is left is whole
  left_whole : is_whole Chebyshev (less_t n q c) ≡ true
  left_whole = (whole_exactly_if Chebyshev (less_t n q c)).1
      (λ j below. at_place j (omega (arith, length_tabulate n (λ i. get_or c i (pos 0) -ℤ q *ℤ row i))))
    where
      at_place : (j : ℕ) → j < n → nat_abs (get_or (less_t n q c) j (pos 0)) % 2 ^ (j - 1) ≡ 0
      at_place j below =
          let m = pos (2 ^ (j - 1)) in
          let p = quot_z (get_or c j (pos 0)) m in
          let mine : p *ℤ m ≡ get_or c j (pos 0) = quotient_exact (get_or c j (pos 0)) (2 ^ (j - 1))
          (ap (λ (y : ℤ). nat_abs y % 2 ^ (j - 1)) (sym (get_or-append c (z ∷ []) (pos 0) j below)) ∙ each j (omega arith)) in
          let theirs = row_multiple n j in
          multiple_none (get_or (less_t n q c) j (pos 0)) (p -ℤ q *ℤ theirs.0) (2 ^ (j - 1))
          (get_d_tabulate n (λ i. get_or c i (pos 0) -ℤ q *ℤ row i) j (pos 0) below
          ∙ from integers (get_or c j (pos 0) ∷ q ∷ row j ∷ p ∷ theirs.0 ∷ m ∷ [])
          (λ c q r p t m. c :- q :* r := (p :- q :* t) :* m)
          (λ c q r p t m. (:- num 1, p :* m := c) ∷ (:- q, r := t :* m) ∷ [])
          refl (mine, (theirs.1, tt)))

  -- its value
  left_value : (x : ℤ) → value whole_ops Monomial x (less_t n q c) ≡ value whole_ops Monomial x c -ℤ q *ℤ sum whole_ops (λ i. row i *ℤ pow whole_ops x i) n
  left_value x =
      let long : length (less_t n q c) ≡ n = length_tabulate n (λ i. get_or c i (pos 0) -ℤ q *ℤ row i) in
      dot_is integers (pow whole_ops x) (less_t n q c) (λ i. get_or c i (pos 0) -ℤ q *ℤ row i) n (omega arith)
      (λ j below. get_d_tabulate n (λ i. get_or c i (pos 0) -ℤ q *ℤ row i) j (pos 0) below)
      ∙ sum_ext whole_ops _ (λ i. get_or c i (pos 0) *ℤ pow whole_ops x i -ℤ q *ℤ (row i *ℤ pow whole_ops x i)) n
      (λ i below. ring integers (get_or c i (pos 0) ∷ q ∷ row i ∷ pow whole_ops x i ∷ []) (λ c q r p. (c :- q :* r) :* p := c :* p :- q :* (r :* p)) refl)
      ∙ sum_sub integers (λ i. get_or c i (pos 0) *ℤ pow whole_ops x i) (λ i. q *ℤ (row i *ℤ pow whole_ops x i)) n
      ∙ ap₂ ◌-ℤ◌ (dot_past integers (pow whole_ops x) c n (omega arith)) (sum_mul integers q (λ i. row i *ℤ pow whole_ops x i) n)

  same_value : (x : ℤ) → value whole_ops Chebyshev x (converted Chebyshev (less_t n q c) ++ (q ∷ [])) ≡ value whole_ops Monomial x (c ++ (z ∷ []))
  same_value x =
      let kept = values_kept Chebyshev (less_t n q c) left_whole in
      let long : length (converted Chebyshev (less_t n q c)) ≡ n = kept.same_length ∙ length_tabulate n (λ i. get_or c i (pos 0) -ℤ q *ℤ row i) in
      let below = sum whole_ops (λ i. row i *ℤ pow whole_ops x i) n in
      value_snoc Chebyshev x (converted Chebyshev (less_t n q c)) q
      ∙ ap₂ (λ (v : ℤ) (k : ℕ). v +ℤ q *ℤ cheb whole_ops x k) (kept.at_wholes x ∙ left_value x) long
      ∙ from integers (value whole_ops Monomial x c ∷ q ∷ below ∷ cheb whole_ops x n ∷ row n ∷ pow whole_ops x n ∷ z ∷ [])
      (λ v q s t r p z. v :- q :* s :+ q :* t := v :+ z :* p)
      (λ v q s t r p z. (:- q, s :+ r :* p := num 1 :* t) ∷ (p, q :* r := z) ∷ [])
      refl (sym (sum_suc whole_ops (λ i. row i *ℤ pow whole_ops x i) n) ∙ rows_law integers Monomial x n (suc n) (omega arith), (last, tt))
      ∙ sym (value_snoc Monomial x c z)

  top_first : TopFirst c z
  top_first =
      let kept = values_kept Chebyshev (less_t n q c) left_whole in
      let long : length (converted Chebyshev (less_t n q c)) ≡ n = kept.same_length ∙ length_tabulate n (λ i. get_or c i (pos 0) -ℤ q *ℤ row i) in
      let longer : length (converted Chebyshev (less_t n q c) ++ (q ∷ [])) ≡ length (c ++ (z ∷ [])) =
      length-append (converted Chebyshev (less_t n q c)) (q ∷ []) ∙ ap (λ (k : ℕ). k + 1) long ∙ sym (length-append c (z ∷ [])) in
      record {
        last = last;
        whole = left_whole;
        is = sym (only_one Chebyshev (c ++ (z ∷ [])) (converted Chebyshev (less_t n q c) ++ (q ∷ [])) longer same_value).these;
      }

pub from_the_top : FromTheTop
from_the_top c z all = top_first c z all
