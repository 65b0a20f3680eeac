-- The promises are kept. The value is the same, since a row's sum is the other basis's element times its denominator, and a quotient times the denominator is
-- the coefficient. There is no other list, since two polynomials of one length with the same values are the same.
use mathlib.Core.Path.{◌≡◌, refl, sym, ◌∙◌, ap, ap₂, subst}
use mathlib.Core.Bool.{Bool, true, false, true≢false}
use mathlib.Core.List.{List, [], ◌∷◌, map, map-id}
use Prim.Native.Nat.{ℕ, zero, suc, ◌-◌, ◌^◌, ◌%◌, ◌<◌}
use native.Mathlib.Nat.{mod-one, pow-zero, pow-succ'}
use native.Mathlib.Omega.{arith}
use lib.IntN.{ℤ, pos, nat_abs, ◌*ℤ◌}
use lib.ListN.{length, get_or, length-map, get_or-map}
use lib.Seq.{ext_get_or}
use Rattle.algebra.specs.Operations.{whole_ops}
use Rattle.algebra.specs.Power.{pow, power}
use Rattle.algebra.specs.Ring.{Ring}
use Rattle.algebra.specs.Value.{sum, value}
use Rattle.algebra.specs.declared.Basis.{Basis}
use Rattle.algebra.specs.declared.Basis.TheVariants.{Monomial, Chebyshev}
use Rattle.algebra.specs.Homomorphism.{Homomorphism}
use Rattle.algebra.proofs.Homomorphism.{hom_pow, hom_sum}
use Rattle.algebra.proofs.Integers.{integers}
use Rattle.algebra.proofs.Solve.{◌:=◌, ◌:*◌, ring}
use Rattle.algebra.proofs.Sums.{sum_ext, sum_mul, sum_swap, dot_is}
use Rattle.bases.specs.Rows.{other, denominator, row_of}
use Rattle.bases.specs.RowsLaw.{denominator_in}
use Rattle.bases.specs.Convert.{is_whole, quotient_of, new_coefficient, converted}
use Rattle.bases.specs.Promises.{SameAtWholes, ValuesKept, OnlyOne, NoneWhole, ThereAndBack}
use Rattle.bases.proofs.Rows.{hom_row, row_multiple}
use Rattle.bases.proofs.RowsLaw.{rows_law}
use Rattle.bases.proofs.Unique.{same_powers, mixed, same_mixed}
use Rattle.bases.proofs.Convert.{length_tabulate, get_d_tabulate, quotient_exact, quotient_one, multiple_none, sum_multiple, whole_exactly_if}

-- ---- the value is kept

two_power : (k : ℕ) → pow whole_ops (pos 2) k ≡ pos (2 ^ k)
unfolding pow
two_power zero = ap pos (sym (pow-zero 2))
two_power (suc k) = ap (pos 2 *ℤ◌) (two_power k) ∙ ap pos (sym (pow-succ' 2 k))

whole_denominator : (to : Basis) (n : ℕ) → denominator_in whole_ops to n ≡ pos (denominator to n)
whole_denominator Monomial n = refl
whole_denominator Chebyshev n = two_power (n - 1)

module _ {B : Type 0} (𝓡 : Ring B) (φ : ℤ → B) (H : Homomorphism whole_ops 𝓡.ops φ) (x : B) where
  open 𝓡 use {ops}
  open ops use {zero as 𝟘, add as ◌⊕◌, mul as ◌⊗◌}

  infixl 6 ◌⊕◌
  infixl 7 ◌⊗◌
  hom_denominator : (to : Basis) (n : ℕ) → φ (pos (denominator to n)) ≡ denominator_in ops to n
  hom_denominator Monomial n = H.one
  hom_denominator Chebyshev n =
      ap φ (sym (two_power (n - 1))) ∙ hom_pow H (pos 2) (n - 1)
      ∙ ap (λ (t : B). pow ops t (n - 1)) (H.add (pos 1) (pos 1) ∙ ap₂ ◌⊕◌ H.one H.one)

  sum_right : (f : ℕ → B) (p : B) (n : ℕ) → sum ops f n ⊗ p ≡ sum ops (λ j. p ⊗ f j) n
  sum_right f p n = 𝓡.mul_comm (sum ops f n) p ∙ sym (sum_mul 𝓡 p f n)

  module _ (to : Basis) (c : List ℤ) where
    -- coefficient j divided by its denominator
    abbrev a : ℕ → B
    a j = φ (quotient_of to j (get_or c j (pos 0)))

    abbrev row : ℕ → ℕ → B
    row j i = row_of ops to j i

    abbrev P : ℕ → B
    P i = power ops to x i

    new_is : (i : ℕ) → φ (new_coefficient to c i) ≡ sum ops (λ j. a j ⊗ row j i) (length c)
    unfolding new_coefficient
    new_is i =
        hom_sum H (λ j. quotient_of to j (get_or c j (pos 0)) *ℤ row_of whole_ops to j i) (length c)
        ∙ sum_ext ops _ (λ j. a j ⊗ row j i) (length c) (λ j below. H.mul _ _ ∙ ap (a j ⊗◌) (hom_row H to j i))

    new_places : (i : ℕ) → i < length c → get_or (map φ (converted to c)) i 𝟘 ≡ sum ops (λ j. a j ⊗ row j i) (length c)
    new_places i below =
        ap (get_or (map φ (converted to c)) i) (sym H.zero)
        ∙ get_or-map φ (converted to c) i (pos 0)
        ∙ ap φ (get_d_tabulate (length c) (new_coefficient to c) i (pos 0) below)
        ∙ new_is i

    value_new : value ops to x (map φ (converted to c)) ≡ sum ops (λ j. a j ⊗ sum ops (λ i. row j i ⊗ P i) (length c)) (length c)
    value_new =
        let size : length (map φ (converted to c)) ≡ length c = length-map (converted to c) φ ∙ length_tabulate (length c) (new_coefficient to c) in
        dot_is 𝓡 P (map φ (converted to c)) (λ i. sum ops (λ j. a j ⊗ row j i) (length c)) (length c) (omega arith) new_places
        ∙ sum_ext ops _ (λ i. sum ops (λ j. a j ⊗ (row j i ⊗ P i)) (length c)) (length c)
        (λ i below. sum_right (λ j. a j ⊗ row j i) (P i) (length c)
        ∙ sum_ext ops _ (λ j. a j ⊗ (row j i ⊗ P i)) (length c)
        (λ j under. ring 𝓡 (a j ∷ row j i ∷ P i ∷ []) (λ a r p. p :* (a :* r) := a :* (r :* p)) refl))
        ∙ sum_swap 𝓡 (λ i j. a j ⊗ (row j i ⊗ P i)) (length c) (length c)
        ∙ sum_ext ops _ (λ j. a j ⊗ sum ops (λ i. row j i ⊗ P i) (length c)) (length c)
        (λ j below. sum_mul 𝓡 (a j) (λ i. row j i ⊗ P i) (length c))

    value_kept : is_whole to c ≡ true → value ops to x (map φ (converted to c)) ≡ value ops (other to) x (map φ c)
    value_kept whole =
        let size : length (map φ c) ≡ length c = length-map c φ in
        value_new
        ∙ sum_ext ops _ (λ j. φ (get_or c j (pos 0)) ⊗ power ops (other to) x j) (length c)
        (λ j below.
        ap (a j ⊗◌) (rows_law 𝓡 to x j (length c) below)
        ∙ sym (𝓡.mul_assoc (a j) (denominator_in ops to j) (power ops (other to) x j))
        ∙ ap (◌⊗ power ops (other to) x j)
        (ap (a j ⊗◌) (sym (hom_denominator to j)) ∙ sym (H.mul _ _)
        ∙ ap φ (quotient_exact (get_or c j (pos 0)) (denominator to j) ((whole_exactly_if to c).0 whole j below))))
        ∙ sym (dot_is 𝓡 (power ops (other to) x) (map φ c) (λ j. φ (get_or c j (pos 0))) (length c) (omega arith)
        (λ j below. ap (get_or (map φ c) j) (sym H.zero) ∙ get_or-map φ c j (pos 0)))

whole_homomorphism : Homomorphism whole_ops whole_ops (λ z. z)
whole_homomorphism = record {
  zero = refl;
  one = refl;
  add = λ a b. refl;
  sub = λ a b. refl;
  mul = λ a b. refl;
  neg = λ a. refl;
}

kept_at_wholes : (to : Basis) (c : List ℤ) → is_whole to c ≡ true → SameAtWholes to c (converted to c)
kept_at_wholes to c whole x =
    ap (value whole_ops to x) (sym (map-id (converted to c)))
    ∙ value_kept integers (λ z. z) whole_homomorphism x to c whole
    ∙ ap (value whole_ops (other to) x) (map-id c)

pub values_kept : ValuesKept
values_kept to c whole = record {
  same_length = length_tabulate (length c) (new_coefficient to c);
  at_wholes = kept_at_wholes to c whole;
  everywhere = λ B 𝓡 φ H x. value_kept 𝓡 φ H x to c whole;
}

-- ---- there is no other

-- to the powers of x every conversion is whole
pub whole_powers : (c : List ℤ) → is_whole Monomial c ≡ true
whole_powers c = (whole_exactly_if Monomial c).1 (λ j below. mod-one (nat_abs (get_or c j (pos 0))))

only_powers : (c d : List ℤ) → length d ≡ length c → SameAtWholes Monomial c d → d ≡ converted Monomial c
only_powers c d size same =
    same_powers d (converted Monomial c) (size ∙ sym (length_tabulate (length c) (new_coefficient Monomial c)))
    (λ n. same (pos (suc n)) ∙ sym (kept_at_wholes Monomial c (whole_powers c) (pos (suc n))))

-- a place of it
powers_place : (d : List ℤ) (i : ℕ) → i < length d → get_or (converted Monomial d) i (pos 0) ≡ mixed (λ k. get_or d k (pos 0)) (length d) i
unfolding new_coefficient
powers_place d i below =
    get_d_tabulate (length d) (new_coefficient Monomial d) i (pos 0) below
    ∙ sum_ext whole_ops _ (λ k. get_or d k (pos 0) *ℤ row_of whole_ops Monomial k i) (length d)
    (λ k under. ap (◌*ℤ row_of whole_ops Monomial k i) (quotient_one (get_or d k (pos 0))))

-- what comes from the T_i can go back
back_whole : (d : List ℤ) → is_whole Chebyshev (converted Monomial d) ≡ true
back_whole d = (whole_exactly_if Chebyshev (converted Monomial d)).1
    (λ j below. at_place j (omega (arith, length_tabulate (length d) (new_coefficient Monomial d))))
  where
    term : (j k : ℕ) → (q : ℤ) × (get_or d k (pos 0) *ℤ row_of whole_ops Monomial k j ≡ q *ℤ pos (2 ^ (j - 1)))
    term j k =
        let is = row_multiple k j in
        (get_or d k (pos 0) *ℤ is.0, ap (get_or d k (pos 0) *ℤ◌) is.1 ∙ sym (integers.mul_assoc (get_or d k (pos 0)) is.0 (pos (2 ^ (j - 1)))))

    at_place : (j : ℕ) → j < length d → nat_abs (get_or (converted Monomial d) j (pos 0)) % 2 ^ (j - 1) ≡ 0
    at_place j below =
        let all = sum_multiple (λ k. get_or d k (pos 0) *ℤ row_of whole_ops Monomial k j) (2 ^ (j - 1)) (length d) (term j) in
        multiple_none (get_or (converted Monomial d) j (pos 0)) all.0 (2 ^ (j - 1)) (powers_place d j below ∙ all.1)

-- the same powers' coefficients come of the same T_i's
same_back : (d e : List ℤ) → length d ≡ length e → converted Monomial d ≡ converted Monomial e → d ≡ e
same_back d e size same =
    ext_get_or (pos 0) d e size
    (same_mixed (λ k. get_or d k (pos 0)) (λ k. get_or e k (pos 0)) (length d)
    (λ i below. sym (powers_place d i below) ∙ ap (λ (l : List ℤ). get_or l i (pos 0)) same ∙ powers_place e i (omega arith)
    ∙ ap (λ (n : ℕ). mixed (λ k. get_or e k (pos 0)) n i) (sym size)))

pub only_one : OnlyOne
only_one Monomial c d size same = record { whole = whole_powers c; these = only_powers c d size same }
only_one Chebyshev c d size same =
    let from_d : c ≡ converted Monomial d = only_powers d c (sym size) (λ x. sym (same x)) in
    let whole : is_whole Chebyshev c ≡ true = subst (λ (l : List ℤ). is_whole Chebyshev l ≡ true) (sym from_d) (back_whole d) in
    let long : length (converted Chebyshev c) ≡ length c = length_tabulate (length c) (new_coefficient Chebyshev c) in
    let from_new : c ≡ converted Monomial (converted Chebyshev c) =
    only_powers (converted Chebyshev c) c (sym long) (λ x. sym (kept_at_wholes Chebyshev c whole x)) in
    record { whole = whole; these = same_back d (converted Chebyshev c) (size ∙ sym long) (sym from_d ∙ from_new) }

pub none_whole : NoneWhole
none_whole to c = (
  λ not_whole_lem d size same. true≢false (sym (only_one to c d size same).whole ∙ not_whole_lem),
  λ none. by_test (is_whole to c) refl none,
)
  where
    by_test : (b : Bool) → is_whole to c ≡ b → ((d : List ℤ) → length d ≡ length c → SameAtWholes to c d → ⊥) → is_whole to c ≡ false
    by_test true whole none =
        let kept = values_kept to c whole in absurd (none (converted to c) kept.same_length kept.at_wholes)
    by_test false not_whole_lem none = not_whole_lem

pub there_and_back : ThereAndBack
there_and_back Monomial c whole =
    let kept = values_kept Monomial c whole in
    let is = only_one Chebyshev (converted Monomial c) c (sym kept.same_length) (λ x. sym (kept.at_wholes x)) in
    record { whole = is.whole; same = sym is.these }
there_and_back Chebyshev c whole =
    let kept = values_kept Chebyshev c whole in
    let is = only_one Monomial (converted Chebyshev c) c (sym kept.same_length) (λ x. sym (kept.at_wholes x)) in
    record { whole = is.whole; same = sym is.these }
