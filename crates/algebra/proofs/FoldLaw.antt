-- A fold keeps the value: at y = x² or T_2(x), and times x where the parity is Odd, the folded polynomial is the one that was folded.
-- The coefficients at places of the other parity are zero, so every second term is left, and
-- x^2k = y^k, T_2k(x) = T_k(y), x^(2k+1) = x·y^k, T_(2k+1)(x) = x·R_k(y).
use mathlib.Core.Path.{◌≡◌, refl, sym, ◌∙◌, ap, ap₂}
use mathlib.Core.List.{List, [], ◌∷◌}
use mathlib.Core.Bool.{false}
use Prim.Native.Nat.{ℕ, suc, ◌+◌, ◌%◌, ◌<◌}
use native.Mathlib.Nat.{add-zero, zero-add, add-suc, suc-add}
use native.Mathlib.Omega.{arith}
use borrow.Author.Tests.{eqb-false, ne_eqb}
use lib.ListN.{length, get_or, take, drop, length-take}
use Rattle.algebra.specs.Allowed.{allows, HasParity}
use Rattle.algebra.specs.Fold.{every_second, coeff_r, add_r, sum_rFrom, fold}
use Rattle.algebra.specs.FoldLaw.{FoldLaw}
use Rattle.algebra.specs.Power.{pow, cheb}
use Rattle.algebra.specs.Ring.{Ring}
use Rattle.algebra.specs.Transform.{transform_of, input_of, output_of}
use Rattle.algebra.specs.Value.{sum, dot, value}
use Rattle.algebra.specs.declared.Basis.{Basis}
use Rattle.algebra.specs.declared.Basis.TheVariants.{Monomial, Chebyshev}
use Rattle.algebra.specs.declared.Parity.{Parity}
use Rattle.algebra.specs.declared.Parity.TheVariants.{Full, Even, Odd}
use Rattle.algebra.proofs.Chebyshev.{cheb_two, cheb_even}
use Rattle.algebra.proofs.FoldPlaces.{length_sum_rFrom, get_d_sum_rFrom}
use Rattle.algebra.proofs.OddChebyshev.{value_r, value_r_past, cheb_odd}
use Rattle.algebra.proofs.OddCoefficients.{coeff_above}
use Rattle.algebra.proofs.Parities.{allows_same}
use Rattle.algebra.proofs.Powers.{pow_double, pow_odd}
use Rattle.algebra.proofs.RingLaws as R
use Rattle.algebra.proofs.Solve.{◌:=◌, ◌:*◌, ring}
use Rattle.algebra.proofs.Sums.{sum_ext, sum_mul, sum_swap, dot_nil, dot_cons, dot_ext, dot_mul, dot_zeros, dot_split, dot_is}

module _ {A : Type 0} (𝓡 : Ring A) where
  open 𝓡 use {ops}
  open ops use {zero as 𝟘, add as ◌⊕◌, mul as ◌⊗◌}

  infixl 6 ◌⊕◌
  infixl 7 ◌⊗◌
  -- ---- every second term is left

  even_terms : (b : ℕ → A) (c : List A) → HasParity ops Even c → dot ops b c ≡ dot ops (λ k. b (k + k)) (every_second c)
  unfolding every_second allows
  even_terms b [] fits = dot_nil ops b ∙ sym (dot_nil ops (λ k. b (k + k)))
  even_terms b (a ∷ []) fits =
      dot_cons 𝓡 b a [] ∙ ap (a ⊗ b 0 ⊕◌) (dot_nil ops (λ j. b (suc j)) ∙ sym (dot_nil ops (λ k. b (suc k + suc k)))) ∙ sym (dot_cons 𝓡 (λ k. b (k + k)) a [])
  even_terms b (a ∷ d ∷ c) fits =
      dot_cons 𝓡 b a (d ∷ c)
      ∙ ap (a ⊗ b 0 ⊕◌)
      (dot_cons 𝓡 (λ j. b (suc j)) d c
      ∙ ap (λ v. v ⊗ b 1 ⊕ rest) (fits 1 refl)
      ∙ ap (◌⊕ rest) (R.zero-mul 𝓡 (b 1))
      ∙ R.zero-add 𝓡 rest
      ∙ even_terms (λ j. b (suc (suc j))) c (λ j w. fits (suc (suc j)) (allows_same Even (suc (suc j)) j (two_on j) ∙ w))
      ∙ dot_ext ops (λ k. b (suc (suc (k + k)))) (λ k. b (suc k + suc k)) (every_second c) (λ k. ap b (twice_suc k)))
      ∙ sym (dot_cons 𝓡 (λ k. b (k + k)) a (every_second c))
    where
      rest : A
      rest = dot ops (λ j. b (suc (suc j))) c

      two_on : (j : ℕ) → suc (suc j) % 2 ≡ j % 2
      two_on j = omega arith

      twice_suc : (k : ℕ) → suc (suc (k + k)) ≡ suc k + suc k
      twice_suc k = omega arith

  odd_terms : (b : ℕ → A) (c : List A) → HasParity ops Odd c → dot ops b c ≡ dot ops (λ k. b (suc (k + k))) (every_second (drop 1 c))
  unfolding every_second allows
  odd_terms b [] fits = dot_nil ops b ∙ sym (dot_nil ops (λ k. b (suc (k + k))))
  odd_terms b (a ∷ c) fits =
      dot_cons 𝓡 b a c
      ∙ ap (λ v. v ⊗ b 0 ⊕ rest) (fits 0 refl)
      ∙ ap (◌⊕ rest) (R.zero-mul 𝓡 (b 0))
      ∙ R.zero-add 𝓡 rest
      ∙ even_terms (λ j. b (suc j)) c (λ j w. fits (suc j) (one_on j w))
    where
      rest : A
      rest = dot ops (λ j. b (suc j)) c

      one_on : (j : ℕ) → allows Even j ≡ false → allows Odd (suc j) ≡ false
      one_on j w = ne_eqb (suc j % 2) 1 (λ e. eqb-false (j % 2) 0 w (omega arith))

  -- ---- Σ o_k·R_k

  add_r_is : (i k : ℕ) (acc : A) (os : List A) → add_r ops i k acc os ≡ acc ⊕ dot ops (λ m. coeff_r ops (k + m) i) os
  unfolding add_r
  add_r_is i k acc [] = sym (ap (acc ⊕◌) (dot_nil ops (λ m. coeff_r ops (k + m) i)) ∙ 𝓡.add-zero acc)
  add_r_is i k acc (o ∷ os) =
      add_r_is i (suc k) (acc ⊕ o ⊗ coeff_r ops k i) os
      ∙ 𝓡.add_assoc acc (o ⊗ coeff_r ops k i) (dot ops (λ m. coeff_r ops (suc k + m) i) os)
      ∙ ap (acc ⊕◌)
      (ap₂ (λ n t. o ⊗ coeff_r ops n i ⊕ t) (sym (add-zero k))
      (dot_ext ops (λ m. coeff_r ops (suc k + m) i) (λ m. coeff_r ops (k + suc m) i) os (λ m. ap (λ n. coeff_r ops n i) (suc-add k m ∙ sym (add-suc k m))))
      ∙ sym (dot_cons 𝓡 (λ m. coeff_r ops (k + m) i) o os))

  -- coefficient i of Σ o_k·R_k is Σ o_k·R_k[i], over all k: R_k has none above k
  pub sum_r_place : (o : List A) (i : ℕ) → i < length o → get_or (sum_rFrom ops 0 o) i 𝟘 ≡ dot ops (λ k. coeff_r ops k i) o
  sum_r_place o i h =
      get_d_sum_rFrom ops 0 o i 𝟘 h
      ∙ ap (λ n. add_r ops n n 𝟘 (drop i o)) (zero-add i)
      ∙ add_r_is i i 𝟘 (drop i o)
      ∙ ap (◌⊕ dot ops (λ m. coeff_r ops (i + m) i) (drop i o))
      (sym (dot_zeros 𝓡 (λ k. coeff_r ops k i) (take i o) (λ k g. coeff_above 𝓡 k i (omega (arith, length-take i o)))))
      ∙ sym (dot_split 𝓡 (λ k. coeff_r ops k i) i o)

  sum_r_value : (y : A) (o : List A) → dot ops (value_r 𝓡 y) o ≡ dot ops (cheb ops y) (sum_rFrom ops 0 o)
  unfolding dot
  sum_r_value y o =
      sum_ext ops (λ k. get_or o k 𝟘 ⊗ value_r 𝓡 y k) (λ k. sum ops (term k) (length o)) (length o)
      (λ k h. ap (get_or o k 𝟘 ⊗◌) (sym (value_r_past 𝓡 y k (length o) h)) ∙ sym (sum_mul 𝓡 (get_or o k 𝟘) (λ i. coeff_r ops k i ⊗ cheb ops y i) (length o)))
      ∙ sum_swap 𝓡 term (length o) (length o)
      ∙ sum_ext ops (λ i. sum ops (λ k. term k i) (length o)) (λ i. column i ⊗ cheb ops y i) (length o) (λ i h. column_is i)
      ∙ sym (dot_is 𝓡 (cheb ops y) (sum_rFrom ops 0 o) column (length o) (omega (arith, length_sum_rFrom ops 0 o)) (sum_r_place o))
    where
      term : ℕ → ℕ → A
      term k i = get_or o k 𝟘 ⊗ (coeff_r ops k i ⊗ cheb ops y i)

      column : ℕ → A
      column i = dot ops (λ k. coeff_r ops k i) o

      column_is : (i : ℕ) → sum ops (λ k. term k i) (length o) ≡ column i ⊗ cheb ops y i
      column_is i =
          sum_ext ops (λ k. term k i) (λ k. cheb ops y i ⊗ (get_or o k 𝟘 ⊗ coeff_r ops k i)) (length o)
          (λ k h. ring 𝓡 (get_or o k 𝟘 ∷ coeff_r ops k i ∷ cheb ops y i ∷ []) (λ a b t. a :* (b :* t) := t :* (a :* b)) refl)
          ∙ sum_mul 𝓡 (cheb ops y i) (λ k. get_or o k 𝟘 ⊗ coeff_r ops k i) (length o)
          ∙ 𝓡.mul_comm (cheb ops y i) (column i)

  -- ---- the law

  -- the value at x, from that of the fold at y
  pub fold_value : (parity : Parity) (basis : Basis) (x : A) (c : List A) → HasParity ops parity c
      → output_of ops (transform_of parity basis) x (value ops basis (input_of ops (transform_of parity basis) x) (fold ops parity basis c))
      ≡ value ops basis x c
  unfolding fold transform_of input_of output_of
  fold_value Full Monomial x c fits = refl
  fold_value Full Chebyshev x c fits = refl
  fold_value Even Monomial x c fits =
      sym (even_terms (pow ops x) c fits ∙ dot_ext ops (λ k. pow ops x (k + k)) (pow ops (x ⊗ x)) (every_second c) (pow_double 𝓡 x))
  fold_value Even Chebyshev x c fits =
      ap (λ y. dot ops (cheb ops y) (every_second c)) (sym (cheb_two 𝓡 x))
      ∙ sym (even_terms (cheb ops x) c fits ∙ dot_ext ops (λ k. cheb ops x (k + k)) (cheb ops (cheb ops x 2)) (every_second c) (cheb_even 𝓡 x))
  fold_value Odd Monomial x c fits =
      sym (odd_terms (pow ops x) c fits
      ∙ dot_ext ops (λ k. pow ops x (suc (k + k))) (λ k. x ⊗ pow ops (x ⊗ x) k) (every_second (drop 1 c)) (pow_odd 𝓡 x)
      ∙ dot_mul 𝓡 x (pow ops (x ⊗ x)) (every_second (drop 1 c)))
  fold_value Odd Chebyshev x c fits =
      ap (λ y. x ⊗ dot ops (cheb ops y) (sum_rFrom ops 0 (every_second (drop 1 c)))) (sym (cheb_two 𝓡 x))
      ∙ sym (odd_terms (cheb ops x) c fits
      ∙ dot_ext ops (λ k. cheb ops x (suc (k + k))) (λ k. x ⊗ value_r 𝓡 (cheb ops x 2) k) (every_second (drop 1 c)) (cheb_odd 𝓡 x)
      ∙ dot_mul 𝓡 x (value_r 𝓡 (cheb ops x 2)) (every_second (drop 1 c))
      ∙ ap (x ⊗◌) (sum_r_value (cheb ops x 2) (every_second (drop 1 c))))

pub fold_law : {A : Type 0} (𝓡 : Ring A) → FoldLaw 𝓡
fold_law 𝓡 parity basis x c fits = fold_value 𝓡 parity basis x c fits
