-- T_(2k+1)(x) = x·R_k(T_2(x)), where R_k has the coefficients coeffR k i, none of them above k. Both sides obey one recurrence in k.
use mathlib.Core.Path.{◌≡◌, refl, sym, ◌∙◌, ap, ap₂}
use mathlib.Core.List.{[], ◌∷◌}
use Prim.Native.Nat.{ℕ, zero, suc, ◌+◌, ◌<◌}
use native.Mathlib.Omega.{arith}
use Rattle.algebra.specs.Fold.{times2_t1, coeff_r}
use Rattle.algebra.specs.Operations.{two, double}
use Rattle.algebra.specs.Power.{cheb}
use Rattle.algebra.specs.Ring.{Ring}
use Rattle.algebra.specs.Value.{sum}
use Rattle.algebra.proofs.Chebyshev.{cheb_zero, cheb_one, cheb_step, cheb_four_on}
use Rattle.algebra.proofs.OddCoefficients.{coeff_step, coeff_above}
use Rattle.algebra.proofs.RingLaws as R
use Rattle.algebra.proofs.Solve.{◌:=◌, num, ◌:+◌, ◌:-◌, ◌:*◌, :-◌, ring, from}
use Rattle.algebra.proofs.Sums.{sum_none, sum_suc, sum_ext, sum_sub, sum_past}

module _ {A : Type 0} (𝓡 : Ring A) where
  open 𝓡 use {ops}
  open ops use {one as 𝟙, add as ◌⊕◌, sub as ◌⊖◌, mul as ◌⊗◌, neg as ⊝◌}

  infixl 6 ◌⊕◌
  infixl 6 ◌⊖◌
  infixl 7 ◌⊗◌
  infix 8 ⊝◌
  module _ (y : A) where
    -- r_0·T_0 + .. + r_(n-1)·T_(n-1)
    abbrev pub series : (ℕ → A) → ℕ → A
    series r n = sum ops (λ i. r i ⊗ cheb ops y i) n

    series_suc : (r : ℕ → A) (n : ℕ) → series r (suc n) ≡ series r n ⊕ r n ⊗ cheb ops y n
    series_suc r n = sum_suc ops (λ i. r i ⊗ cheb ops y i) n

    series_one : (r : ℕ → A) → series r 1 ≡ r 0
    series_one r =
        series_suc r 0 ∙ ap₂ ◌⊕◌ (sum_none ops (λ i. r i ⊗ cheb ops y i)) (ap (r 0 ⊗◌) (cheb_zero ops y) ∙ 𝓡.mul-one (r 0)) ∙ R.zero-add 𝓡 (r 0)

    series_two : (r : ℕ → A) → series r 2 ≡ r 0 ⊕ r 1 ⊗ y
    series_two r = series_suc r 1 ∙ ap₂ ◌⊕◌ (series_one r) (ap (r 1 ⊗◌) (cheb_one ops y))

    -- times2T1 makes the coefficients of 2y times the series; the last two terms are those that m + 2 of them leave out
    pub series_times : (r : ℕ → A) (m : ℕ)
        → series (times2_t1 ops r) (suc (suc m)) ≡ double ops y ⊗ series r (suc m) ⊕ r (suc m) ⊗ cheb ops y m ⊕ r (suc (suc m)) ⊗ cheb ops y (suc m)
    series_times r zero =
        series_two (times2_t1 ops r)
        ∙ from 𝓡 (r 0 ∷ r 1 ∷ r 2 ∷ cheb ops y 0 ∷ cheb ops y 1 ∷ y ∷ series r 1 ∷ [])
        (λ a b c t u y s. num 0 :+ b :+ (num 0 :+ num 2 :* a :+ c) :* y := num 2 :* y :* s :+ b :* t :+ c :* u)
        (λ a b c t u y s. (:- b, t := num 1) ∷ (:- c, u := y) ∷ (:- (num 2 :* y), s := a) ∷ [])
        refl (cheb_zero ops y, (cheb_one ops y, (series_one r, tt)))
    series_times r (suc m) =
        from 𝓡
        (series (times2_t1 ops r) (suc (suc (suc m))) ∷ series (times2_t1 ops r) (suc (suc m)) ∷ series r (suc (suc m)) ∷ series r (suc m)
        ∷ r (suc m) ∷ r (suc (suc m)) ∷ r (suc (suc (suc m))) ∷ cheb ops y m ∷ cheb ops y (suc m) ∷ cheb ops y (suc (suc m)) ∷ y ∷ [])
        (λ M₃ M₂ S₂ S₁ a b c t u v y. M₃ := num 2 :* y :* S₂ :+ b :* u :+ c :* v)
        (λ M₃ M₂ S₂ S₁ a b c t u v y.
        (num 1, M₃ := M₂ :+ (num 0 :+ a :+ c) :* v)
        ∷ (num 1, M₂ := num 2 :* y :* S₁ :+ a :* t :+ b :* u)
        ∷ (:- (num 2 :* y), S₂ := S₁ :+ a :* u)
        ∷ (a, v := num 2 :* y :* u :- t)
        ∷ [])
        refl (series_suc (times2_t1 ops r) (suc (suc m)), (series_times r m, (series_suc r (suc m), (cheb_step ops y m, tt))))

    -- R_k at y
    abbrev pub value_r : ℕ → A
    value_r k = sum ops (λ i. coeff_r ops k i ⊗ cheb ops y i) (suc k)

    -- the sum may run past k
    pub value_r_past : (k n : ℕ) → k < n → sum ops (λ i. coeff_r ops k i ⊗ cheb ops y i) n ≡ value_r k
    value_r_past k n h =
        sum_past 𝓡 (λ i. coeff_r ops k i ⊗ cheb ops y i) (suc k) n h (λ j g. ap (◌⊗ cheb ops y j) (coeff_above 𝓡 k j g) ∙ R.zero-mul 𝓡 (cheb ops y j))

    -- R_0 = 1
    pub value_r_zero : value_r 0 ≡ 𝟙
    unfolding coeff_r
    value_r_zero = series_one (coeff_r ops 0)

    -- R_1 = 2y - 1
    pub value_r_one : value_r 1 ≡ ⊝ 𝟙 ⊕ two ops ⊗ y
    unfolding coeff_r
    value_r_one = series_two (coeff_r ops 1)

    -- R_(k+2) = 2y·R_(k+1) - R_k
    pub value_r_step : (k : ℕ) → value_r (suc (suc k)) ≡ double ops y ⊗ value_r (suc k) ⊖ value_r k
    value_r_step k =
        sum_ext ops (λ i. coeff_r ops (suc (suc k)) i ⊗ cheb ops y i) (λ i. raised i ⊗ cheb ops y i ⊖ coeff_r ops k i ⊗ cheb ops y i) (suc (suc (suc k)))
        (λ i h. ap (◌⊗ cheb ops y i) (coeff_step ops k i)
        ∙ ring 𝓡 (raised i ∷ coeff_r ops k i ∷ cheb ops y i ∷ []) (λ a b t. (a :- b) :* t := a :* t :- b :* t) refl)
        ∙ sum_sub 𝓡 (λ i. raised i ⊗ cheb ops y i) (λ i. coeff_r ops k i ⊗ cheb ops y i) (suc (suc (suc k)))
        ∙ ap₂ ◌⊖◌ whole_series (value_r_past k (suc (suc (suc k))) (omega arith))
      where
        raised : ℕ → A
        raised i = times2_t1 ops (coeff_r ops (suc k)) i

        whole_series : series raised (suc (suc (suc k))) ≡ double ops y ⊗ value_r (suc k)
        whole_series =
            series_times (coeff_r ops (suc k)) (suc k)
            ∙ from 𝓡
            (y ∷ value_r (suc k) ∷ coeff_r ops (suc k) (suc (suc k)) ∷ coeff_r ops (suc k) (suc (suc (suc k)))
            ∷ cheb ops y (suc k) ∷ cheb ops y (suc (suc k)) ∷ [])
            (λ y s a b t u. num 2 :* y :* s :+ a :* t :+ b :* u := num 2 :* y :* s)
            (λ y s a b t u. (t, a := num 0) ∷ (u, b := num 0) ∷ [])
            refl (coeff_above 𝓡 (suc k) (suc (suc k)) (omega arith), (coeff_above 𝓡 (suc k) (suc (suc (suc k))) (omega arith), tt))

  -- T_(2k+1)(x) = x·R_k(T_2(x))
  pub cheb_odd : (x : A) (k : ℕ) → cheb ops x (suc (k + k)) ≡ x ⊗ value_r (cheb ops x 2) k
  cheb_odd x zero = cheb_one ops x ∙ sym (ap (x ⊗◌) (value_r_zero (cheb ops x 2)) ∙ 𝓡.mul-one x)
  cheb_odd x (suc zero) =
      cheb_step ops x 1
      ∙ ap (λ u. double ops x ⊗ cheb ops x 2 ⊖ u) (cheb_one ops x)
      ∙ ring 𝓡 (x ∷ cheb ops x 2 ∷ []) (λ x y. num 2 :* x :* y :- x := x :* (:- num 1 :+ num 2 :* y)) refl
      ∙ ap (x ⊗◌) (sym (value_r_one (cheb ops x 2)))
  cheb_odd x (suc (suc k)) =
      let y : A = cheb ops x 2 in
      let near : suc (suc (suc (k + k))) ≡ suc (suc k + suc k) = omega arith in
      let far : suc (suc (suc k) + suc (suc k)) ≡ suc (suc (suc (suc (suc (k + k))))) = omega arith in
      ap (cheb ops x) far
      ∙ cheb_four_on 𝓡 x (suc (k + k))
      ∙ ap₂ (λ u v. double ops y ⊗ u ⊖ v) (ap (cheb ops x) near ∙ cheb_odd x (suc k)) (cheb_odd x k)
      ∙ ring 𝓡 (x ∷ y ∷ value_r y (suc k) ∷ value_r y k ∷ []) (λ x y a b. num 2 :* y :* (x :* a) :- x :* b := x :* (num 2 :* y :* a :- b)) refl
      ∙ ap (x ⊗◌) (sym (value_r_step y k))
