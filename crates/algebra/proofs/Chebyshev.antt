-- Laws of T_n: its equations, and in a ring 2·T_a·T_b = T_(a+b) + T_|a-b| and T_2k(x) = T_k(T_2(x)).
-- The product law goes by the recurrence T_(n+2) = 2x·T_(n+1) - T_n in the smaller index.
use mathlib.Core.Path.{◌≡◌, refl, sym, ◌∙◌, ap, ap₂}
use mathlib.Core.List.{[], ◌∷◌}
use Prim.Native.Nat.{ℕ, zero, suc, ◌+◌, ◌-◌, ◌≤◌}
use native.Mathlib.Nat.{add-zero, add-suc, suc-add}
use native.Mathlib.Numerals.{add-one}
use native.Mathlib.Decide.{dec_le}
use native.Mathlib.Omega.{arith}
use Rattle.algebra.specs.Distance.{distance_of}
use Rattle.algebra.specs.Operations.{Operations, double}
use Rattle.algebra.specs.Power.{cheb}
use Rattle.algebra.specs.Ring.{Ring}
use Rattle.algebra.proofs.Solve.{◌:=◌, num, ◌:+◌, ◌:-◌, ◌:*◌, :-◌, ring, from}

module _ {A : Type 0} (𝓞 : Operations A) (x : A) where
  -- T_0 = 1
  pub cheb_zero : cheb 𝓞 x 0 ≡ 𝓞.one
  unfolding cheb
  cheb_zero = refl

  -- T_1 = x
  pub cheb_one : cheb 𝓞 x 1 ≡ x
  unfolding cheb
  cheb_one = refl

  -- T_(n+2) = 2x·T_(n+1) - T_n
  pub cheb_step : (n : ℕ) → cheb 𝓞 x (suc (suc n)) ≡ 𝓞.sub (𝓞.mul (double 𝓞 x) (cheb 𝓞 x (suc n))) (cheb 𝓞 x n)
  unfolding cheb
  cheb_step n = refl

module _ {A : Type 0} (𝓡 : Ring A) where
  open 𝓡 use {ops}
  open ops use {one as 𝟙, add as ◌⊕◌, sub as ◌⊖◌, mul as ◌⊗◌}

  infixl 6 ◌⊕◌
  infixl 6 ◌⊖◌
  infixl 7 ◌⊗◌
  module _ (x : A) where
    abbrev T : ℕ → A
    T n = cheb ops x n

    -- T_2 = 2x² - 1
    pub cheb_two : cheb ops x 2 ≡ double ops (x ⊗ x) ⊖ 𝟙
    unfolding cheb
    cheb_two = ring 𝓡 (x ∷ []) (λ x. num 2 :* x :* x :- num 1 := num 2 :* (x :* x) :- num 1) refl

    -- 2·T_d·T_(n+d) = T_(n+2d) + T_n
    pub cheb_product : (d n : ℕ) → double ops (cheb ops x d ⊗ cheb ops x (n + d)) ≡ cheb ops x (n + d + d) ⊕ cheb ops x n
    cheb_product zero n = simp (add-zero, cheb_zero ops x) (ring 𝓡 (T n ∷ []) (λ t. num 2 :* (num 1 :* t) := t :+ t) refl)
    cheb_product (suc zero) n = simp (add-one, cheb_one ops x, cheb_step ops x)
        (ring 𝓡 (x ∷ T (suc n) ∷ T n ∷ []) (λ x t s. num 2 :* (x :* t) := num 2 :* x :* t :- s :+ s) refl)
    cheb_product (suc (suc d)) n =
        let one_less = simp (add-suc, suc-add) at (cheb_product (suc d) (suc n)) in
        let two_less = simp suc-add at (cheb_product d (suc (suc n))) in
        simp (add-suc, suc-add)
        (from 𝓡
        (x ∷ T (suc (suc d)) ∷ T (suc d) ∷ T d ∷ T (suc (suc (n + d))) ∷ T (suc (suc (suc (suc (n + d + d))))) ∷ T (suc (suc (suc (n + d + d))))
        ∷ T (suc (suc (n + d + d))) ∷ T (suc (suc n)) ∷ T (suc n) ∷ T n ∷ [])
        (λ x d₂ d₁ d₀ m s₄ s₃ s₂ n₂ n₁ n₀. num 2 :* (d₂ :* m) := s₄ :+ n₀)
        (λ x d₂ d₁ d₀ m s₄ s₃ s₂ n₂ n₁ n₀.
        (num 2 :* m, d₂ := num 2 :* x :* d₁ :- d₀)
        ∷ (num 2 :* x, num 2 :* (d₁ :* m) := s₃ :+ n₁)
        ∷ (:- num 1, num 2 :* (d₀ :* m) := s₂ :+ n₂)
        ∷ (:- num 1, s₄ := num 2 :* x :* s₃ :- s₂)
        ∷ (:- num 1, n₂ := num 2 :* x :* n₁ :- n₀)
        ∷ [])
        refl (cheb_step ops x d, (one_less, (two_less, (cheb_step ops x (suc (suc (n + d + d))), (cheb_step ops x n, tt))))))

    -- 2·T_a·T_b = T_(a+b) + T_c, with c the distance of a and b
    pub cheb_product_distance : (a b : ℕ) → double ops (cheb ops x a ⊗ cheb ops x b) ≡ cheb ops x (a + b) ⊕ cheb ops x (distance_of a b)
    cheb_product_distance a b = by_order (dec_le a b)
      where
        by_order : Dec (a ≤ b) → double ops (T a ⊗ T b) ≡ T (a + b) ⊕ T (distance_of a b)
        by_order (yes h) =
            let back : b - a + a ≡ b = omega arith in
            let total : b + a ≡ a + b = omega arith in
            let apart : b - a ≡ distance_of a b = omega arith in
            rw back at (cheb_product a (b - a)) ∙ ap₂ (λ m n. T m ⊕ T n) total apart
        by_order (no h) =
            let back : a - b + b ≡ a = omega arith in
            let apart : a - b ≡ distance_of a b = omega arith in
            ap (double ops) (𝓡.mul_comm (T a) (T b)) ∙ rw back at (cheb_product b (a - b)) ∙ ap (λ n. T (a + b) ⊕ T n) apart

    -- T_(p+j) = 2·T_p·T_j - T_(p-j)
    pub cheb_beyond : (p j : ℕ) → j ≤ p → cheb ops x (p + j) ≡ double ops (cheb ops x p ⊗ cheb ops x j) ⊖ cheb ops x (p - j)
    cheb_beyond p j h =
        let back : p - j + j ≡ p = omega arith in
        from 𝓡 (T (p + j) ∷ T p ∷ T j ∷ T (p - j) ∷ [])
        (λ s t u d. s := num 2 :* (t :* u) :- d)
        (λ s t u d. (:- num 1, num 2 :* (u :* t) := s :+ d) ∷ [])
        refl (rw back at (cheb_product j (p - j)), tt)

    -- T_(n+4) = 2·T_2·T_(n+2) - T_n
    pub cheb_four_on : (n : ℕ) → cheb ops x (suc (suc (suc (suc n)))) ≡ double ops (cheb ops x 2) ⊗ cheb ops x (suc (suc n)) ⊖ cheb ops x n
    cheb_four_on n =
        from 𝓡 (T 2 ∷ T (suc (suc n)) ∷ T (suc (suc (suc (suc n)))) ∷ T n ∷ [])
        (λ t m s u. s := num 2 :* t :* m :- u)
        (λ t m s u. (:- num 1, num 2 :* (t :* m) := s :+ u) ∷ [])
        refl (rw (two n, four n) at (cheb_product 2 n), tt)
      where
        two : (n : ℕ) → n + 2 ≡ suc (suc n)
        two n = omega arith

        four : (n : ℕ) → suc (suc n) + 2 ≡ suc (suc (suc (suc n)))
        four n = omega arith

  -- T_2k(x) = T_k(T_2(x))
  pub cheb_even : (x : A) (k : ℕ) → cheb ops x (k + k) ≡ cheb ops (cheb ops x 2) k
  cheb_even x zero = cheb_zero ops x ∙ sym (cheb_zero ops (cheb ops x 2))
  cheb_even x (suc zero) = sym (cheb_one ops (cheb ops x 2))
  cheb_even x (suc (suc k)) =
      let near : suc (suc (k + k)) ≡ suc k + suc k = omega arith in
      let far : suc (suc k) + suc (suc k) ≡ suc (suc (suc (suc (k + k)))) = omega arith in
      ap (cheb ops x) far
      ∙ cheb_four_on x (k + k)
      ∙ ap₂ (λ u v. double ops (cheb ops x 2) ⊗ u ⊖ v) (ap (cheb ops x) near ∙ cheb_even x (suc k)) (cheb_even x k)
      ∙ sym (cheb_step ops (cheb ops x 2) k)
