-- In a commutative ring Horner's rule gives the sum of c_j·x^j, and Clenshaw's that of c_j·T_j: evaluation gives the polynomial's value.
-- Both go by recursion on the coefficients. Clenshaw's pair (b1, b2) of a list stands for its sum along any t with t_(n+2) = 2x·t_(n+1) - t_n:
-- c_0·t_1 + c_1·t_2 + .. = b1·t_1 - b2·t_0.
use mathlib.Core.Path.{◌≡◌, refl, sym, ap, ◌∙◌}
use mathlib.Core.List.{List, [], ◌∷◌}
use Prim.Native.Nat.{ℕ, suc}
use Rattle.algebra.specs.Operations.{double}
use Rattle.algebra.specs.Ring.{Ring}
use Rattle.algebra.specs.Power.{pow, cheb}
use Rattle.algebra.specs.Value.{dot, value}
use Rattle.algebra.specs.declared.Basis.{Basis}
use Rattle.algebra.specs.declared.Basis.TheVariants.{Monomial, Chebyshev}
use Rattle.algebra.proofs.Solve.{◌:=◌, num, ◌:+◌, ◌:-◌, ◌:*◌, ring, from}
use Rattle.algebra.proofs.Sums.{dot_nil, dot_cons, dot_mul}
use Rattle.algebra.proofs.Chebyshev.{cheb_zero, cheb_one, cheb_step}
use Rattle.number.specs.Evaluate.{horner, clenshaw_pair, clenshaw, evaluate}
use Rattle.number.specs.EvaluateLaw.{EvaluateLaw}

module _ {A : Type 0} (𝓡 : Ring A) (x : A) where
  open 𝓡 use {ops}
  open ops use {one as 𝟙, add as ◌⊕◌, sub as ◌⊖◌, mul as ◌⊗◌}

  infixl 6 ◌⊕◌
  infixl 6 ◌⊖◌
  infixl 7 ◌⊗◌
  -- the first coefficient, and x times the sum of the others
  power_sum : (c : A) (cs : List A) → dot ops (pow ops x) (c ∷ cs) ≡ c ⊗ 𝟙 ⊕ x ⊗ dot ops (pow ops x) cs
  unfolding pow
  power_sum c cs = dot_cons 𝓡 (pow ops x) c cs ∙ ap (c ⊗ 𝟙 ⊕◌) (dot_mul 𝓡 x (pow ops x) cs)

  -- Horner's rule gives the sum of c_j·x^j
  pub horner_value : (c : List A) → horner ops x c ≡ value ops Monomial x c
  unfolding horner
  horner_value [] = sym (dot_nil ops (pow ops x))
  horner_value (c ∷ cs) =
      from 𝓡 (x ∷ c ∷ horner ops x cs ∷ dot ops (pow ops x) cs ∷ dot ops (pow ops x) (c ∷ cs) ∷ [])
      (λ x c y s t. y :* x :+ c := t)
      (λ x c y s t. (x, y := s) ∷ (num 0 :- num 1, t := c :* num 1 :+ x :* s) ∷ [])
      refl (horner_value cs, (power_sum c cs, tt))

  -- what Clenshaw's pair of a list stands for
  pair_sum : (t : ℕ → A) → ((n : ℕ) → t (suc (suc n)) ≡ double ops x ⊗ t (suc n) ⊖ t n) → (c : List A)
      → dot ops (λ j. t (suc j)) c ≡ (clenshaw_pair ops x c).b1 ⊗ t 1 ⊖ (clenshaw_pair ops x c).b2 ⊗ t 0
  unfolding clenshaw_pair
  pair_sum t next [] = dot_nil ops (λ j. t (suc j)) ∙ ring 𝓡 (t 1 ∷ t 0 ∷ []) (λ u v. num 0 := num 0 :* u :- num 0 :* v) refl
  pair_sum t next (c ∷ cs) =
      from 𝓡
      (x ∷ c ∷ (clenshaw_pair ops x cs).b1 ∷ (clenshaw_pair ops x cs).b2 ∷ t 2 ∷ t 1 ∷ t 0
      ∷ dot ops (λ j. t (suc (suc j))) cs ∷ dot ops (λ j. t (suc j)) (c ∷ cs) ∷ [])
      (λ x c p q t₂ t₁ t₀ rest all. all := (num 2 :* x :* p :- q :+ c) :* t₁ :- p :* t₀)
      (λ x c p q t₂ t₁ t₀ rest all.
      (num 1, all := c :* t₁ :+ rest) ∷ (num 1, rest := p :* t₂ :- q :* t₁) ∷ (p, t₂ := num 2 :* x :* t₁ :- t₀) ∷ [])
      refl (dot_cons 𝓡 (λ j. t (suc j)) c cs, (pair_sum (λ j. t (suc j)) (λ n. next (suc n)) cs, (next 0, tt)))

  -- the first coefficient, and the others by their pair
  chebyshev_sum : (c : A) (cs : List A) → dot ops (cheb ops x) (c ∷ cs) ≡ c ⊗ 𝟙 ⊕ ((clenshaw_pair ops x cs).b1 ⊗ x ⊖ (clenshaw_pair ops x cs).b2 ⊗ 𝟙)
  chebyshev_sum c cs =
      dot_cons 𝓡 (cheb ops x) c cs
      ∙ rw (pair_sum (cheb ops x) (cheb_step ops x) cs, cheb_zero ops x, cheb_one ops x)

  -- Clenshaw's rule gives the sum of c_j·T_j
  pub clenshaw_value : (c : List A) → clenshaw ops x c ≡ value ops Chebyshev x c
  unfolding clenshaw clenshaw_pair
  clenshaw_value [] = sym (dot_nil ops (cheb ops x))
  clenshaw_value (c ∷ []) = ring 𝓡 (x ∷ c ∷ []) (λ x c. c := c :* num 1 :+ (num 0 :* x :- num 0 :* num 1)) refl ∙ sym (chebyshev_sum c [])
  clenshaw_value (c ∷ d ∷ cs) =
      let p = clenshaw_pair ops x (d ∷ cs) in
      ring 𝓡 (x ∷ c ∷ p.b1 ∷ p.b2 ∷ []) (λ x c p q. c :+ x :* p :- q := c :* num 1 :+ (p :* x :- q :* num 1)) refl
      ∙ sym (chebyshev_sum c (d ∷ cs))

  -- evaluation gives the value
  pub evaluate_value : (basis : Basis) (c : List A) → evaluate ops basis c x ≡ value ops basis x c
  evaluate_value Monomial c = horner_value c
  evaluate_value Chebyshev c = clenshaw_value c

pub evaluate_law : {A : Type 0} (𝓡 : Ring A) → EvaluateLaw 𝓡
evaluate_law 𝓡 basis c x = evaluate_value 𝓡 x basis c
