-- A cut keeps the value: that of c is that of low plus power p times that of high.
-- Of powers the two parts are the list's own. T_(p+j) = 2·T_p·T_j - T_(p-j), so c_(p+j) goes doubled into high and is taken from low.
use mathlib.Core.Path.{◌≡◌, refl, sym, ◌∙◌, ap, ap₂}
use mathlib.Core.List.{List, [], ◌∷◌}
use Prim.Native.Nat.{ℕ, suc, ◌+◌, ◌-◌, ◌≤◌, ◌<◌}
use native.Mathlib.Nat.{add-zero}
use native.Mathlib.Omega.{arith}
use lib.ListN.{length, get_or, take, drop, length-drop}
use lib.Seq.{get_or-drop}
use Rattle.algebra.specs.Cut.{doubled, lowered, cut_at}
use Rattle.algebra.specs.CutLaw.{CutLaw}
use Rattle.algebra.specs.Operations.{double}
use Rattle.algebra.specs.Power.{pow, cheb, power}
use Rattle.algebra.specs.Ring.{Ring}
use Rattle.algebra.specs.Value.{sum, dot, value}
use Rattle.algebra.specs.declared.Basis.{Basis}
use Rattle.algebra.specs.declared.Basis.TheVariants.{Monomial, Chebyshev}
use Rattle.algebra.proofs.Chebyshev.{cheb_zero, cheb_beyond}
use Rattle.algebra.proofs.CutPlaces.{length_lowered, length_doubled, cut_low, cut_high, get_d_lowered, get_d_doubled_zero, get_d_doubled_suc}
use Rattle.algebra.proofs.Powers.{pow-add}
use Rattle.algebra.proofs.Solve.{◌:=◌, num, ◌:+◌, ◌:-◌, ◌:*◌, ring, from}
use Rattle.algebra.proofs.Sums.{sum_ext, sum_sub, sum_mul, sum_split, sum_first, sum_reverse, dot_ext, dot_mul, dot_split, dot_past, dot_is}

module _ {A : Type 0} (𝓡 : Ring A) (x : A) (p : ℕ) (c : List A) where
  open 𝓡 use {ops}
  open ops use {zero as 𝟘, add as ◌⊕◌, sub as ◌⊖◌, mul as ◌⊗◌}

  infixl 6 ◌⊕◌
  infixl 6 ◌⊖◌
  infixl 7 ◌⊗◌
  monomial_value : dot ops (pow ops x) c ≡ dot ops (pow ops x) (take p c) ⊕ pow ops x p ⊗ dot ops (pow ops x) (drop p c)
  monomial_value =
      dot_split 𝓡 (pow ops x) p c
      ∙ ap (dot ops (pow ops x) (take p c) ⊕◌)
      (dot_ext ops (λ j. pow ops x (p + j)) (λ j. pow ops x p ⊗ pow ops x j) (drop p c) (pow-add 𝓡 x p) ∙ dot_mul 𝓡 (pow ops x p) (pow ops x) (drop p c))

  -- ---- Chebyshev, with sums of p and of p + 1 + p terms

  abbrev T : ℕ → A
  T n = cheb ops x n

  abbrev coeff : ℕ → A
  coeff j = get_or c j 𝟘

  -- c_j·T_j; what c_(p+1+j) puts into high; what it takes from low, at place i
  abbrev term : ℕ → A
  term j = coeff j ⊗ T j

  abbrev gained : ℕ → A
  gained j = double ops (coeff (p + suc j)) ⊗ T (suc j)

  abbrev lost : ℕ → A
  lost i = coeff (p + (p - i)) ⊗ T i

  term_cut : (j : ℕ) → j < p → term (p + suc j) ≡ T p ⊗ gained j ⊖ lost (p - suc j)
  term_cut j h =
      let back : p - (p - suc j) ≡ suc j = omega arith in
      from 𝓡 (coeff (p + suc j) ∷ coeff (p + (p - (p - suc j))) ∷ T (p + suc j) ∷ T p ∷ T (suc j) ∷ T (p - suc j) ∷ [])
      (λ c d s t u v. c :* s := t :* (num 2 :* c :* u) :- d :* v)
      (λ c d s t u v. (c, s := num 2 :* (t :* u) :- v) ∷ (v, d := c) ∷ [])
      refl (cheb_beyond 𝓡 x p (suc j) h, (ap (λ k. coeff (p + k)) back, tt))

  terms_cut : sum ops (λ j. term (p + suc j)) p ≡ T p ⊗ sum ops gained p ⊖ sum ops lost p
  terms_cut =
      sum_ext ops (λ j. term (p + suc j)) (λ j. T p ⊗ gained j ⊖ lost (p - suc j)) p term_cut
      ∙ sum_sub 𝓡 (λ j. T p ⊗ gained j) (λ j. lost (p - suc j)) p
      ∙ ap₂ ◌⊖◌ (sum_mul 𝓡 (T p) gained p) (sym (sum_reverse 𝓡 lost p))

  low_value : p ≤ length c → dot ops (cheb ops x) (lowered ops p c) ≡ sum ops term p ⊖ sum ops lost p
  low_value under =
      dot_is 𝓡 (cheb ops x) (lowered ops p c) (λ i. coeff i ⊖ coeff (p + (p - i))) p (omega (arith, length_lowered ops p c under)) (get_d_lowered 𝓡 p c under)
      ∙ sum_ext ops (λ i. (coeff i ⊖ coeff (p + (p - i))) ⊗ T i) (λ i. term i ⊖ lost i) p
      (λ i h. ring 𝓡 (coeff i ∷ coeff (p + (p - i)) ∷ T i ∷ []) (λ a b t. (a :- b) :* t := a :* t :- b :* t) refl)
      ∙ sum_sub 𝓡 term lost p

  high_value : length c ≤ p + suc p → dot ops (cheb ops x) (doubled ops (drop p c)) ≡ coeff p ⊕ sum ops gained p
  high_value half =
      sym (dot_past 𝓡 (cheb ops x) (doubled ops (drop p c)) (suc p) (omega (arith, length_doubled ops (drop p c), length-drop p c)))
      ∙ sum_first 𝓡 (λ j. get_or (doubled ops (drop p c)) j 𝟘 ⊗ T j) p
      ∙ ap₂ ◌⊕◌
      (ap₂ ◌⊗◌ (get_d_doubled_zero 𝓡 (drop p c) ∙ get_or-drop p c 0 𝟘 ∙ ap coeff (add-zero p)) (cheb_zero ops x) ∙ 𝓡.mul-one (coeff p))
      (sum_ext ops (λ j. get_or (doubled ops (drop p c)) (suc j) 𝟘 ⊗ T (suc j)) gained p
      (λ j h. ap (◌⊗ T (suc j)) (get_d_doubled_suc 𝓡 (drop p c) j ∙ ap (double ops) (get_or-drop p c (suc j) 𝟘))))

  chebyshev_value : p ≤ length c → length c ≤ p + suc p
      → dot ops (cheb ops x) c ≡ dot ops (cheb ops x) (lowered ops p c) ⊕ T p ⊗ dot ops (cheb ops x) (doubled ops (drop p c))
  chebyshev_value under half =
      sym (dot_past 𝓡 (cheb ops x) c (p + suc p) half)
      ∙ sum_split 𝓡 term p (suc p)
      ∙ ap (sum ops term p ⊕◌) (sum_first 𝓡 (λ j. term (p + j)) p ∙ ap₂ ◌⊕◌ (ap term (add-zero p)) terms_cut)
      ∙ ring 𝓡 (sum ops term p ∷ coeff p ∷ T p ∷ sum ops gained p ∷ sum ops lost p ∷ [])
      (λ s a t g m. s :+ (a :* t :+ (t :* g :- m)) := s :- m :+ t :* (a :+ g)) refl
      ∙ sym (ap₂ (λ u v. u ⊕ T p ⊗ v) (low_value under) (high_value half))

  -- the value of c is that of low plus power p times that of high
  pub cut_value : (basis : Basis) → p ≤ length c → length c ≤ p + suc p
      → value ops basis x c ≡ value ops basis x (take p (cut_at ops basis p c)) ⊕ power ops basis x p ⊗ value ops basis x (drop p (cut_at ops basis p c))
  unfolding cut_at
  cut_value Monomial under half = monomial_value
  cut_value Chebyshev under half = rw (cut_low ops p c under, cut_high ops p c under) (chebyshev_value under half)

pub cut_law : {A : Type 0} (𝓡 : Ring A) → CutLaw 𝓡
cut_law 𝓡 x p c basis under half = cut_value 𝓡 x p c basis under half
