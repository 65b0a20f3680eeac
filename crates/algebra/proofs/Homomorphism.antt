-- A map that keeps the operations keeps what is built of them: powers, sums, values and the R_k of a fold. The remainder by m is such a map.
-- By recursion on what is built; no law of a ring is used.
use mathlib.Core.Path.{◌≡◌, refl, sym, ◌∙◌, ap, ap₂}
use mathlib.Core.List.{List, map}
use Prim.Native.Nat.{ℕ, zero, suc, ◌<◌}
use lib.ListN.{length, get_or, get_or-map, length-map}
use Rattle.algebra.specs.Operations.{Operations, double, whole_ops}
use Rattle.algebra.specs.Fold.{times2_t1, coeff_r}
use Rattle.algebra.specs.Homomorphism.{Homomorphism}
use Rattle.algebra.specs.Power.{pow, cheb, power}
use Rattle.algebra.specs.Remainder.{rem, remainders}
use Rattle.algebra.specs.Value.{sum, dot, value}
use Rattle.algebra.specs.declared.Basis.{Basis}
use Rattle.algebra.specs.declared.Basis.TheVariants.{Monomial, Chebyshev}
use Rattle.algebra.proofs.Remainders.{rem_add, rem_sub, rem_mul, rem_neg, rem_zero}
use Rattle.algebra.proofs.Sums.{sum_ext}

module _ {A B : Type 0} {𝓞 : Operations A} {𝓟 : Operations B} {φ : A → B} (H : Homomorphism 𝓞 𝓟 φ) where
  -- 2·a
  pub hom_double : (a : A) → φ (double 𝓞 a) ≡ double 𝓟 (φ a)
  hom_double a = H.mul _ a ∙ ap (λ t. 𝓟.mul t (φ a)) (H.add 𝓞.one 𝓞.one ∙ ap₂ 𝓟.add H.one H.one)

  -- X^n
  pub hom_pow : (x : A) (n : ℕ) → φ (pow 𝓞 x n) ≡ pow 𝓟 (φ x) n
  unfolding pow
  hom_pow x zero = H.one
  hom_pow x (suc n) = H.mul x (pow 𝓞 x n) ∙ ap (𝓟.mul (φ x)) (hom_pow x n)

  -- T_n
  pub hom_cheb : (x : A) (n : ℕ) → φ (cheb 𝓞 x n) ≡ cheb 𝓟 (φ x) n
  unfolding cheb
  hom_cheb x zero = H.one
  hom_cheb x (suc zero) = refl
  hom_cheb x (suc (suc n)) = H.sub _ _ ∙ ap₂ 𝓟.sub (H.mul _ _ ∙ ap₂ 𝓟.mul (hom_double x) (hom_cheb x (suc n))) (hom_cheb x n)

  -- power n of a basis
  pub hom_power : (basis : Basis) (x : A) (n : ℕ) → φ (power 𝓞 basis x n) ≡ power 𝓟 basis (φ x) n
  hom_power Monomial x n = hom_pow x n
  hom_power Chebyshev x n = hom_cheb x n

  -- a sum
  pub hom_sum : (f : ℕ → A) (n : ℕ) → φ (sum 𝓞 f n) ≡ sum 𝓟 (λ j. φ (f j)) n
  unfolding sum
  hom_sum f zero = H.zero
  hom_sum f (suc n) = H.add (sum 𝓞 f n) (f n) ∙ ap (λ s. 𝓟.add s (φ (f n))) (hom_sum f n)

  -- the sum of c_j·b_j, where φ takes b_j to d_j
  pub hom_dot : (b : ℕ → A) (d : ℕ → B) → ((j : ℕ) → φ (b j) ≡ d j) → (c : List A) → φ (dot 𝓞 b c) ≡ dot 𝓟 d (map φ c)
  unfolding dot
  hom_dot b d e c =
      hom_sum (λ j. 𝓞.mul (get_or c j 𝓞.zero) (b j)) (length c)
      ∙ sum_ext 𝓟 _ _ (length c) (λ j k. H.mul _ _ ∙ ap₂ 𝓟.mul (sym (get_or-map φ c j 𝓞.zero) ∙ ap (get_or (map φ c) j) H.zero) (e j))
      ∙ ap (sum 𝓟 (λ j. 𝓟.mul (get_or (map φ c) j 𝓟.zero) (d j))) (sym (length-map c φ))

  -- the value of a polynomial
  pub hom_value : (basis : Basis) (x : A) (c : List A) → φ (value 𝓞 basis x c) ≡ value 𝓟 basis (φ x) (map φ c)
  hom_value basis x c = hom_dot (power 𝓞 basis x) (power 𝓟 basis (φ x)) (hom_power basis x) c

  -- 2T_1 times a row
  pub hom_times2_t1 : (r : ℕ → A) (s : ℕ → B) → ((i : ℕ) → φ (r i) ≡ s i) → (i : ℕ) → φ (times2_t1 𝓞 r i) ≡ times2_t1 𝓟 s i
  hom_times2_t1 r s e zero = H.add _ _ ∙ ap₂ 𝓟.add H.zero (e 1)
  hom_times2_t1 r s e (suc zero) =
      H.add _ _ ∙ ap₂ 𝓟.add (H.add _ _ ∙ ap₂ 𝓟.add H.zero (hom_double (r 0) ∙ ap (double 𝓟) (e 0))) (e 2)
  hom_times2_t1 r s e (suc (suc i)) =
      H.add _ _ ∙ ap₂ 𝓟.add (H.add _ _ ∙ ap₂ 𝓟.add H.zero (e (suc i))) (e (suc (suc (suc i))))

  -- coefficient i of R_k
  pub hom_coeff_r : (k i : ℕ) → φ (coeff_r 𝓞 k i) ≡ coeff_r 𝓟 k i
  unfolding coeff_r
  hom_coeff_r zero zero = H.one
  hom_coeff_r zero (suc i) = H.zero
  hom_coeff_r (suc zero) zero = H.neg _ ∙ ap 𝓟.neg H.one
  hom_coeff_r (suc zero) (suc zero) = H.add _ _ ∙ ap₂ 𝓟.add H.one H.one
  hom_coeff_r (suc zero) (suc (suc i)) = H.zero
  hom_coeff_r (suc (suc k)) i = H.sub _ _ ∙ ap₂ 𝓟.sub (hom_times2_t1 _ _ (hom_coeff_r (suc k)) i) (hom_coeff_r k i)

-- the remainder by m
pub remainder_homomorphism : (m : ℕ) → 0 < m → Homomorphism whole_ops (remainders m) (rem m)
unfolding rem
remainder_homomorphism m h = record {
  zero = rem_zero m h;
  one = refl;
  add = rem_add m h;
  sub = rem_sub m h;
  mul = rem_mul m h;
  neg = rem_neg m h;
}
