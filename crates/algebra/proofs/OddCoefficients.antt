-- The coefficients of R_k: ±1 at 0, ±2 from 1 to k with alternating signs, and none above k.
-- So say three equations between one row and the next, which follow from the recurrence by recursion on k.
use mathlib.Core.Path.{◌≡◌, refl, sym, ◌∙◌}
use mathlib.Core.List.{[], ◌∷◌}
use Prim.Native.Nat.{ℕ, zero, suc, ◌<◌}
use native.Mathlib.Omega.{arith}
use Rattle.algebra.specs.Fold.{times2_t1, coeff_r}
use Rattle.algebra.specs.Operations.{Operations, double}
use Rattle.algebra.specs.Ring.{Ring}
use Rattle.algebra.proofs.Solve.{◌:=◌, num, ◌:+◌, ◌:-◌, ◌:*◌, :-◌, from}

-- R_(k+2) = 2T_1·R_(k+1) - R_k, coefficient by coefficient
pub coeff_step : {A : Type 0} (𝓞 : Operations A) (k i : ℕ) → coeff_r 𝓞 (suc (suc k)) i ≡ 𝓞.sub (times2_t1 𝓞 (coeff_r 𝓞 (suc k)) i) (coeff_r 𝓞 k i)
unfolding coeff_r
coeff_step 𝓞 k i = refl

module _ {A : Type 0} (𝓡 : Ring A) where
  open 𝓡 use {ops}
  open ops use {zero as 𝟘, neg as ⊝◌}

  infix 8 ⊝◌
  -- from 2 on, a row is the one before it, one place on
  pub coeff_later : (k i : ℕ) → coeff_r ops (suc k) (suc (suc i)) ≡ coeff_r ops k (suc i)
  unfolding coeff_r
  coeff_later zero i = refl
  coeff_later (suc k) i =
      from 𝓡 (coeff_r ops (suc k) (suc i) ∷ coeff_r ops (suc k) (suc (suc (suc i))) ∷ coeff_r ops k (suc (suc i)) ∷ [])
      (λ s t r. num 0 :+ s :+ t :- r := s)
      (λ s t r. (num 1, t := r) ∷ [])
      refl (coeff_later k (suc i), tt)

  -- at 1 it is twice the one before it at 0
  pub coeff_one : (k : ℕ) → coeff_r ops (suc k) 1 ≡ double ops (coeff_r ops k 0)
  unfolding coeff_r
  coeff_one zero = sym (𝓡.mul-one _)
  coeff_one (suc k) =
      from 𝓡 (coeff_r ops (suc k) 0 ∷ coeff_r ops (suc k) 2 ∷ coeff_r ops k 1 ∷ [])
      (λ s t r. num 0 :+ num 2 :* s :+ t :- r := num 2 :* s)
      (λ s t r. (num 1, t := r) ∷ [])
      refl (coeff_later k 0, tt)

  -- at 0 the sign alternates
  pub coeff_zero : (k : ℕ) → coeff_r ops (suc k) 0 ≡ ⊝ coeff_r ops k 0
  unfolding coeff_r
  coeff_zero zero = refl
  coeff_zero (suc k) =
      from 𝓡 (coeff_r ops (suc k) 0 ∷ coeff_r ops (suc k) 1 ∷ coeff_r ops k 0 ∷ [])
      (λ s t r. num 0 :+ t :- r := :- s)
      (λ s t r. (num 1, t := num 2 :* r) ∷ (num 1, s := :- r) ∷ [])
      refl (coeff_one k, (coeff_zero k, tt))

  -- R_k has no coefficient above k
  pub coeff_above : (k i : ℕ) → k < i → coeff_r ops k i ≡ 𝟘
  unfolding coeff_r
  coeff_above zero zero h = absurd (omega arith)
  coeff_above zero (suc i) h = refl
  coeff_above (suc k) zero h = absurd (omega arith)
  coeff_above (suc k) (suc zero) h = absurd (omega arith)
  coeff_above (suc k) (suc (suc i)) h = coeff_later k i ∙ coeff_above k (suc i) (omega arith)
