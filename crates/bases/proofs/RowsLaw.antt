-- The rows law, by the recurrence of each basis.
use mathlib.Core.Path.{◌≡◌, refl, sym, ◌∙◌, ap, ap₂}
use mathlib.Core.List.{[], ◌∷◌}
use Prim.Native.Nat.{ℕ, zero, suc, ◌-◌, ◌<◌}
use native.Mathlib.Decide.{ℕ_discrete}
use native.Mathlib.Omega.{arith}
use Rattle.algebra.specs.Fold.{times2_t1}
use Rattle.algebra.specs.Operations.{two, double}
use Rattle.algebra.specs.Power.{pow, cheb, power}
use Rattle.algebra.specs.Ring.{Ring}
use Rattle.algebra.specs.Value.{sum}
use Rattle.algebra.specs.declared.Basis.{Basis}
use Rattle.algebra.specs.declared.Basis.TheVariants.{Monomial, Chebyshev}
use Rattle.algebra.proofs.Chebyshev.{cheb_zero, cheb_one, cheb_step}
use Rattle.algebra.proofs.OddChebyshev.{series, series_times}
use Rattle.algebra.proofs.Powers.{pow-zero, pow_step}
use Rattle.algebra.proofs.Solve.{◌:=◌, num, ◌:+◌, ◌:-◌, ◌:*◌, :-◌, ring, from}
use Rattle.algebra.proofs.Sums.{sum_suc, sum_first, sum_ext, sum_sub, sum_mul, sum_zeros}
use Rattle.bases.specs.Rows.{unit_row, times2_x, row_of}
use Rattle.bases.specs.RowsLaw.{RowsLaw}
use Rattle.bases.proofs.Rows.{row_zero, row_one, row_step, unit_same, unit_other, row_above}
use Rattle.algebra.proofs.RingLaws as R

module _ {A : Type 0} (𝓡 : Ring A) where
  open 𝓡 use {ops}
  open ops use {zero as 𝟘, one as 𝟙, add as ◌⊕◌, sub as ◌⊖◌, mul as ◌⊗◌}

  infixl 6 ◌⊕◌
  infixl 6 ◌⊖◌
  infixl 7 ◌⊗◌
  -- one place alone
  sum_unit : (b : ℕ → A) (n places : ℕ) → n < places → sum ops (λ i. unit_row ops n i ⊗ b i) places ≡ b n
  sum_unit b n zero h = absurd (omega arith)
  sum_unit b n (suc places) h =
      sum_suc ops (λ i. unit_row ops n i ⊗ b i) places ∙ by_place (ℕ_discrete n places) (λ less. sum_unit b n places less)
    where
      by_place : Dec (n ≡ places) → (n < places → sum ops (λ i. unit_row ops n i ⊗ b i) places ≡ b n)
          → sum ops (λ i. unit_row ops n i ⊗ b i) places ⊕ unit_row ops n places ⊗ b places ≡ b n
      by_place (yes is) before =
          ap₂ ◌⊕◌
          (sum_zeros 𝓡 (λ i. unit_row ops n i ⊗ b i) places (λ i k. ap (◌⊗ b i) (unit_other ops n i (λ e. omega arith)) ∙ R.zero-mul 𝓡 (b i)))
          (ap (λ (k : ℕ). unit_row ops n k ⊗ b k) (sym is) ∙ ap (◌⊗ b n) (unit_same ops n) ∙ R.one-mul 𝓡 (b n))
          ∙ R.zero-add 𝓡 (b n)
      by_place (no apart) before =
          ap₂ ◌⊕◌ (before (omega arith)) (ap (◌⊗ b places) (unit_other ops n places apart) ∙ R.zero-mul 𝓡 (b places)) ∙ 𝓡.add-zero (b n)

  module _ (x : A) where
    -- 2x times a sum of powers
    powers_times : (r : ℕ → A) (places : ℕ)
        → sum ops (λ i. times2_x ops r i ⊗ pow ops x i) (suc places) ≡ double ops x ⊗ sum ops (λ i. r i ⊗ pow ops x i) places
    powers_times r places =
        sum_first 𝓡 (λ i. times2_x ops r i ⊗ pow ops x i) places
        ∙ ap₂ ◌⊕◌ (R.zero-mul 𝓡 (pow ops x 0))
        (sum_ext ops (λ i. double ops (r i) ⊗ pow ops x (suc i)) (λ i. double ops x ⊗ (r i ⊗ pow ops x i)) places
        (λ i h. ap (double ops (r i) ⊗◌) (pow_step ops x i)
        ∙ ring 𝓡 (x ∷ r i ∷ pow ops x i ∷ []) (λ x r p. num 2 :* r :* (x :* p) := num 2 :* x :* (r :* p)) refl)
        ∙ sum_mul 𝓡 (double ops x) (λ i. r i ⊗ pow ops x i) places)
        ∙ R.zero-add 𝓡 _

    -- the sum of a row's coefficients times the elements of `to`
    abbrev S : (to : Basis) → (n places : ℕ) → A
    S to n places = sum ops (λ i. row_of ops to n i ⊗ power ops to x i) places

    in_powers : (n places : ℕ) → n < places → S Monomial n places ≡ cheb ops x n
    in_powers zero places h =
        sum_ext ops _ (λ i. unit_row ops 0 i ⊗ pow ops x i) places (λ i k. ap (◌⊗ pow ops x i) (row_zero ops Monomial i))
        ∙ sum_unit (pow ops x) 0 places h ∙ pow-zero ops x ∙ sym (cheb_zero ops x)
    in_powers (suc zero) places h =
        sum_ext ops _ (λ i. unit_row ops 1 i ⊗ pow ops x i) places (λ i k. ap (◌⊗ pow ops x i) (row_one ops Monomial i))
        ∙ sum_unit (pow ops x) 1 places h ∙ pow_step ops x 0 ∙ ap (x ⊗◌) (pow-zero ops x) ∙ 𝓡.mul-one x ∙ sym (cheb_one ops x)
    in_powers (suc (suc n)) zero h = absurd (omega arith)
    in_powers (suc (suc n)) (suc places) h =
        sum_ext ops _ (λ i. times2_x ops (row_of ops Monomial (suc n)) i ⊗ pow ops x i ⊖ row_of ops Monomial n i ⊗ pow ops x i) (suc places)
        (λ i k. ap (◌⊗ pow ops x i) (row_step ops Monomial n i)
        ∙ ring 𝓡 (times2_x ops (row_of ops Monomial (suc n)) i ∷ row_of ops Monomial n i ∷ pow ops x i ∷ [])
        (λ a b t. (a :- b) :* t := a :* t :- b :* t) refl)
        ∙ sum_sub 𝓡 (λ i. times2_x ops (row_of ops Monomial (suc n)) i ⊗ pow ops x i) (λ i. row_of ops Monomial n i ⊗ pow ops x i) (suc places)
        ∙ ap₂ ◌⊖◌
        (powers_times (row_of ops Monomial (suc n)) places ∙ ap (double ops x ⊗◌) (in_powers (suc n) places (omega arith)))
        (in_powers n (suc places) (omega arith))
        ∙ sym (cheb_step ops x n)

    in_chebyshev_zero : (places : ℕ) → 0 < places → S Chebyshev 0 places ≡ pow ops (two ops) 0 ⊗ pow ops x 0
    in_chebyshev_zero places h =
        sum_ext ops _ (λ i. unit_row ops 0 i ⊗ cheb ops x i) places (λ i k. ap (◌⊗ cheb ops x i) (row_zero ops Chebyshev i))
        ∙ sum_unit (cheb ops x) 0 places h ∙ cheb_zero ops x ∙ sym (ap₂ ◌⊗◌ (pow-zero ops (two ops)) (pow-zero ops x) ∙ 𝓡.mul-one 𝟙)

    in_chebyshev : (n places : ℕ) → suc n < places → S Chebyshev (suc n) places ≡ pow ops (two ops) n ⊗ pow ops x (suc n)
    in_chebyshev zero places h =
        sum_ext ops _ (λ i. unit_row ops 1 i ⊗ cheb ops x i) places (λ i k. ap (◌⊗ cheb ops x i) (row_one ops Chebyshev i))
        ∙ sum_unit (cheb ops x) 1 places h ∙ cheb_one ops x
        ∙ sym (ap₂ ◌⊗◌ (pow-zero ops (two ops)) (pow_step ops x 0 ∙ ap (x ⊗◌) (pow-zero ops x) ∙ 𝓡.mul-one x) ∙ R.one-mul 𝓡 x)
    in_chebyshev (suc n) zero h = absurd (omega arith)
    in_chebyshev (suc n) (suc zero) h = absurd (omega arith)
    in_chebyshev (suc n) (suc (suc m)) h =
        sum_ext ops _ (λ i. times2_t1 ops (row_of ops Chebyshev (suc n)) i ⊗ cheb ops x i) (suc (suc m))
        (λ i k. ap (◌⊗ cheb ops x i) (row_step ops Chebyshev n i))
        ∙ from 𝓡
        (series 𝓡 x (times2_t1 ops (row_of ops Chebyshev (suc n))) (suc (suc m)) ∷ series 𝓡 x (row_of ops Chebyshev (suc n)) (suc m)
        ∷ row_of ops Chebyshev (suc n) (suc m) ∷ row_of ops Chebyshev (suc n) (suc (suc m)) ∷ cheb ops x m ∷ cheb ops x (suc m)
        ∷ x ∷ pow ops (two ops) (suc n) ∷ pow ops (two ops) n ∷ pow ops x (suc (suc n)) ∷ pow ops x (suc n) ∷ [])
        (λ L S a b t u x w v p q. L := w :* p)
        (λ L S a b t u x w v p q.
        (num 1, L := num 2 :* x :* S :+ a :* t :+ b :* u)
        ∷ (num 2 :* x, S := v :* q)
        ∷ (t, a := num 0)
        ∷ (u, b := num 0)
        ∷ (:- (x :* q), w := num 2 :* v)
        ∷ (:- w, p := x :* q)
        ∷ [])
        refl (
          series_times 𝓡 x (row_of ops Chebyshev (suc n)) m,
          (
            in_chebyshev n (suc m) (omega arith),
            (
              row_above 𝓡 Chebyshev (suc n) (suc m) (omega arith),
              (row_above 𝓡 Chebyshev (suc n) (suc (suc m)) (omega arith), (pow_step ops (two ops) n, (pow_step ops x (suc n), tt))),
            ),
          ),
        )

  pub rows_law : RowsLaw 𝓡
  rows_law Monomial x n places h = in_powers x n places h ∙ sym (R.one-mul 𝓡 (cheb ops x n))
  rows_law Chebyshev x zero places h = in_chebyshev_zero x places h
  rows_law Chebyshev x (suc n) places h =
      let less : n ≡ suc n - 1 = omega arith in
      in_chebyshev x n places h ∙ ap (λ (k : ℕ). pow ops (two ops) k ⊗ pow ops x (suc n)) less
