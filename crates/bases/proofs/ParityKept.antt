-- A polynomial of a parity in one basis has it in the other. Row n has 0 at every place of the other remainder by 2, since its recurrence goes from a place
-- to its neighbours. So at a place that the parity does not allow, an old coefficient of that remainder is 0, and one of the other adds 0 by its row.
use mathlib.Core.Path.{◌≡◌, ◌∙◌, ap, ap₂}
use mathlib.Core.Bool.{false}
use mathlib.Core.List.{List}
use Prim.Native.Nat.{ℕ, zero, suc, ◌+◌, ◌%◌, ◌<◌}
use native.Mathlib.Nat.{zero-div}
use native.Mathlib.Decide.{ℕ_discrete, dec_lt}
use native.Mathlib.Omega.{arith}
use lib.IntN.{ℤ, pos, ◌*ℤ◌}
use lib.ListN.{length, get_or, get_or-eq_default}
use Rattle.algebra.specs.Allowed.{allows, HasParity}
use Rattle.algebra.specs.Operations.{double, whole_ops}
use Rattle.algebra.specs.Ring.{Ring}
use Rattle.algebra.specs.declared.Basis.{Basis}
use Rattle.algebra.specs.declared.Basis.TheVariants.{Monomial, Chebyshev}
use Rattle.algebra.specs.declared.Parity.{Parity}
use Rattle.algebra.proofs.Integers.{integers}
use Rattle.algebra.proofs.Parities.{allows_same}
use Rattle.algebra.proofs.Sums.{sum_zeros}
use Rattle.bases.specs.Rows.{denominator, row_of}
use Rattle.bases.specs.Convert.{quotient_of, new_coefficient, converted}
use Rattle.bases.specs.Promises.{ParityKept}
use Rattle.bases.proofs.Convert.{length_tabulate, get_d_tabulate}
use Rattle.bases.proofs.Rows.{row_zero, row_one, row_step, unit_other}
use Rattle.algebra.proofs.RingLaws as R

-- ---- the rows

module _ {A : Type 0} (𝓡 : Ring A) where
  open 𝓡 use {ops}
  open ops use {zero as 𝟘, add as ◌⊕◌, sub as ◌⊖◌}

  infixl 6 ◌⊕◌
  infixl 6 ◌⊖◌
  -- row n has 0 at place i if n + i is odd
  row_odd : (to : Basis) (n i : ℕ) → (n + i) % 2 ≡ 1 → row_of ops to n i ≡ 𝟘
  row_odd to zero i odd = row_zero ops to i ∙ unit_other ops 0 i (λ e. omega arith)
  row_odd to (suc zero) i odd = row_one ops to i ∙ unit_other ops 1 i (λ e. omega arith)
  row_odd Monomial (suc (suc n)) zero odd = row_step ops Monomial n 0 ∙ ap (𝟘 ⊖◌) (row_odd Monomial n 0 (omega arith)) ∙ R.sub_self 𝓡 𝟘
  row_odd Monomial (suc (suc n)) (suc i) odd =
      row_step ops Monomial n (suc i)
      ∙ ap₂ ◌⊖◌ (ap (double ops) (row_odd Monomial (suc n) i (omega arith)) ∙ R.mul_zero 𝓡 _) (row_odd Monomial n (suc i) (omega arith))
      ∙ R.sub_self 𝓡 𝟘
  row_odd Chebyshev (suc (suc n)) zero odd =
      row_step ops Chebyshev n 0 ∙ ap (𝟘 ⊕◌) (row_odd Chebyshev (suc n) 1 (omega arith)) ∙ 𝓡.add-zero 𝟘
  row_odd Chebyshev (suc (suc n)) (suc zero) odd =
      row_step ops Chebyshev n 1
      ∙ ap₂ (λ (a b : A). 𝟘 ⊕ a ⊕ b)
      (ap (double ops) (row_odd Chebyshev (suc n) 0 (omega arith)) ∙ R.mul_zero 𝓡 _) (row_odd Chebyshev (suc n) 2 (omega arith))
      ∙ 𝓡.add-zero _
      ∙ 𝓡.add-zero 𝟘
  row_odd Chebyshev (suc (suc n)) (suc (suc i)) odd =
      row_step ops Chebyshev n (suc (suc i))
      ∙ ap₂ (λ (a b : A). 𝟘 ⊕ a ⊕ b) (row_odd Chebyshev (suc n) (suc i) (omega arith)) (row_odd Chebyshev (suc n) (suc (suc (suc i))) (omega arith))
      ∙ 𝓡.add-zero _
      ∙ 𝓡.add-zero 𝟘

-- ---- the new coefficients

-- the quotient of 0 is 0
quotient_zero : (to : Basis) (n : ℕ) → quotient_of to n (pos 0) ≡ pos 0
quotient_zero to n = ap pos (zero-div (denominator to n))

module _ (to : Basis) (parity : Parity) (c : List ℤ) (has : HasParity whole_ops parity c) (i : ℕ) (apart : allows parity i ≡ false) where
  -- what old coefficient n adds at a place that is not allowed
  term_zero : (n : ℕ) → quotient_of to n (get_or c n (pos 0)) *ℤ row_of whole_ops to n i ≡ pos 0
  term_zero n = by_remainder (ℕ_discrete (n % 2) (i % 2))
    where
      by_remainder : Dec (n % 2 ≡ i % 2) → quotient_of to n (get_or c n (pos 0)) *ℤ row_of whole_ops to n i ≡ pos 0
      by_remainder (yes same) =
          ap (λ (z : ℤ). quotient_of to n z *ℤ row_of whole_ops to n i) (has n (allows_same parity n i same ∙ apart))
          ∙ ap (◌*ℤ row_of whole_ops to n i) (quotient_zero to n)
          ∙ R.zero-mul integers (row_of whole_ops to n i)
      by_remainder (no differ) =
          ap (quotient_of to n (get_or c n (pos 0)) *ℤ◌) (row_odd integers to n i (omega arith)) ∙ R.mul_zero integers (quotient_of to n (get_or c n (pos 0)))

  -- so the new coefficient there is 0
  new_zero : new_coefficient to c i ≡ pos 0
  unfolding new_coefficient
  new_zero = sum_zeros integers (λ n. quotient_of to n (get_or c n (pos 0)) *ℤ row_of whole_ops to n i) (length c) (λ n below. term_zero n)

-- in the list, and beyond its end
pub parity_kept : ParityKept
parity_kept to parity c has i apart = by_place (dec_lt i (length c))
  where
    by_place : Dec (i < length c) → get_or (converted to c) i (pos 0) ≡ pos 0
    by_place (yes below) = get_d_tabulate (length c) (new_coefficient to c) i (pos 0) below ∙ new_zero to parity c has i apart
    by_place (no beyond) = get_or-eq_default (converted to c) (pos 0) (omega (arith, length_tabulate (length c) (new_coefficient to c)))
