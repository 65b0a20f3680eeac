-- The value of a sum is the sum of the values, and that of a multiple the multiple: coefficient by coefficient, by recursion on the polynomials.
use mathlib.Core.Path.{◌≡◌, refl, sym}
use mathlib.Core.List.{List, [], ◌∷◌, map, zip_with}
use Prim.Native.Nat.{ℕ, suc}
use native.Mathlib.Omega.{arith}
use lib.ListN.{length}
use Rattle.algebra.specs.Ring.{Ring}
use Rattle.algebra.specs.PolynomialSum.{sum_of, multiple_of}
use Rattle.algebra.specs.PolynomialSumLaw.{PolynomialSumLaw}
use Rattle.algebra.specs.Power.{power}
use Rattle.algebra.specs.Value.{dot}
use Rattle.algebra.proofs.RingLaws as R
use Rattle.algebra.proofs.Solve.{◌:=◌, ◌:+◌, ◌:*◌, ring}
use Rattle.algebra.proofs.Sums.{dot_nil, dot_cons}

module _ {A : Type 0} (𝓡 : Ring A) where
  open 𝓡 use {ops}
  open ops use {zero as 𝟘, add as ◌⊕◌, mul as ◌⊗◌}

  infixl 6 ◌⊕◌
  infixl 7 ◌⊗◌
  dot_sum : (b : ℕ → A) (c d : List A) → length c ≡ length d → dot ops b (sum_of ops c d) ≡ dot ops b c ⊕ dot ops b d
  unfolding zip_with
  dot_sum b [] [] same = rw (dot_nil ops b) (sym (𝓡.add-zero 𝟘))
  dot_sum b [] (y ∷ d) same = absurd (omega arith)
  dot_sum b (x ∷ c) [] same = absurd (omega arith)
  dot_sum b (x ∷ c) (y ∷ d) same =
      let rest : ℕ → A = λ j. b (suc j) in
      rw (dot_cons 𝓡 b (x ⊕ y) (zip_with ◌⊕◌ c d), dot_cons 𝓡 b x c, dot_cons 𝓡 b y d, dot_sum rest c d (omega arith))
      (ring 𝓡 (x ∷ y ∷ b 0 ∷ dot ops rest c ∷ dot ops rest d ∷ []) (λ x y p s t. (x :+ y) :* p :+ (s :+ t) := x :* p :+ s :+ (y :* p :+ t)) refl)

  dot_multiple : (b : ℕ → A) (k : A) (c : List A) → dot ops b (multiple_of ops k c) ≡ k ⊗ dot ops b c
  dot_multiple b k [] = rw (dot_nil ops b) (sym (R.mul_zero 𝓡 k))
  dot_multiple b k (x ∷ c) =
      let rest : ℕ → A = λ j. b (suc j) in
      rw (dot_cons 𝓡 b (k ⊗ x) (map (k ⊗◌) c), dot_cons 𝓡 b x c, dot_multiple rest k c)
      (ring 𝓡 (k ∷ x ∷ b 0 ∷ dot ops rest c ∷ []) (λ k x p s. k :* x :* p :+ k :* s := k :* (x :* p :+ s)) refl)

  pub polynomial_sum_law : PolynomialSumLaw 𝓡
  polynomial_sum_law = record {
    sum_value = λ basis x. dot_sum (power ops basis x);
    multiple_value = λ basis x. dot_multiple (power ops basis x);
  }
