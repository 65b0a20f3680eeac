-- Sums and multiples of polynomials. Two polynomials of one length are one whose coefficients are pairs. The first numbers of the pairs, the second ones
-- and their sums are maps that keep cuts and folds; so whatever such maps keep takes the sum of two polynomials to the sum of what it makes of each. To
-- multiply by a number is such a map by itself.
use mathlib.Core.Path.{◌≡◌, refl, ap, ap₂, sym, ◌∙◌}
use mathlib.Core.List.{List, [], ◌∷◌, map, zip_with}
use Prim.Native.Nat.{suc}
use native.Mathlib.Omega.{arith}
use lib.ListN.{length}
use Rattle.algebra.specs.Operations.{Operations}
use Rattle.algebra.specs.Ring.{Ring}
use Rattle.algebra.specs.CutKept.{KeepsCuts}
use Rattle.algebra.specs.Fold.{coeff_r, fold}
use Rattle.algebra.specs.FoldKept.{KeepsFolds}
use Rattle.algebra.specs.Homomorphism.{Homomorphism}
use Rattle.algebra.specs.PolynomialSum.{sum_of, multiple_of}
use Rattle.algebra.specs.declared.Basis.{Basis}
use Rattle.algebra.specs.declared.Parity.{Parity}
use Rattle.algebra.proofs.FoldKept.{fold_kept}
use Rattle.algebra.proofs.Homomorphism.{hom_coeff_r}
use Rattle.algebra.proofs.RingLaws as R
use Rattle.algebra.proofs.Solve.{◌:=◌, num, ◌:+◌, ◌:-◌, ◌:*◌, ring}

-- what holds of every number
abbrev pub Any : {A : Type 0} → A → Type 0
Any a = Unit {0}

module _ {A : Type 0} (𝓡 : Ring A) where
  open 𝓡 use {ops}
  open ops use {zero as 𝟘, one as 𝟙, add as ◌⊕◌, sub as ◌⊖◌, mul as ◌⊗◌, neg as ⊝◌}

  infixl 6 ◌⊕◌
  infixl 6 ◌⊖◌
  infixl 7 ◌⊗◌
  infix 8 ⊝◌
  -- ---- pairs

  -- the operations, on both numbers
  abbrev pub pairs : Operations (A × A)
  pairs = record {
    zero = (𝟘, 𝟘);
    one = (𝟙, 𝟙);
    add = λ a b. (a.0 ⊕ b.0, a.1 ⊕ b.1);
    sub = λ a b. (a.0 ⊖ b.0, a.1 ⊖ b.1);
    mul = λ a b. (a.0 ⊗ b.0, a.1 ⊗ b.1);
    neg = λ a. (⊝ a.0, ⊝ a.1);
  }

  abbrev pub first : A × A → A
  first a = a.0

  abbrev pub second : A × A → A
  second a = a.1

  abbrev pub total : A × A → A
  total a = a.0 ⊕ a.1

  first_all : Homomorphism pairs ops first
  first_all = record { zero = refl; one = refl; add = λ a b. refl; sub = λ a b. refl; mul = λ a b. refl; neg = λ a. refl }

  second_all : Homomorphism pairs ops second
  second_all = record { zero = refl; one = refl; add = λ a b. refl; sub = λ a b. refl; mul = λ a b. refl; neg = λ a. refl }

  -- ---- cuts

  pub first_cuts : KeepsCuts Any pairs ops first
  first_cuts = record { subtracted = λ a b _ _ _. refl; doubled = λ a _ _. refl }

  pub second_cuts : KeepsCuts Any pairs ops second
  second_cuts = record { subtracted = λ a b _ _ _. refl; doubled = λ a _ _. refl }

  pub total_cuts : KeepsCuts Any pairs ops total
  total_cuts = record {
    subtracted = λ a b _ _ _. ring 𝓡 (a.0 ∷ a.1 ∷ b.0 ∷ b.1 ∷ []) (λ a b c d. a :+ b :- (c :+ d) := a :- c :+ (b :- d)) refl;
    doubled = λ a _ _. ring 𝓡 (a.0 ∷ a.1 ∷ []) (λ a b. num 2 :* (a :+ b) := num 2 :* a :+ num 2 :* b) refl;
  }

  pub multiple_cuts : (k : A) → KeepsCuts Any ops ops (k ⊗◌)
  multiple_cuts k = record {
    subtracted = λ a b _ _ _. ring 𝓡 (k ∷ a ∷ b ∷ []) (λ k a b. k :* a :- k :* b := k :* (a :- b)) refl;
    doubled = λ a _ _. ring 𝓡 (k ∷ a ∷ []) (λ k a. num 2 :* (k :* a) := k :* (num 2 :* a)) refl;
  }

  -- ---- folds

  first_folds : KeepsFolds pairs ops first
  first_folds = record { zero = refl; added = λ k i s o. ap (λ (r : A). s.0 ⊕ o.0 ⊗ r) (sym (hom_coeff_r first_all k i)) }

  second_folds : KeepsFolds pairs ops second
  second_folds = record { zero = refl; added = λ k i s o. ap (λ (r : A). s.1 ⊕ o.1 ⊗ r) (sym (hom_coeff_r second_all k i)) }

  total_folds : KeepsFolds pairs ops total
  total_folds = record {
    zero = sym (𝓡.add-zero 𝟘);
    added = λ k i s o.
        ring 𝓡 (s.0 ∷ s.1 ∷ o.0 ∷ o.1 ∷ coeff_r ops k i ∷ []) (λ s t o p r. s :+ t :+ (o :+ p) :* r := s :+ o :* r :+ (t :+ p :* r)) refl
        ∙ ap₂ (λ (r q : A). s.0 ⊕ o.0 ⊗ r ⊕ (s.1 ⊕ o.1 ⊗ q)) (sym (hom_coeff_r first_all k i)) (sym (hom_coeff_r second_all k i));
  }

  multiple_folds : (k : A) → KeepsFolds ops ops (k ⊗◌)
  multiple_folds k = record {
    zero = sym (R.mul_zero 𝓡 k);
    added = λ j i s o. ring 𝓡 (k ∷ s ∷ o ∷ coeff_r ops j i ∷ []) (λ k s o r. k :* s :+ k :* o :* r := k :* (s :+ o :* r)) refl;
  }

  -- ---- two polynomials as one

  paired : (c d : List A) → List (A × A)
  paired = zip_with (λ a b. (a, b))

  firsts : (c d : List A) → length c ≡ length d → map first (paired c d) ≡ c
  unfolding paired zip_with
  firsts [] d same = refl
  firsts (a ∷ c) [] same = absurd (omega arith)
  firsts (a ∷ c) (b ∷ d) same = ap (a ∷◌) (firsts c d (omega arith))

  seconds : (c d : List A) → length c ≡ length d → map second (paired c d) ≡ d
  unfolding paired zip_with
  seconds [] [] same = refl
  seconds [] (b ∷ d) same = absurd (omega arith)
  seconds (a ∷ c) [] same = absurd (omega arith)
  seconds (a ∷ c) (b ∷ d) same = ap (b ∷◌) (seconds c d (omega arith))

  totals : (c d : List A) → map total (paired c d) ≡ sum_of ops c d
  unfolding paired zip_with
  totals [] d = refl
  totals (a ∷ c) [] = refl
  totals (a ∷ c) (b ∷ d) = ap ((a ⊕ b) ∷◌) (totals c d)

  totals_split : (w : List (A × A)) → map total w ≡ sum_of ops (map first w) (map second w)
  unfolding zip_with
  totals_split [] = refl
  totals_split (a ∷ w) = ap (total a ∷◌) (totals_split w)

  -- what the three maps keep takes sums to sums
  pub sum_by_pairs : (f : List A → List A) (g : List (A × A) → List (A × A)) → ((w : List (A × A)) → f (map first w) ≡ map first (g w))
      → ((w : List (A × A)) → f (map second w) ≡ map second (g w)) → ((w : List (A × A)) → f (map total w) ≡ map total (g w))
      → (c d : List A) → length c ≡ length d → f (sum_of ops c d) ≡ sum_of ops (f c) (f d)
  sum_by_pairs f g keeps_first keeps_second keeps_total c d same =
      let w = paired c d in
      ap f (sym (totals c d))
      ∙ keeps_total w
      ∙ totals_split (g w)
      ∙ ap₂ (sum_of ops) (sym (keeps_first w) ∙ ap f (firsts c d same)) (sym (keeps_second w) ∙ ap f (seconds c d same))

  pub fold_sum : (parity : Parity) (basis : Basis) (c d : List A) → length c ≡ length d
      → fold ops parity basis (sum_of ops c d) ≡ sum_of ops (fold ops parity basis c) (fold ops parity basis d)
  fold_sum parity basis =
      let law = fold_kept (A × A) A pairs ops in
      sum_by_pairs (fold ops parity basis) (fold pairs parity basis) (law first first_folds parity basis) (law second second_folds parity basis)
      (law total total_folds parity basis)

  pub fold_multiple : (parity : Parity) (basis : Basis) (k : A) (c : List A)
      → fold ops parity basis (multiple_of ops k c) ≡ multiple_of ops k (fold ops parity basis c)
  fold_multiple parity basis k c = fold_kept A A ops ops (k ⊗◌) (multiple_folds k) parity basis c

  -- ---- the length

  pub length_sum : (c d : List A) → length c ≡ length d → length (sum_of ops c d) ≡ length c
  unfolding zip_with
  length_sum [] d same = refl
  length_sum (a ∷ c) [] same = absurd (omega arith)
  length_sum (a ∷ c) (b ∷ d) same = ap suc (length_sum c d (omega arith))
