-- What stands where after a cut at p: the low part, the high part, and the coefficient at each place of them. The first laws ask nothing of the operations.
use mathlib.Core.Path.{◌≡◌, refl, sym, ◌∙◌, ap, ap₂}
use mathlib.Core.List.{List, [], ◌∷◌, map, reverse}
use Prim.Native.Nat.{ℕ, zero, suc, ◌+◌, ◌-◌, ◌≤◌, ◌<◌}
use native.Mathlib.Omega.{arith}
use lib.ListN.{length, get_or, take, drop, length-append, length-reverse, length-drop, length-map}
use lib.Seq.{take_at, drop_at, get_or-take, get_or-drop, length-take-le}
use Rattle.algebra.specs.Cut.{differences, doubled, lowered, cut_at}
use Rattle.algebra.specs.Operations.{Operations, double}
use Rattle.algebra.specs.Ring.{Ring}
use Rattle.algebra.specs.declared.Basis.{Basis}
use Rattle.algebra.specs.declared.Basis.TheVariants.{Monomial, Chebyshev}
use Rattle.algebra.proofs.Lists.{get_d_reverse}
use Rattle.algebra.proofs.RingLaws as R

module _ {A : Type 0} (𝓞 : Operations A) where
  -- the first list's length
  pub length_differences : (xs ys : List A) → length (differences 𝓞 xs ys) ≡ length xs
  unfolding differences
  length_differences [] ys = refl
  length_differences (x ∷ xs) [] = refl
  length_differences (x ∷ xs) (y ∷ ys) = ap suc (length_differences xs ys)

  -- doubling keeps the length
  pub length_doubled : (xs : List A) → length (doubled 𝓞 xs) ≡ length xs
  unfolding doubled
  length_doubled [] = refl
  length_doubled (x ∷ xs) = ap suc (length-map xs (double 𝓞))

  module _ (p : ℕ) (c : List A) (under : p ≤ length c) where
    -- low has p coefficients
    pub length_lowered : length (lowered 𝓞 p c) ≡ p
    unfolding lowered
    length_lowered =
        length-reverse (differences 𝓞 (reverse (take p c)) (drop (suc p) c))
        ∙ length_differences (reverse (take p c)) (drop (suc p) c)
        ∙ length-reverse (take p c)
        ∙ length-take-le p c under

    -- the first p places hold low
    pub cut_low : take p (cut_at 𝓞 Chebyshev p c) ≡ lowered 𝓞 p c
    unfolding cut_at
    cut_low = take_at (lowered 𝓞 p c) (doubled 𝓞 (drop p c)) p length_lowered

    -- the others hold high
    pub cut_high : drop p (cut_at 𝓞 Chebyshev p c) ≡ doubled 𝓞 (drop p c)
    unfolding cut_at
    cut_high = drop_at (lowered 𝓞 p c) (doubled 𝓞 (drop p c)) p length_lowered

    -- a cut keeps the length
    pub cut_length : (basis : Basis) → length (cut_at 𝓞 basis p c) ≡ length c
    unfolding cut_at
    cut_length Monomial = refl
    cut_length Chebyshev = rw (length-append, length_lowered, length_doubled, length-drop) (omega arith)

module _ {A : Type 0} (𝓡 : Ring A) where
  open 𝓡 use {ops}
  open ops use {zero as 𝟘, sub as ◌⊖◌}

  infixl 6 ◌⊖◌
  get_d_differences : (xs ys : List A) (m : ℕ) → m < length xs → get_or (differences ops xs ys) m 𝟘 ≡ get_or xs m 𝟘 ⊖ get_or ys m 𝟘
  unfolding differences
  get_d_differences [] ys m h = absurd (omega arith)
  get_d_differences (x ∷ xs) [] m h = sym (R.sub_zero 𝓡 (get_or (x ∷ xs) m 𝟘))
  get_d_differences (x ∷ xs) (y ∷ ys) zero h = refl
  get_d_differences (x ∷ xs) (y ∷ ys) (suc m) h = get_d_differences xs ys m (omega arith)

  -- r_i = c_i - c_(2p-i)
  pub get_d_lowered : (p : ℕ) (c : List A) → p ≤ length c → (i : ℕ) → i < p → get_or (lowered ops p c) i 𝟘 ≡ get_or c i 𝟘 ⊖ get_or c (p + (p - i)) 𝟘
  unfolding lowered
  get_d_lowered p c under i h =
      let taken : length (take p c) ≡ p = length-take-le p c under in
      let turned : length (reverse (take p c)) ≡ p = length-reverse (take p c) ∙ taken in
      let size : length (differences ops (reverse (take p c)) (drop (suc p) c)) ≡ p = length_differences ops (reverse (take p c)) (drop (suc p) c) ∙ turned in
      let mirrored : suc p + (p - suc i) ≡ p + (p - i) = omega arith in
      get_d_reverse (differences ops (reverse (take p c)) (drop (suc p) c)) (p - suc i) i 𝟘 (omega arith)
      ∙ get_d_differences (reverse (take p c)) (drop (suc p) c) (p - suc i) (omega arith)
      ∙ ap₂ ◌⊖◌
      (get_d_reverse (take p c) i (p - suc i) 𝟘 (omega arith) ∙ get_or-take p c i 𝟘 h)
      (get_or-drop (suc p) c (p - suc i) 𝟘 ∙ ap (λ k. get_or c k 𝟘) mirrored)

  -- q_0 is the first coefficient as it is
  pub get_d_doubled_zero : (xs : List A) → get_or (doubled ops xs) 0 𝟘 ≡ get_or xs 0 𝟘
  unfolding doubled
  get_d_doubled_zero [] = refl
  get_d_doubled_zero (x ∷ xs) = refl

  get_d_double : (xs : List A) (j : ℕ) → get_or (map (double ops) xs) j 𝟘 ≡ double ops (get_or xs j 𝟘)
  get_d_double [] j = sym (R.mul_zero 𝓡 _)
  get_d_double (x ∷ xs) zero = refl
  get_d_double (x ∷ xs) (suc j) = get_d_double xs j

  -- q_j is doubled, for j ≥ 1
  pub get_d_doubled_suc : (xs : List A) (j : ℕ) → get_or (doubled ops xs) (suc j) 𝟘 ≡ double ops (get_or xs (suc j) 𝟘)
  unfolding doubled
  get_d_doubled_suc [] j = sym (R.mul_zero 𝓡 _)
  get_d_doubled_suc (x ∷ xs) j = get_d_double xs j
