-- Laws of finite sums f 0 + .. + f (n - 1) in a ring, and of the sum of c_j·b_j over a list c. By recursion on the number of terms.
use mathlib.Core.Path.{◌≡◌, refl, sym, ◌∙◌, ap, ap₂, fun_ext}
use mathlib.Core.List.{List, [], ◌∷◌}
use Prim.Native.Nat.{ℕ, zero, suc, ◌+◌, ◌-◌, ◌≤◌, ◌<◌}
use native.Mathlib.Nat.{add-zero, add-suc, suc-add, zero-add}
use native.Mathlib.Omega.{arith}
use lib.ListN.{length, get_or, take, drop, get_or-eq_default}
use Rattle.algebra.specs.Operations.{Operations}
use Rattle.algebra.specs.Ring.{Ring}
use Rattle.algebra.specs.Value.{sum, dot}
use Rattle.algebra.proofs.RingLaws as R
use Rattle.algebra.proofs.Solve.{◌:=◌, ◌:+◌, ◌:-◌, ring}

module _ {A : Type 0} (𝓞 : Operations A) where
  -- no terms
  pub sum_none : (f : ℕ → A) → sum 𝓞 f 0 ≡ 𝓞.zero
  unfolding sum
  sum_none f = refl

  -- the last term, and the others
  pub sum_suc : (f : ℕ → A) (n : ℕ) → sum 𝓞 f (suc n) ≡ 𝓞.add (sum 𝓞 f n) (f n)
  unfolding sum
  sum_suc f n = refl

  -- equal terms below the bound
  pub sum_ext : (f g : ℕ → A) (n : ℕ) → ((j : ℕ) → j < n → f j ≡ g j) → sum 𝓞 f n ≡ sum 𝓞 g n
  unfolding sum
  sum_ext f g zero h = refl
  sum_ext f g (suc n) h = ap₂ 𝓞.add (sum_ext f g n (λ j k. h j (omega arith))) (h n (omega arith))

  -- no coefficients
  pub dot_nil : (b : ℕ → A) → dot 𝓞 b [] ≡ 𝓞.zero
  unfolding dot
  dot_nil b = sum_none (λ j. 𝓞.mul 𝓞.zero (b j))

  -- equal b_j
  pub dot_ext : (b d : ℕ → A) (c : List A) → ((j : ℕ) → b j ≡ d j) → dot 𝓞 b c ≡ dot 𝓞 d c
  dot_ext b d c e = ap (λ f. dot 𝓞 f c) (fun_ext e)

module _ {A : Type 0} (𝓡 : Ring A) where
  open 𝓡 use {ops, add_assoc, add_comm}
  open ops use {zero as 𝟘, add as ◌⊕◌, sub as ◌⊖◌, mul as ◌⊗◌, neg as ⊝◌}

  infixl 6 ◌⊕◌
  infixl 6 ◌⊖◌
  infixl 7 ◌⊗◌
  infix 8 ⊝◌
  -- the sum of sums, term by term
  pub sum_add : (f g : ℕ → A) (n : ℕ) → sum ops (λ j. f j ⊕ g j) n ≡ sum ops f n ⊕ sum ops g n
  unfolding sum
  sum_add f g zero = sym (𝓡.add-zero 𝟘)
  sum_add f g (suc n) = ap (◌⊕ (f n ⊕ g n)) (sum_add f g n) ∙ R.add_add 𝓡 (sum ops f n) (sum ops g n) (f n) (g n)

  -- the sum of opposites
  pub sum_neg : (f : ℕ → A) (n : ℕ) → sum ops (λ j. ⊝ f j) n ≡ ⊝ sum ops f n
  unfolding sum
  sum_neg f zero = sym (R.neg_zero 𝓡)
  sum_neg f (suc n) = ap (◌⊕ ⊝ f n) (sum_neg f n) ∙ sym (R.neg_sum 𝓡 (sum ops f n) (f n))

  -- the sum of differences
  pub sum_sub : (f g : ℕ → A) (n : ℕ) → sum ops (λ j. f j ⊖ g j) n ≡ sum ops f n ⊖ sum ops g n
  unfolding sum
  sum_sub f g zero = sym (R.sub_self 𝓡 𝟘)
  sum_sub f g (suc n) =
      ap (◌⊕ (f n ⊖ g n)) (sum_sub f g n) ∙ ring 𝓡 (sum ops f n ∷ sum ops g n ∷ f n ∷ g n ∷ []) (λ s t a b. s :- t :+ (a :- b) := s :+ a :- (t :+ b)) refl

  -- the sum of multiples
  pub sum_mul : (c : A) (f : ℕ → A) (n : ℕ) → sum ops (λ j. c ⊗ f j) n ≡ c ⊗ sum ops f n
  unfolding sum
  sum_mul c f zero = sym (R.mul_zero 𝓡 c)
  sum_mul c f (suc n) = ap (◌⊕ (c ⊗ f n)) (sum_mul c f n) ∙ sym (R.distrib_left 𝓡 c (sum ops f n) (f n))

  -- the first m terms, and n more
  pub sum_split : (f : ℕ → A) (m n : ℕ) → sum ops f (m + n) ≡ sum ops f m ⊕ sum ops (λ j. f (m + j)) n
  unfolding sum
  sum_split f m zero = rw add-zero (sym (𝓡.add-zero (sum ops f m)))
  sum_split f m (suc n) =
      ap (sum ops f) (add-suc m n) ∙ ap (◌⊕ f (m + n)) (sum_split f m n) ∙ add_assoc (sum ops f m) (sum ops (λ j. f (m + j)) n) (f (m + n))

  -- the first term, and the others
  pub sum_first : (f : ℕ → A) (n : ℕ) → sum ops f (suc n) ≡ f zero ⊕ sum ops (λ j. f (suc j)) n
  unfolding sum
  sum_first f zero = R.zero-add 𝓡 (f zero) ∙ sym (𝓡.add-zero (f zero))
  sum_first f (suc n) = ap (◌⊕ f (suc n)) (sum_first f n) ∙ add_assoc (f zero) (sum ops (λ j. f (suc j)) n) (f (suc n))

  -- the terms in the other order
  pub sum_reverse : (f : ℕ → A) (n : ℕ) → sum ops f n ≡ sum ops (λ j. f (n - suc j)) n
  unfolding sum
  sum_reverse f zero = refl
  sum_reverse f (suc n) =
      add_comm (sum ops f n) (f n)
      ∙ ap₂ ◌⊕◌ (ap f last) (sum_reverse f n ∙ sum_ext ops (λ j. f (n - suc j)) (λ j. f (suc n - suc (suc j))) n (λ j h. ap f (others j)))
      ∙ sym (sum_first (λ j. f (suc n - suc j)) n)
    where
      last : n ≡ suc n - suc zero
      last = omega arith

      others : (j : ℕ) → n - suc j ≡ suc n - suc (suc j)
      others j = omega arith

  -- terms that are zero
  pub sum_zeros : (f : ℕ → A) (n : ℕ) → ((j : ℕ) → j < n → f j ≡ 𝟘) → sum ops f n ≡ 𝟘
  unfolding sum
  sum_zeros f zero h = refl
  sum_zeros f (suc n) h = ap₂ ◌⊕◌ (sum_zeros f n (λ j k. h j (omega arith))) (h n (omega arith)) ∙ 𝓡.add-zero 𝟘

  -- terms that are zero from m on
  pub sum_past : (f : ℕ → A) (m n : ℕ) → m ≤ n → ((j : ℕ) → m ≤ j → f j ≡ 𝟘) → sum ops f n ≡ sum ops f m
  sum_past f m n h z =
      ap (sum ops f) more
      ∙ sum_split f m (n - m)
      ∙ ap (sum ops f m ⊕◌) (sum_zeros (λ j. f (m + j)) (n - m) (λ j k. z (m + j) (omega arith)))
      ∙ 𝓡.add-zero (sum ops f m)
    where
      more : n ≡ m + (n - m)
      more = omega arith

  -- a sum of sums, by rows or by columns
  pub sum_swap : (f : ℕ → ℕ → A) (m n : ℕ) → sum ops (λ k. sum ops (f k) n) m ≡ sum ops (λ i. sum ops (λ k. f k i) m) n
  sum_swap f zero n = sum_none ops (λ k. sum ops (f k) n) ∙ sym (sum_zeros (λ i. sum ops (λ k. f k i) 0) n (λ i h. sum_none ops (λ k. f k i)))
  sum_swap f (suc m) n =
      sum_suc ops (λ k. sum ops (f k) n) m
      ∙ ap (◌⊕ sum ops (f m) n) (sum_swap f m n)
      ∙ sym (sum_add (λ i. sum ops (λ k. f k i) m) (f m) n)
      ∙ sum_ext ops (λ i. sum ops (λ k. f k i) m ⊕ f m i) (λ i. sum ops (λ k. f k i) (suc m)) n (λ i h. sym (sum_suc ops (λ k. f k i) m))

  -- ---- the sum of c_j·b_j

  -- the first coefficient, and the others
  pub dot_cons : (b : ℕ → A) (c : A) (cs : List A) → dot ops b (c ∷ cs) ≡ c ⊗ b 0 ⊕ dot ops (λ j. b (suc j)) cs
  unfolding dot
  dot_cons b c cs = sum_first (λ j. get_or (c ∷ cs) j 𝟘 ⊗ b j) (length cs)

  -- a factor of all b_j
  pub dot_mul : (x : A) (b : ℕ → A) (c : List A) → dot ops (λ j. x ⊗ b j) c ≡ x ⊗ dot ops b c
  unfolding dot
  dot_mul x b c =
      sum_ext ops (λ j. get_or c j 𝟘 ⊗ (x ⊗ b j)) (λ j. x ⊗ (get_or c j 𝟘 ⊗ b j)) (length c) (λ j h. R.mul_left_comm 𝓡 (get_or c j 𝟘) x (b j))
      ∙ sum_mul x (λ j. get_or c j 𝟘 ⊗ b j) (length c)

  -- b_j that are zero
  pub dot_zeros : (b : ℕ → A) (c : List A) → ((j : ℕ) → j < length c → b j ≡ 𝟘) → dot ops b c ≡ 𝟘
  unfolding dot
  dot_zeros b c z = sum_zeros (λ j. get_or c j 𝟘 ⊗ b j) (length c) (λ j h. ap (get_or c j 𝟘 ⊗◌) (z j h) ∙ R.mul_zero 𝓡 (get_or c j 𝟘))

  -- the first n coefficients, and the others
  pub dot_split : (b : ℕ → A) (n : ℕ) (c : List A) → dot ops b c ≡ dot ops b (take n c) ⊕ dot ops (λ j. b (n + j)) (drop n c)
  dot_split b zero c = sym (ap₂ ◌⊕◌ (dot_nil ops b) (dot_ext ops (λ j. b (zero + j)) b c (λ j. ap b (zero-add j))) ∙ R.zero-add 𝓡 (dot ops b c))
  dot_split b (suc n) [] = dot_nil ops b ∙ sym (ap₂ ◌⊕◌ (dot_nil ops b) (dot_nil ops (λ j. b (suc n + j))) ∙ 𝓡.add-zero 𝟘)
  dot_split b (suc n) (c ∷ cs) =
      dot_cons b c cs
      ∙ ap (c ⊗ b 0 ⊕◌) (dot_split (λ j. b (suc j)) n cs)
      ∙ sym (add_assoc (c ⊗ b 0) (dot ops (λ j. b (suc j)) (take n cs)) (dot ops (λ j. b (suc (n + j))) (drop n cs)))
      ∙ ap₂ ◌⊕◌ (sym (dot_cons b c (take n cs))) (dot_ext ops (λ j. b (suc (n + j))) (λ j. b (suc n + j)) (drop n cs) (λ j. ap b (sym (suc-add n j))))

  -- the sum may run past the list's end
  pub dot_past : (b : ℕ → A) (c : List A) (n : ℕ) → length c ≤ n → sum ops (λ j. get_or c j 𝟘 ⊗ b j) n ≡ dot ops b c
  unfolding dot
  dot_past b c n h = sum_past (λ j. get_or c j 𝟘 ⊗ b j) (length c) n h (λ j k. ap (◌⊗ b j) (get_or-eq_default c 𝟘 k) ∙ R.zero-mul 𝓡 (b j))

  -- a list with the coefficients f j at the places below n, and none from there on
  pub dot_is : (b : ℕ → A) (c : List A) (f : ℕ → A) (n : ℕ) → length c ≤ n → ((j : ℕ) → j < n → get_or c j 𝟘 ≡ f j) → dot ops b c ≡ sum ops (λ j. f j ⊗ b j) n
  dot_is b c f n h e = sym (dot_past b c n h) ∙ sum_ext ops (λ j. get_or c j 𝟘 ⊗ b j) (λ j. f j ⊗ b j) n (λ j k. ap (◌⊗ b j) (e j k))
