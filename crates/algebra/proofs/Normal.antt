-- The normal form of an expression in variables, which computes. An equation holds in every commutative ring if both sides have one normal form.
-- That is so since each step to the normal form keeps the value; nothing need be known of the form itself. Solve.antt has the calls that use it.
-- The definitions are `abbrev pub` because a caller's `refl` computes them.
use mathlib.Core.Path.{◌≡◌, refl, sym, ◌∙◌, ap, ap₂}
use mathlib.Core.List.{List, [], ◌∷◌}
use Prim.Native.Nat.{ℕ, zero, suc}
use lib.IntN.{ℤ, pos, negsuc, suc_ℤ, pred_ℤ, neg_ℤ, ◌+ℤ◌, ◌*ℤ◌, suc-pred, suc_ℤ-*ℤ, pred_ℤ-*ℤ, zero-*ℤ, +ℤ_idl, +ℤ_invr, suc_ℤ-+ℤ, pred_ℤ-+ℤ}
use Rattle.algebra.specs.Ring.{Ring}
use Rattle.algebra.proofs.Integers.{induction}
use Rattle.algebra.proofs.RingLaws as R

-- an expression in the variables 0, 1, ..; `num n` is 1 + .. + 1, so that `num 2 :* x` is what `double` makes of x
infixl 6 ◌:+◌
infixl 6 ◌:-◌
infixl 7 ◌:*◌
infix 8 :-◌
pub data Exp : Type 0 where
  var : ℕ → Exp
  num : ℕ → Exp
  ◌:+◌ : Exp → Exp → Exp
  ◌:-◌ : Exp → Exp → Exp
  ◌:*◌ : Exp → Exp → Exp
  :-◌ : Exp → Exp

-- ---- the normal form

-- `horner p q` is p + x·q, where x is the first variable, which p does not have: p counts its variables from the next one
pub data Normal : Type 0 where
  constant : ℤ → Normal
  horner : Normal → Normal → Normal

-- p + x·q, without x where q is zero and p a number
abbrev pub shortest : Normal → Normal → Normal
shortest (constant a) (constant (pos zero)) = constant a
shortest (constant a) (constant (pos (suc c))) = horner (constant a) (constant (pos (suc c)))
shortest (constant a) (constant (negsuc c)) = horner (constant a) (constant (negsuc c))
shortest (constant a) (horner p q) = horner (constant a) (horner p q)
shortest (horner r s) q = horner (horner r s) q

-- c + p
abbrev pub add_number : ℤ → Normal → Normal
add_number c (constant a) = constant (c +ℤ a)
add_number c (horner p q) = horner (add_number c p) q

-- p + q
abbrev pub plus : Normal → Normal → Normal
plus (constant a) r = add_number a r
plus (horner p q) (constant b) = horner (add_number b p) q
plus (horner p q) (horner r s) = shortest (plus p r) (plus q s)

-- f at each coefficient of a power of the first variable
abbrev pub each : (Normal → Normal) → Normal → Normal
each f (constant a) = shortest (f (constant a)) (constant (pos 0))
each f (horner p q) = shortest (f p) (each f q)

-- c·p
abbrev pub scale : ℤ → Normal → Normal
scale c (constant a) = constant (c *ℤ a)
scale c (horner p q) = shortest (scale c p) (scale c q)

-- p·q
abbrev pub times : Normal → Normal → Normal
times (constant a) r = scale a r
times (horner p q) r = plus (each (λ s. times p s) r) (shortest (constant (pos 0)) (times q r))

-- variable i
abbrev pub variable : ℕ → Normal
variable zero = horner (constant (pos 0)) (constant (pos 1))
variable (suc i) = horner (variable i) (constant (pos 0))

-- the normal form of an expression
abbrev pub normal : Exp → Normal
normal (var i) = variable i
normal (num n) = constant (pos n)
normal (a :+ b) = plus (normal a) (normal b)
normal (a :- b) = plus (normal a) (scale (negsuc 0) (normal b))
normal (a :* b) = times (normal a) (normal b)
normal (:- a) = scale (negsuc 0) (normal a)

-- ---- the values, in a ring

module _ {A : Type 0} (𝓡 : Ring A) where
  open 𝓡 use {ops, add_assoc, add_comm, add-zero, sub_neg, mul_assoc, mul-one, distrib}
  open ops use {zero as 𝟘, one as 𝟙, add as ◌⊕◌, sub as ◌⊖◌, mul as ◌⊗◌, neg as ⊝◌}

  infixl 6 ◌⊕◌
  infixl 6 ◌⊖◌
  infixl 7 ◌⊗◌
  infix 8 ⊝◌
  -- a natural number in the ring: 1 + .. + 1
  abbrev pub natural : ℕ → A
  natural zero = 𝟘
  natural (suc zero) = 𝟙
  natural (suc (suc n)) = natural (suc n) ⊕ 𝟙

  -- a whole number in the ring
  abbrev pub whole : ℤ → A
  whole (pos n) = natural n
  whole (negsuc n) = ⊝ natural (suc n)

  -- the first of the variables' values, zero where none is given
  abbrev pub head : List A → A
  head [] = 𝟘
  head (x ∷ ρ) = x

  -- the others
  abbrev pub tail : List A → List A
  tail [] = []
  tail (x ∷ ρ) = ρ

  -- the value of variable i
  abbrev pub value_var : List A → ℕ → A
  value_var ρ zero = head ρ
  value_var ρ (suc i) = value_var (tail ρ) i

  -- what an expression says
  abbrev pub value_exp : List A → Exp → A
  value_exp ρ (var i) = value_var ρ i
  value_exp ρ (num n) = natural n
  value_exp ρ (a :+ b) = value_exp ρ a ⊕ value_exp ρ b
  value_exp ρ (a :- b) = value_exp ρ a ⊖ value_exp ρ b
  value_exp ρ (a :* b) = value_exp ρ a ⊗ value_exp ρ b
  value_exp ρ (:- a) = ⊝ value_exp ρ a

  -- ---- the whole numbers go into the ring with their sums and products

  whole_suc : (k : ℤ) → whole (suc_ℤ k) ≡ whole k ⊕ 𝟙
  whole_suc (pos zero) = sym (R.zero-add 𝓡 𝟙)
  whole_suc (pos (suc n)) = refl
  whole_suc (negsuc zero) = sym (R.neg_add 𝓡 𝟙)
  whole_suc (negsuc (suc n)) = sym (simp (R.neg_sum 𝓡, add_assoc, R.neg_add 𝓡, add-zero))

  whole_pred : (k : ℤ) → whole (pred_ℤ k) ≡ whole k ⊕ ⊝ 𝟙
  whole_pred k = R.cancel 𝓡 (whole (pred_ℤ k)) (whole k ⊕ ⊝ 𝟙) 𝟙
      (sym (whole_suc (pred_ℤ k)) ∙ ap whole (suc-pred k) ∙ sym (simp (add_assoc, R.neg_add 𝓡, add-zero)))

  whole_add : (a b : ℤ) → whole (a +ℤ b) ≡ whole a ⊕ whole b
  whole_add a b = induction (λ x. whole (x +ℤ b) ≡ whole x ⊕ whole b)
      (ap whole (+ℤ_idl b) ∙ sym (R.zero-add 𝓡 (whole b)))
      (λ k h. ap whole (suc_ℤ-+ℤ k b) ∙ whole_suc (k +ℤ b) ∙ ap (◌⊕ 𝟙) h ∙ swap (whole k) (whole b) 𝟙 ∙ ap (◌⊕ whole b) (sym (whole_suc k)))
      (λ k h. ap whole (pred_ℤ-+ℤ k b) ∙ whole_pred (k +ℤ b) ∙ ap (◌⊕ ⊝ 𝟙) h ∙ swap (whole k) (whole b) (⊝ 𝟙) ∙ ap (◌⊕ whole b) (sym (whole_pred k)))
      a
    where
      swap : (x y z : A) → x ⊕ y ⊕ z ≡ x ⊕ z ⊕ y
      swap x y z = simp (add_assoc, add_comm y z)

  whole_neg : (a : ℤ) → whole (neg_ℤ a) ≡ ⊝ whole a
  whole_neg a = R.neg_unique 𝓡 (whole a) (whole (neg_ℤ a)) (sym (whole_add a (neg_ℤ a)) ∙ ap whole (+ℤ_invr a))

  whole_mul : (a b : ℤ) → whole (a *ℤ b) ≡ whole a ⊗ whole b
  whole_mul a b = induction (λ x. whole (x *ℤ b) ≡ whole x ⊗ whole b)
      (ap whole (zero-*ℤ b) ∙ sym (R.zero-mul 𝓡 (whole b)))
      (λ k h. ap whole (suc_ℤ-*ℤ k b) ∙ whole_add (k *ℤ b) b ∙ simp (h, whole_suc, distrib, R.one-mul 𝓡))
      (λ k h. ap whole (pred_ℤ-*ℤ k b) ∙ whole_add (k *ℤ b) (neg_ℤ b) ∙ simp (h, whole_pred, whole_neg, distrib, R.neg_mul 𝓡, R.one-mul 𝓡))
      a

  -- ---- each step to the normal form keeps the value

  value_normal : List A → Normal → A
  value_normal ρ (constant c) = whole c
  value_normal ρ (horner p q) = value_normal (tail ρ) p ⊕ head ρ ⊗ value_normal ρ q

  shortest_is : (ρ : List A) (p q : Normal) → value_normal ρ (shortest p q) ≡ value_normal (tail ρ) p ⊕ head ρ ⊗ value_normal ρ q
  unfolding value_normal
  shortest_is ρ (constant a) (constant (pos zero)) = sym (simp (R.mul_zero 𝓡, add-zero))
  shortest_is ρ (constant a) (constant (pos (suc c))) = refl
  shortest_is ρ (constant a) (constant (negsuc c)) = refl
  shortest_is ρ (constant a) (horner p q) = refl
  shortest_is ρ (horner r s) q = refl

  add_number_is : (ρ : List A) (c : ℤ) (p : Normal) → value_normal ρ (add_number c p) ≡ whole c ⊕ value_normal ρ p
  unfolding value_normal
  add_number_is ρ c (constant a) = whole_add c a
  add_number_is ρ c (horner p q) =
      ap (◌⊕ (head ρ ⊗ value_normal ρ q)) (add_number_is (tail ρ) c p) ∙ add_assoc (whole c) (value_normal (tail ρ) p) (head ρ ⊗ value_normal ρ q)

  plus_is : (ρ : List A) (p q : Normal) → value_normal ρ (plus p q) ≡ value_normal ρ p ⊕ value_normal ρ q
  unfolding value_normal
  plus_is ρ (constant a) r = add_number_is ρ a r
  plus_is ρ (horner p q) (constant b) = add_number_is ρ b (horner p q) ∙ add_comm (whole b) (value_normal (tail ρ) p ⊕ head ρ ⊗ value_normal ρ q)
  plus_is ρ (horner p q) (horner r s) =
      shortest_is ρ (plus p r) (plus q s)
      ∙ ap₂ (λ u v. u ⊕ head ρ ⊗ v) (plus_is (tail ρ) p r) (plus_is ρ q s)
      ∙ ap (value_normal (tail ρ) p ⊕ value_normal (tail ρ) r ⊕◌) (R.distrib_left 𝓡 (head ρ) (value_normal ρ q) (value_normal ρ s))
      ∙ R.add_add 𝓡 (value_normal (tail ρ) p) (value_normal (tail ρ) r) (head ρ ⊗ value_normal ρ q) (head ρ ⊗ value_normal ρ s)

  -- k times p + x·q, where u and v are k times p and q
  horner_mul : (ρ : List A) (k u v : A) (p q : Normal)
      → u ≡ k ⊗ value_normal (tail ρ) p → v ≡ k ⊗ value_normal ρ q → u ⊕ head ρ ⊗ v ≡ k ⊗ value_normal ρ (horner p q)
  unfolding value_normal
  horner_mul ρ k u v p q e f =
      ap₂ (λ u v. u ⊕ head ρ ⊗ v) e f
      ∙ ap (k ⊗ value_normal (tail ρ) p ⊕◌) (R.mul_left_comm 𝓡 (head ρ) k (value_normal ρ q))
      ∙ sym (R.distrib_left 𝓡 k (value_normal (tail ρ) p) (head ρ ⊗ value_normal ρ q))

  each_is : (ρ : List A) (f : Normal → Normal) (k : A) → ((p : Normal) → value_normal (tail ρ) (f p) ≡ k ⊗ value_normal (tail ρ) p)
      → (p : Normal) → value_normal ρ (each f p) ≡ k ⊗ value_normal ρ p
  unfolding value_normal
  each_is ρ f k e (constant a) = shortest_is ρ (f (constant a)) (constant (pos 0)) ∙ ap (◌⊕ (head ρ ⊗ 𝟘)) (e (constant a)) ∙ simp (R.mul_zero 𝓡, add-zero)
  each_is ρ f k e (horner p q) =
      shortest_is ρ (f p) (each f q)
      ∙ horner_mul ρ k (value_normal (tail ρ) (f p)) (value_normal ρ (each f q)) p q (e p) (each_is ρ f k e q)

  scale_is : (ρ : List A) (c : ℤ) (p : Normal) → value_normal ρ (scale c p) ≡ whole c ⊗ value_normal ρ p
  unfolding value_normal
  scale_is ρ c (constant a) = whole_mul c a
  scale_is ρ c (horner p q) =
      shortest_is ρ (scale c p) (scale c q)
      ∙ horner_mul ρ (whole c) (value_normal (tail ρ) (scale c p)) (value_normal ρ (scale c q)) p q (scale_is (tail ρ) c p) (scale_is ρ c q)

  times_is : (ρ : List A) (p q : Normal) → value_normal ρ (times p q) ≡ value_normal ρ p ⊗ value_normal ρ q
  unfolding value_normal
  times_is ρ (constant a) r = scale_is ρ a r
  times_is ρ (horner p q) r =
      plus_is ρ (each (λ s. times p s) r) (shortest (constant (pos 0)) (times q r))
      ∙ ap₂ ◌⊕◌ (each_is ρ (λ s. times p s) (value_normal (tail ρ) p) (λ s. times_is (tail ρ) p s) r)
      (shortest_is ρ (constant (pos 0)) (times q r)
      ∙ R.zero-add 𝓡 (head ρ ⊗ value_normal ρ (times q r))
      ∙ ap (head ρ ⊗◌) (times_is ρ q r)
      ∙ sym (mul_assoc (head ρ) (value_normal ρ q) (value_normal ρ r)))
      ∙ sym (distrib (value_normal (tail ρ) p) (head ρ ⊗ value_normal ρ q) (value_normal ρ r))

  variable_is : (ρ : List A) (i : ℕ) → value_normal ρ (variable i) ≡ value_var ρ i
  unfolding value_normal
  variable_is ρ zero = R.zero-add 𝓡 (head ρ ⊗ 𝟙) ∙ mul-one (head ρ)
  variable_is ρ (suc i) =
      ap (value_normal (tail ρ) (variable i) ⊕◌) (R.mul_zero 𝓡 (head ρ)) ∙ add-zero (value_normal (tail ρ) (variable i)) ∙ variable_is (tail ρ) i

  opposite_is : (ρ : List A) (p : Normal) → value_normal ρ (scale (negsuc 0) p) ≡ ⊝ value_normal ρ p
  opposite_is ρ p = scale_is ρ (negsuc 0) p ∙ R.neg_mul 𝓡 𝟙 (value_normal ρ p) ∙ ap ⊝◌ (R.one-mul 𝓡 (value_normal ρ p))

  normal_is : (ρ : List A) (e : Exp) → value_normal ρ (normal e) ≡ value_exp ρ e
  unfolding value_normal
  normal_is ρ (var i) = variable_is ρ i
  normal_is ρ (num n) = refl
  normal_is ρ (a :+ b) = plus_is ρ (normal a) (normal b) ∙ ap₂ ◌⊕◌ (normal_is ρ a) (normal_is ρ b)
  normal_is ρ (a :- b) =
      plus_is ρ (normal a) (scale (negsuc 0) (normal b))
      ∙ ap₂ ◌⊕◌ (normal_is ρ a) (opposite_is ρ (normal b) ∙ ap ⊝◌ (normal_is ρ b))
      ∙ sym (sub_neg (value_exp ρ a) (value_exp ρ b))
  normal_is ρ (a :* b) = times_is ρ (normal a) (normal b) ∙ ap₂ ◌⊗◌ (normal_is ρ a) (normal_is ρ b)
  normal_is ρ (:- a) = opposite_is ρ (normal a) ∙ ap ⊝◌ (normal_is ρ a)

  -- expressions with one normal form have one value, in every ring and at all values of the variables
  pub equal_of_normal : (ρ : List A) (l r : Exp) → normal l ≡ normal r → value_exp ρ l ≡ value_exp ρ r
  equal_of_normal ρ l r h = sym (normal_is ρ l) ∙ ap (value_normal ρ) h ∙ normal_is ρ r
