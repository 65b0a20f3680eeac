-- What follows from the laws of a commutative ring, in every one: zero and one on the other side, cancelling, and how negation meets sums and products.
use mathlib.Core.Path.{◌≡◌, sym, ◌∙◌, ap}
use Rattle.algebra.specs.Ring.{Ring}

module _ {A : Type 0} (𝓡 : Ring A) where
  open 𝓡 use {ops, add_assoc, add_comm, add-zero, add_neg, sub_neg, mul_assoc, mul_comm, mul-one, distrib}
  open ops use {zero as 𝟘, one as 𝟙, add as ◌⊕◌, sub as ◌⊖◌, mul as ◌⊗◌, neg as ⊝◌}

  infixl 6 ◌⊕◌
  infixl 6 ◌⊖◌
  infixl 7 ◌⊗◌
  infix 8 ⊝◌
  -- zero is neutral on the left
  pub zero-add : (a : A) → 𝟘 ⊕ a ≡ a
  zero-add a = add_comm 𝟘 a ∙ add-zero a

  -- the opposite on the left
  pub neg_add : (a : A) → ⊝ a ⊕ a ≡ 𝟘
  neg_add a = add_comm (⊝ a) a ∙ add_neg a

  -- the second term of a sum goes first
  pub add_left_comm : (a b c : A) → a ⊕ (b ⊕ c) ≡ b ⊕ (a ⊕ c)
  add_left_comm a b c = sym (add_assoc a b c) ∙ ap (◌⊕ c) (add_comm a b) ∙ add_assoc b a c

  -- the second factor of a product goes first
  pub mul_left_comm : (a b c : A) → a ⊗ (b ⊗ c) ≡ b ⊗ (a ⊗ c)
  mul_left_comm a b c = sym (mul_assoc a b c) ∙ ap (◌⊗ c) (mul_comm a b) ∙ mul_assoc b a c

  -- one is neutral on the left
  pub one-mul : (a : A) → 𝟙 ⊗ a ≡ a
  one-mul a = mul_comm 𝟙 a ∙ mul-one a

  -- a times a sum, term by term
  pub distrib_left : (a b c : A) → a ⊗ (b ⊕ c) ≡ a ⊗ b ⊕ a ⊗ c
  distrib_left a b c = rw (mul_comm a (b ⊕ c), distrib b c a, mul_comm b a, mul_comm c a)

  -- what is added on both sides can be taken off
  pub cancel : (a b c : A) → a ⊕ c ≡ b ⊕ c → a ≡ b
  cancel a b c h = sym (taken_off a) ∙ ap (◌⊕ ⊝ c) h ∙ taken_off b
    where
      taken_off : (x : A) → x ⊕ c ⊕ ⊝ c ≡ x
      taken_off x = simp (add_assoc, add_neg, add-zero)

  -- zero times anything is zero
  pub zero-mul : (a : A) → 𝟘 ⊗ a ≡ 𝟘
  zero-mul a = cancel (𝟘 ⊗ a) 𝟘 (𝟘 ⊗ a) (sym (distrib 𝟘 𝟘 a) ∙ simp (add-zero, zero-add))

  -- and so on the other side
  pub mul_zero : (a : A) → a ⊗ 𝟘 ≡ 𝟘
  mul_zero a = mul_comm a 𝟘 ∙ zero-mul a

  -- what gives zero with a is the opposite of a
  pub neg_unique : (a b : A) → a ⊕ b ≡ 𝟘 → b ≡ ⊝ a
  neg_unique a b h = cancel b (⊝ a) a (add_comm b a ∙ h ∙ sym (neg_add a))

  -- zero is its own opposite
  pub neg_zero : ⊝ 𝟘 ≡ 𝟘
  neg_zero = sym (neg_unique 𝟘 𝟘 (add-zero 𝟘))

  -- the opposite of a factor gives the opposite of the product
  pub neg_mul : (a b : A) → ⊝ a ⊗ b ≡ ⊝ (a ⊗ b)
  neg_mul a b = neg_unique (a ⊗ b) (⊝ a ⊗ b) (sym (distrib a (⊝ a) b) ∙ ap (◌⊗ b) (add_neg a) ∙ zero-mul b)

  -- and so of the second factor
  pub mul_neg : (a b : A) → a ⊗ ⊝ b ≡ ⊝ (a ⊗ b)
  mul_neg a b = rw (mul_comm a (⊝ b), neg_mul b a, mul_comm b a)

  -- the sum of two sums, by parts
  pub add_add : (a b c d : A) → (a ⊕ b) ⊕ (c ⊕ d) ≡ (a ⊕ c) ⊕ (b ⊕ d)
  add_add a b c d = simp (add_assoc, add_left_comm b c d)

  -- the opposite of a sum, term by term
  pub neg_sum : (a b : A) → ⊝ (a ⊕ b) ≡ ⊝ a ⊕ ⊝ b
  neg_sum a b = sym (neg_unique (a ⊕ b) (⊝ a ⊕ ⊝ b) (add_add a b (⊝ a) (⊝ b) ∙ simp (add_neg, add-zero)))

  -- a thing less itself
  pub sub_self : (a : A) → a ⊖ a ≡ 𝟘
  sub_self a = sub_neg a a ∙ add_neg a

  -- a thing less zero
  pub sub_zero : (a : A) → a ⊖ 𝟘 ≡ a
  sub_zero a = sub_neg a 𝟘 ∙ ap (a ⊕◌) neg_zero ∙ add-zero a

  -- things whose difference is zero are equal
  pub equal_of_sub : (a b : A) → a ⊖ b ≡ 𝟘 → a ≡ b
  equal_of_sub a b h = cancel a b (⊝ b) (sym (sub_neg a b) ∙ h ∙ sym (add_neg b))
