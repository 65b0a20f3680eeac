-- The whole numbers are a commutative ring. lib.IntN has the laws of their sums; those of their products go by induction, one up and one down from 0.
use mathlib.Core.Path.{◌≡◌, refl, sym, ◌∙◌, ap}
use Prim.Native.Nat.{zero, suc}
use lib.IntN.{ℤ, pos, negsuc, suc_ℤ, pred_ℤ, neg_ℤ, one, ◌+ℤ◌, ◌*ℤ◌, suc_ℤ-*ℤ, pred_ℤ-*ℤ, zero-*ℤ, *ℤ_comm, *ℤ-one}
use lib.IntN.{+ℤ_assoc, +ℤ_comm, +ℤ_idl, +ℤ_idr, +ℤ_invl, +ℤ_invr, suc_ℤ-+ℤ, pred_ℤ-+ℤ}
use Rattle.algebra.specs.Operations.{whole_ops}
use Rattle.algebra.specs.Ring.{Ring}

-- what holds at 0, and goes one up and one down, holds at every whole number
pub induction {ℓ} : (P : ℤ → Type ℓ) → P (pos zero) → ((k : ℤ) → P k → P (suc_ℤ k)) → ((k : ℤ) → P k → P (pred_ℤ k)) → (k : ℤ) → P k
induction P none up down (pos zero) = none
induction P none up down (pos (suc n)) = up (pos n) (induction P none up down (pos n))
induction P none up down (negsuc zero) = down (pos zero) none
induction P none up down (negsuc (suc n)) = down (negsuc n) (induction P none up down (negsuc n))

-- the last two terms in the other order
+ℤ-swap : (a b c : ℤ) → a +ℤ b +ℤ c ≡ a +ℤ c +ℤ b
+ℤ-swap a b c = +ℤ_assoc a b c ∙ ap (a +ℤ◌) (+ℤ_comm b c) ∙ sym (+ℤ_assoc a c b)

-- a sum times c, term by term
pub *ℤ-distribʳ : (a b c : ℤ) → (a +ℤ b) *ℤ c ≡ a *ℤ c +ℤ b *ℤ c
*ℤ-distribʳ a b c = induction (λ x. (x +ℤ b) *ℤ c ≡ x *ℤ c +ℤ b *ℤ c)
    (rw (+ℤ_idl, zero-*ℤ, +ℤ_idl))
    (λ k h. rw (suc_ℤ-+ℤ, suc_ℤ-*ℤ (k +ℤ b) c, suc_ℤ-*ℤ k c, h) (+ℤ-swap (k *ℤ c) (b *ℤ c) c))
    (λ k h. rw (pred_ℤ-+ℤ, pred_ℤ-*ℤ (k +ℤ b) c, pred_ℤ-*ℤ k c, h) (+ℤ-swap (k *ℤ c) (b *ℤ c) (neg_ℤ c)))
    a

-- what gives 0 with a is the opposite of a
neg_unique : (a b : ℤ) → a +ℤ b ≡ pos zero → b ≡ neg_ℤ a
neg_unique a b h = sym (+ℤ_idl b) ∙ ap (◌+ℤ b) (sym (+ℤ_invl a)) ∙ +ℤ_assoc (neg_ℤ a) a b ∙ ap (neg_ℤ a +ℤ◌) h ∙ +ℤ_idr (neg_ℤ a)

-- the sign of a factor is that of the product
negℤ-*ℤ : (a b : ℤ) → neg_ℤ a *ℤ b ≡ neg_ℤ (a *ℤ b)
negℤ-*ℤ a b = neg_unique (a *ℤ b) (neg_ℤ a *ℤ b) (sym (*ℤ-distribʳ a (neg_ℤ a) b) ∙ ap (◌*ℤ b) (+ℤ_invr a) ∙ zero-*ℤ b)

-- products may be regrouped
pub *ℤ-assoc : (a b c : ℤ) → (a *ℤ b) *ℤ c ≡ a *ℤ (b *ℤ c)
*ℤ-assoc a b c = induction (λ x. (x *ℤ b) *ℤ c ≡ x *ℤ (b *ℤ c))
    (rw (zero-*ℤ b, zero-*ℤ c, zero-*ℤ (b *ℤ c)))
    (λ k h. rw (suc_ℤ-*ℤ k b, suc_ℤ-*ℤ k (b *ℤ c), *ℤ-distribʳ, h))
    (λ k h. rw (pred_ℤ-*ℤ k b, pred_ℤ-*ℤ k (b *ℤ c), *ℤ-distribʳ, h, negℤ-*ℤ))
    a

-- 1 is neutral
pub *ℤ-idr : (a : ℤ) → a *ℤ pos 1 ≡ a
unfolding one
*ℤ-idr a = *ℤ-one a

-- the ring of the whole numbers
abbrev pub integers : Ring ℤ
integers = record {
  ops = whole_ops;
  add_assoc = +ℤ_assoc;
  add_comm = +ℤ_comm;
  add-zero = +ℤ_idr;
  add_neg = +ℤ_invr;
  sub_neg = λ a b. refl;
  mul_assoc = *ℤ-assoc;
  mul_comm = *ℤ_comm;
  mul-one = *ℤ-idr;
  distrib = *ℤ-distribʳ;
}
