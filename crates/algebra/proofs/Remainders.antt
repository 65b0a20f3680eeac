-- The remainder by m of a sum, difference, product or opposite is that of the remainders.
-- By induction on ℤ, one up and one down.
use mathlib.Core.Path.{◌≡◌, sym, ◌∙◌, ap}
use Prim.Native.Nat.{ℕ, zero, suc, ◌+◌, ◌*◌, ◌-◌, ◌%◌, ◌/◌, ◌<◌}
use native.Mathlib.Nat as N
use native.Mathlib.Nat.{mod-lt, mod-eq_of_lt, mod_self, zero-mod, suc-mod, mod-add-mod, add-mod-mod, add-mod_right, add-mul-mod_self_right, mod-add-div'}
use native.Mathlib.Decide.{dec_lt}
use native.Mathlib.Omega.{arith}
use lib.IntN.{ℤ, pos, negsuc, suc_ℤ, pred_ℤ, neg_ℤ, ◌+ℤ◌, ◌-ℤ◌, ◌*ℤ◌, suc_ℤ-*ℤ, zero-*ℤ, +ℤ_idl, +ℤ_invl, suc_ℤ-+ℤ, pred_ℤ-+ℤ, suc-pred}
use Rattle.algebra.specs.Remainder.{rem}
use Rattle.algebra.proofs.Integers.{induction}

-- the first factor may be reduced before the product
pub mod_mul_mod : (a b m : ℕ) → (a % m * b) % m ≡ (a * b) % m
mod_mul_mod a b m = sym (ap (◌% m) parts ∙ add-mul-mod_self_right (a % m * b) (a / m * b) m)
  where
    parts : a * b ≡ a % m * b + a / m * b * m
    parts = ap (◌* b) (sym (mod-add-div' a m)) ∙ omega arith

-- the second factor may be
pub mul_mod_mod : (a b m : ℕ) → (a * (b % m)) % m ≡ (a * b) % m
mul_mod_mod a b m = ap (◌% m) (N.mul_comm a (b % m)) ∙ mod_mul_mod b a m ∙ ap (◌% m) (N.mul_comm b a)

module _ (m : ℕ) (h : 0 < m) where
  -- what is added on both sides can be taken off
  mod_cancel : (x y z : ℕ) → (x + z) % m ≡ (y + z) % m → x % m ≡ y % m
  mod_cancel x y z e = added x ∙ ap (λ k. (k + z * (m - 1)) % m) e ∙ sym (added y)
    where
      once_more : (x n : ℕ) → x + z * suc n ≡ (x + z) + z * n
      once_more x n = omega arith

      m_times : suc (m - 1) ≡ m
      m_times = omega arith

      added : (x : ℕ) → x % m ≡ ((x + z) % m + z * (m - 1)) % m
      added x =
          sym (mod-add-mod (x + z) m (z * (m - 1)) ∙ ap (◌% m) (sym (once_more x (m - 1)) ∙ ap (λ k. x + z * k) m_times) ∙ add-mul-mod_self_right x z m)

  -- a remainder is below m
  pub rem_lt : (z : ℤ) → rem m z < m
  unfolding rem
  rem_lt (pos n) = mod-lt n h
  rem_lt (negsuc n) = omega arith

  -- and so its own remainder
  pub rem_mod : (z : ℤ) → rem m z % m ≡ rem m z
  rem_mod z = mod-eq_of_lt (rem_lt z)

  -- the remainder of 0
  pub rem_zero : rem m (pos 0) ≡ 0
  unfolding rem
  rem_zero = zero-mod m

  -- one up
  rem_suc : (k : ℤ) → rem m (suc_ℤ k) ≡ suc (rem m k) % m
  unfolding rem
  rem_suc (pos n) = suc-mod n m
  rem_suc (negsuc zero) =
      let top : suc (m - suc (0 % m)) ≡ m = omega (arith, zero-mod m) in
      zero-mod m ∙ sym (ap (◌% m) top ∙ mod_self m)
  rem_suc (negsuc (suc n)) = by_size (dec_lt (suc (n % m)) m) ∙ sym (ap (λ r. suc (m - suc r) % m) (suc-mod n m))
    where
      below : n % m < m
      below = mod-lt n h

      by_size : Dec (suc (n % m) < m) → m - suc (n % m) ≡ suc (m - suc (suc (n % m) % m)) % m
      by_size (yes k) =
          let up : suc (m - suc (suc (n % m))) ≡ m - suc (n % m) = omega arith in
          let small : m - suc (n % m) < m = omega arith in
          sym (ap (λ r. suc (m - suc r) % m) (mod-eq_of_lt k) ∙ ap (◌% m) up ∙ mod-eq_of_lt small)
      by_size (no k) =
          let all : suc (n % m) ≡ m = omega (arith, below) in
          let none : m - suc (n % m) ≡ 0 = omega arith in
          let top : suc (m - 1) ≡ m = omega arith in
          none ∙ sym (ap (λ r. suc (m - suc r) % m) (ap (◌% m) all ∙ mod_self m) ∙ ap (◌% m) top ∙ mod_self m)

  -- one down
  rem_pred : (k : ℤ) → rem m (pred_ℤ k) ≡ (rem m k + (m - 1)) % m
  rem_pred k =
      let round : suc (rem m (pred_ℤ k)) + (m - 1) ≡ rem m (pred_ℤ k) + m = omega arith in
      sym (ap (λ z. (rem m z + (m - 1)) % m) (sym (suc-pred k))
      ∙ ap (λ r. (r + (m - 1)) % m) (rem_suc (pred_ℤ k))
      ∙ mod-add-mod (suc (rem m (pred_ℤ k))) m (m - 1)
      ∙ ap (◌% m) round
      ∙ add-mod_right (rem m (pred_ℤ k)) m
      ∙ rem_mod (pred_ℤ k))

  -- of a sum
  pub rem_add : (a b : ℤ) → rem m (a +ℤ b) ≡ (rem m a + rem m b) % m
  rem_add a b = induction (λ x. rem m (x +ℤ b) ≡ (rem m x + rem m b) % m)
      (ap (rem m) (+ℤ_idl b) ∙ sym (ap (λ r. (r + rem m b) % m) rem_zero ∙ ap (◌% m) (N.zero-add (rem m b)) ∙ rem_mod b))
      (λ k e. ap (rem m) (suc_ℤ-+ℤ k b)
      ∙ rem_suc (k +ℤ b)
      ∙ ap (λ r. suc r % m) e
      ∙ sym (suc-mod (rem m k + rem m b) m)
      ∙ ap (◌% m) (sym (N.suc-add (rem m k) (rem m b)))
      ∙ sym (mod-add-mod (suc (rem m k)) m (rem m b))
      ∙ ap (λ r. (r + rem m b) % m) (sym (rem_suc k)))
      (λ k e. ap (rem m) (pred_ℤ-+ℤ k b)
      ∙ rem_pred (k +ℤ b)
      ∙ ap (λ r. (r + (m - 1)) % m) e
      ∙ mod-add-mod (rem m k + rem m b) m (m - 1)
      ∙ ap (◌% m) (swap (rem m k) (rem m b) (m - 1))
      ∙ sym (mod-add-mod (rem m k + (m - 1)) m (rem m b))
      ∙ ap (λ r. (r + rem m b) % m) (sym (rem_pred k)))
      a
    where
      swap : (x y z : ℕ) → x + y + z ≡ x + z + y
      swap x y z = omega arith

  -- of a product
  pub rem_mul : (a b : ℤ) → rem m (a *ℤ b) ≡ (rem m a * rem m b) % m
  rem_mul a b = induction (λ x. rem m (x *ℤ b) ≡ (rem m x * rem m b) % m)
      (ap (rem m) (zero-*ℤ b) ∙ rem_zero ∙ sym (ap (λ r. (r * rem m b) % m) rem_zero ∙ ap (◌% m) (N.zero-mul (rem m b)) ∙ zero-mod m))
      (λ k e. up k ∙ ap (λ r. (r + rem m b) % m) e ∙ sym (up_apart k))
      (λ k e. sym (rem_mod (pred_ℤ k *ℤ b))
      ∙ mod_cancel (rem m (pred_ℤ k *ℤ b)) (rem m (pred_ℤ k) * rem m b) (rem m b)
      (sym (up (pred_ℤ k))
      ∙ ap (λ z. rem m (z *ℤ b)) (suc-pred k)
      ∙ e
      ∙ ap (λ z. (rem m z * rem m b) % m) (sym (suc-pred k))
      ∙ up_apart (pred_ℤ k)
      ∙ mod-add-mod (rem m (pred_ℤ k) * rem m b) m (rem m b)))
      a
    where
      up : (k : ℤ) → rem m (suc_ℤ k *ℤ b) ≡ (rem m (k *ℤ b) + rem m b) % m
      up k = ap (rem m) (suc_ℤ-*ℤ k b) ∙ rem_add (k *ℤ b) b

      once_more : (x y : ℕ) → suc x * y ≡ x * y + y
      once_more x y = omega arith

      up_apart : (k : ℤ) → (rem m (suc_ℤ k) * rem m b) % m ≡ ((rem m k * rem m b) % m + rem m b) % m
      up_apart k =
          ap (λ r. (r * rem m b) % m) (rem_suc k)
          ∙ mod_mul_mod (suc (rem m k)) (rem m b) m
          ∙ ap (◌% m) (once_more (rem m k) (rem m b))
          ∙ sym (mod-add-mod (rem m k * rem m b) m (rem m b))

  -- of an opposite
  pub rem_neg : (a : ℤ) → rem m (neg_ℤ a) ≡ (m - rem m a) % m
  rem_neg a =
      let below : rem m a < m = rem_lt a in
      let all : m - rem m a + rem m a ≡ m = omega arith in
      sym (rem_mod (neg_ℤ a))
      ∙ mod_cancel (rem m (neg_ℤ a)) (m - rem m a) (rem m a) (sym (rem_add (neg_ℤ a) a) ∙ ap (rem m) (+ℤ_invl a) ∙ rem_zero ∙ sym (ap (◌% m) all ∙ mod_self m))

  -- of a difference
  pub rem_sub : (a b : ℤ) → rem m (a -ℤ b) ≡ (rem m a + (m - rem m b)) % m
  rem_sub a b = rem_add a (neg_ℤ b) ∙ ap (λ r. (rem m a + r) % m) (rem_neg b) ∙ add-mod-mod (rem m a) (m - rem m b) m
