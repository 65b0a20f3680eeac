-- Laws of X^n: its equations, and in a ring those of sums of exponents, by recursion on n.
use mathlib.Core.Path.{◌≡◌, refl, sym, ◌∙◌, ap}
use Prim.Native.Nat.{ℕ, zero, suc, ◌+◌}
use native.Mathlib.Nat.{add-suc, suc-add, zero-add}
use Rattle.algebra.specs.Operations.{Operations}
use Rattle.algebra.specs.Power.{pow}
use Rattle.algebra.specs.Ring.{Ring}
use Rattle.algebra.proofs.RingLaws as R

module _ {A : Type 0} (𝓞 : Operations A) (x : A) where
  pub pow-zero : pow 𝓞 x 0 ≡ 𝓞.one
  unfolding pow
  pow-zero = refl

  pub pow_step : (n : ℕ) → pow 𝓞 x (suc n) ≡ 𝓞.mul x (pow 𝓞 x n)
  unfolding pow
  pow_step n = refl

module _ {A : Type 0} (𝓡 : Ring A) (x : A) where
  open 𝓡 use {ops, mul_assoc}
  open ops use {mul as ◌⊗◌}

  infixl 7 ◌⊗◌
  -- X^(m+n) = X^m·X^n
  pub pow-add : (m n : ℕ) → pow ops x (m + n) ≡ pow ops x m ⊗ pow ops x n
  unfolding pow
  pow-add zero n = rw zero-add (sym (R.one-mul 𝓡 (pow ops x n)))
  pow-add (suc m) n = rw suc-add (ap (x ⊗◌) (pow-add m n) ∙ sym (mul_assoc x (pow ops x m) (pow ops x n)))

  -- X^(2k) = (X²)^k
  pub pow_double : (k : ℕ) → pow ops x (k + k) ≡ pow ops (x ⊗ x) k
  unfolding pow
  pow_double zero = refl
  pow_double (suc k) = rw (suc-add, add-suc) (sym (mul_assoc x x (pow ops x (k + k))) ∙ ap (x ⊗ x ⊗◌) (pow_double k))

  -- X^(2k+1) = x·(X²)^k
  pub pow_odd : (k : ℕ) → pow ops x (suc (k + k)) ≡ x ⊗ pow ops (x ⊗ x) k
  unfolding pow
  pow_odd k = ap (x ⊗◌) (pow_double k)
