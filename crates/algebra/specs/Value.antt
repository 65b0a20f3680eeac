-- The value of a polynomial at x: the sum of c_j·x^j, or of c_j·T_j, over all its coefficients.
use Rattle.std.specs.Prelude.{List, ℕ, zero, suc, length, get_or}
use Rattle.algebra.specs.Operations.{Operations}
use Rattle.algebra.specs.Power.{power}
use Rattle.algebra.specs.declared.Basis.{Basis}

module _ {A : Type 0} (𝓞 : Operations A) where
  -- f 0 + .. + f (n - 1)
  unfoldable pub sum : (ℕ → A) → ℕ → A
  sum f zero = 𝓞.zero
  sum f (suc n) = 𝓞.add (sum f n) (f n)

  -- the sum of c_j·b_j
  unfoldable pub dot : (ℕ → A) → List A → A
  dot b c = sum (λ j. 𝓞.mul (get_or c j 𝓞.zero) (b j)) (length c)

  abbrev pub value : Basis → A → List A → A
  value basis x c = dot (power 𝓞 basis x) c
