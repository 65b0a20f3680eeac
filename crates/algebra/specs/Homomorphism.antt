-- Homomorphisms: maps that take each operation of one kind of number to that of another. The remainder by m is one, and so is the way from the whole
-- numbers into the fractions.
use Rattle.std.specs.Prelude.{◌≡◌}
use Rattle.algebra.specs.Operations.{Operations}

-- φ takes each operation of 𝓞 to that of 𝓟
pub record Homomorphism {A B : Type 0} (𝓞 : Operations A) (𝓟 : Operations B) (φ : A → B) : Type 0 where
  pub zero : φ 𝓞.zero ≡ 𝓟.zero
  pub one : φ 𝓞.one ≡ 𝓟.one
  pub add : (a b : A) → φ (𝓞.add a b) ≡ 𝓟.add (φ a) (φ b)
  pub sub : (a b : A) → φ (𝓞.sub a b) ≡ 𝓟.sub (φ a) (φ b)
  pub mul : (a b : A) → φ (𝓞.mul a b) ≡ 𝓟.mul (φ a) (φ b)
  pub neg : (a : A) → φ (𝓞.neg a) ≡ 𝓟.neg (φ a)
