-- A commutative ring: operations, and the laws that they obey.
use Rattle.std.specs.Prelude.{◌≡◌}
use Rattle.algebra.specs.Operations.{Operations}

pub record Ring (A : Type 0) : Type 0 where
  pub ops : Operations A
  pub add_assoc : (a b c : A) → ops.add (ops.add a b) c ≡ ops.add a (ops.add b c)
  pub add_comm : (a b : A) → ops.add a b ≡ ops.add b a
  pub add-zero : (a : A) → ops.add a ops.zero ≡ a
  pub add_neg : (a : A) → ops.add a (ops.neg a) ≡ ops.zero
  pub sub_neg : (a b : A) → ops.sub a b ≡ ops.add a (ops.neg b)
  pub mul_assoc : (a b c : A) → ops.mul (ops.mul a b) c ≡ ops.mul a (ops.mul b c)
  pub mul_comm : (a b : A) → ops.mul a b ≡ ops.mul b a
  pub mul-one : (a : A) → ops.mul a ops.one ≡ a
  pub distrib : (a b c : A) → ops.mul (ops.add a b) c ≡ ops.add (ops.mul a c) (ops.mul b c)
