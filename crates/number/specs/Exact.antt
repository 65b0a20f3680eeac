-- Whole numbers as f64 (docs/RULES.md, "Exactness of f64").
use Rattle.std.specs.Prelude.{◌≡◌, Bool, true, false, List, ℕ, ◌*◌, ◌≤◌, ◌<◌, ◌^◌, ℤ, pos, neg_ℤ, nat_abs, ◌+ℤ◌, ◌-ℤ◌, ◌*ℤ◌, Float}
use Rattle.std.specs.Float.{nan, inf, fin, binary64}
use Rattle.std.specs.Float.Ieee.{up, down, of_int, to_signed}
use Rattle.algebra.specs.Each.{Each}
use Rattle.algebra.specs.Operations.{double}
use Rattle.number.specs.Numbers.{float_ops}

-- the f64 of a whole number, rounded once
abbrev pub num : ℤ → Float
num z = of_int binary64 z

-- the whole number with a sign, true for minus, and a magnitude
abbrev pub signed : Bool → ℕ → ℤ
signed false n = pos n
signed true n = neg_ℤ (pos n)

-- the float is finite, and its value, m times 2^e with its sign, is exactly z; 2^e is the fraction up e / down e
abbrev pub IsWhole : Float → ℤ → Type 0
IsWhole nan z = ⊥
IsWhole (inf s) z = ⊥
IsWhole (fin s m e) z = signed s (m * up e) ≡ z *ℤ pos (down e)

-- magnitude at most 2^53
abbrev pub To53 : ℤ → Type 0
To53 z = nat_abs z ≤ 2 ^ 53

-- every number of a list, of magnitude at most n
abbrev pub Within : ℕ → List ℤ → Type 0
Within n c = Each (λ (z : ℤ). nat_abs z ≤ n) c

-- every number of a list, at most 2^53
abbrev pub AllTo53 : List ℤ → Type 0
AllTo53 c = Within (2 ^ 53) c

-- every number of a list, at most 2^52: each can be doubled within 2^53
abbrev pub AllTo52 : List ℤ → Type 0
AllTo52 c = Within (2 ^ 52) c

-- f64 on whole numbers up to 2^53. An operation gives the f64 of the exact result where operands and exact result are up to 2^53. A product
-- by a number up to 2 stands in a sum, and an opposite is that of a nonzero number, since alone they can be -0.
pub record ExactTo53 : Type 0 where
  -- the f64 of a number is that number, and as an i64 it is read back; it is never -0, and two numbers have two f64
  pub is_whole : (z : ℤ) → To53 z → IsWhole (num z) z
  pub read_back : (z : ℤ) → To53 z → to_signed 63 (num z) ≡ z
  pub never_minus_zero : (z : ℤ) → To53 z → num z ≡ fin true 0 (pos 0) → ⊥
  pub told_apart : (a b : ℤ) → To53 a → To53 b → num a ≡ num b → a ≡ b
  -- the constants
  pub zero_is : float_ops.zero ≡ num (pos 0)
  pub one_is : float_ops.one ≡ num (pos 1)
  -- the operations; an opposite has the magnitude of its operand
  pub doubled : (a : ℤ) → To53 a → To53 (pos 2 *ℤ a) → double float_ops (num a) ≡ num (pos 2 *ℤ a)
  pub added : (a b : ℤ) → To53 a → To53 b → To53 (a +ℤ b) → float_ops.add (num a) (num b) ≡ num (a +ℤ b)
  pub subtracted : (a b : ℤ) → To53 a → To53 b → To53 (a -ℤ b) → float_ops.sub (num a) (num b) ≡ num (a -ℤ b)
  pub added_product : (q c v : ℤ) → To53 q → To53 c → nat_abs v ≤ 2 → To53 (c *ℤ v) → To53 (q +ℤ c *ℤ v)
      → float_ops.add (num q) (float_ops.mul (num c) (num v)) ≡ num (q +ℤ c *ℤ v)
  pub opposite : (a : ℤ) → To53 a → 0 < nat_abs a → float_ops.neg (num a) ≡ num (neg_ℤ a)
