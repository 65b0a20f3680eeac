-- f64 is exact on whole numbers up to 2^53: rounding leaves such a number as it is, so its f64 has its value. An operation rounds the exact
-- result once, and so does `num` of that result, so the two are one float.
use mathlib.Core.Path.{◌≡◌, refl, sym, ap, ◌∙◌}
use mathlib.Core.Bool.{true, false}
use Prim.Native.Nat.{ℕ, ◌≤◌, ◌^◌}
use native.Mathlib.Nat.{le_trans, lt_of_le_of_lt}
use native.Mathlib.Omega.{arith}
use lib.Dec.{lit≤, lit<, le→leb, lt→ltb}
use lib.IntN.{ℤ, pos, negsuc, nat_abs, ◌+ℤ◌, ◌*ℤ◌}
use lib.Ieee.{Float, fin, binary64, add, mul, to_signed, in_float, of_int}
use lib.Ieee.Back.{positive_back, negative_back}
use Rattle.number.specs.Numbers.{float_ops}
use Rattle.number.specs.Exact.{num, To53, ExactTo53}
use Rattle.number.proofs.WholeFloats.{of_int_lem, value_is, add_int, sub_int, mul_whole, scale_int, neg_int}

-- a number is read back from its float
read_back : (z : ℤ) → To53 z → to_signed 63 (num z) ≡ z
unfolding in_float
read_back (pos a) h = (positive_back binary64 63 a (le→leb a (2 ^ 53) h) (lt_of_le_of_lt h (lit< tt))).1
read_back (negsuc a) h = (negative_back binary64 63 a (lt→ltb a (2 ^ 53) h) (le_trans h (lit≤ tt))).1

two_is : float_ops.add float_ops.one float_ops.one ≡ num (pos 2)
unfolding add of_int
two_is = refl

plus_zero : float_ops.zero ≡ num (pos 0)
unfolding of_int
plus_zero = refl

plus_one_lem : float_ops.one ≡ num (pos 1)
unfolding of_int
plus_one_lem = refl

product_in_sum : (q c v : ℤ) → To53 q → To53 c → nat_abs v ≤ 2 → To53 (c *ℤ v) → To53 (q +ℤ c *ℤ v)
    → float_ops.add (num q) (float_ops.mul (num c) (num v)) ≡ num (q +ℤ c *ℤ v)
product_in_sum q c v hq hc hv hp hr =
    let v_small : To53 v = le_trans hv (lit≤ tt) in
    add_int binary64 q (mul binary64 (num c) (num v)) (c *ℤ v) hq
    (mul_whole binary64 (num c) (num v) c v (of_int_lem binary64 c hc) (of_int_lem binary64 v v_small) hp)

minus_zero_back : to_signed 63 (fin true 0 (pos 0)) ≡ pos 0
unfolding to_signed
minus_zero_back = refl

-- -0 would read back as 0, whose float is +0
not_minus_zero : (z : ℤ) → To53 z → num z ≡ fin true 0 (pos 0) → ⊥
not_minus_zero z h e =
    let none : z ≡ pos 0 = sym (read_back z h) ∙ ap (to_signed 63) e ∙ minus_zero_back in
    let both : fin false 0 (pos 0) ≡ fin true 0 (pos 0) = plus_zero ∙ ap num (sym none) ∙ e in
    let differ : ◌≡◌ {A = ℕ} 0 1 = cc in
    omega arith

pub exact : ExactTo53
exact = record {
  is_whole = λ z h. value_is (num z) z (of_int_lem binary64 z h);
  read_back = read_back;
  never_minus_zero = not_minus_zero;
  told_apart = λ a b g h e. sym (read_back a g) ∙ ap (to_signed 63) e ∙ read_back b h;
  zero_is = plus_zero;
  one_is = plus_one_lem;
  doubled = λ a h r. ap (λ (x : Float). mul binary64 x (num a)) two_is ∙ scale_int binary64 1 a (lit≤ tt) h;
  added = λ a b g h r. add_int binary64 a (num b) b g (of_int_lem binary64 b h);
  subtracted = λ a b g h r. sub_int binary64 a (num b) b g (of_int_lem binary64 b h);
  added_product = product_in_sum;
  opposite = λ a g h. neg_int binary64 a h;
}
