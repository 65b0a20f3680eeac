-- The literals of the code, as the definitions have them.
use mathlib.Core.Path.{◌≡◌, refl}
use lib.IntN.{pos}
use lib.Ieee.{binary64, of_bits, of_int, add}
use Rattle.algebra.specs.Operations.{two}
use Rattle.number.specs.Numbers.{float_ops}
use Rattle.number.specs.Exact.{num}

-- 0.0
pub zero_is : of_bits binary64 0 ≡ float_ops.zero
unfolding of_bits
zero_is = refl

-- 1.0
pub one_is : of_bits binary64 0x3ff0_0000_0000_0000 ≡ float_ops.one
unfolding of_bits
one_is = refl

-- 2.0
pub two_is : of_bits binary64 0x4000_0000_0000_0000 ≡ num (pos 2)
unfolding of_bits of_int
two_is = refl

-- 2.0 is also the sum of 1 and 1
pub double_is : of_bits binary64 0x4000_0000_0000_0000 ≡ two float_ops
unfolding of_bits add
double_is = refl
