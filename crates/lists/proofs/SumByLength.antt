-- The sum of the magnitudes times the number of coefficients is at most 2^53 at the start, and so is the sum alone.
use mathlib.Core.List.{List, [], ◌∷◌}
use Prim.Native.Nat.{suc, ◌*◌, ◌≤◌, ◌^◌}
use native.Mathlib.Nat.{mul-le-mul_left, le_trans, le-mul_of_pos_right}
use native.Mathlib.Omega.{arith}
use borrow.Author.Tests.{le-leb}
use lib.IntN.{ℤ}
use lib.ListN.{length}
use Rattle.algebra.specs.Magnitude.{sum_abs}
use Rattle.number.specs.Limits.{plan_limit, sum_limit}
use Rattle.number.specs.inside.Laws.{small_lists}
use Rattle.number.specs.inside.Room.{SumByLengthTo53}
use Rattle.number.specs.Tests.{degree_of}

-- of coefficients within the limits
pub sum_by_length_start : (c : List ℤ) → sum_abs c ≤ sum_limit → degree_of c ≤ plan_limit → SumByLengthTo53 c
sum_by_length_start c small few = small_lists c (le-leb (sum_abs c) sum_limit small) few

-- the sum alone
pub sum_by_length_sum : (c : List ℤ) → SumByLengthTo53 c → sum_abs c ≤ 2 ^ 53
unfolding SumByLengthTo53 sum_abs
sum_by_length_sum [] room = omega arith
sum_by_length_sum (x ∷ c) room = le_trans (le-mul_of_pos_right {m = suc (length c)} (sum_abs (x ∷ c)) (omega arith)) room

-- with two coefficients or more the sum is at most 2^52
pub sum_by_length_half : (c : List ℤ) → 2 ≤ length c → SumByLengthTo53 c → sum_abs c ≤ 2 ^ 52
unfolding SumByLengthTo53
sum_by_length_half c two room = let twice : sum_abs c * 2 ≤ sum_abs c * length c = mul-le-mul_left (sum_abs c) two in omega (arith, room)
