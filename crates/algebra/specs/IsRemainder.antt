-- What a remainder is, and that `rem` (specs/Remainder) gives it.
use Rattle.std.specs.Prelude.{◌≡◌, ℕ, ◌<◌, ℤ, pos, ◌+ℤ◌, ◌*ℤ◌}
use Rattle.algebra.specs.Remainder.{rem}

-- r is the remainder of z by m: it is below m, and differs from z by a whole multiple of m
pub record IsRemainder (m : ℕ) (z : ℤ) (r : ℕ) : Type 0 where
  pub below : r < m
  pub quotient : ℤ
  pub whole : z ≡ (quotient *ℤ pos m) +ℤ pos r

-- what holds of the remainder of z by m
pub record RemainderTold (m : ℕ) (z : ℤ) : Type 0 where
  -- `rem m z` is a remainder
  pub is : IsRemainder m z (rem m z)
  -- and there is no other, so these two facts define it
  pub only : (r : ℕ) → IsRemainder m z r → r ≡ rem m z

-- this holds for every modulus from 1 on
abbrev pub RemaindersTold : Type 0
RemaindersTold = (m : ℕ) → 0 < m → (z : ℤ) → RemainderTold m z
