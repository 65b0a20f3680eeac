-- The parts of the split of an index up to 2^(j+1) are at most 2^j, and so is their distance. Those of a power of two are its halves. Any other
-- index n lies between a power of two p, at most 2^j, and 2p: its parts p - 1 and n + 1 - p are at most p.
use mathlib.Core.Path.{◌≡◌}
use Prim.Native.Nat.{ℕ, suc, ◌+◌, ◌^◌, ◌≤◌, ◌<◌}
use native.Mathlib.Decide.{ℕ_discrete}
use native.Mathlib.Nat.{two-pow-succ, lt_of_not-le}
use native.Mathlib.Numerals.{lt_of_le_of_ne}
use native.Mathlib.Omega.{arith}
use lib.Pow.{pow_mono}
use Rattle.number.specs.Bits.{power_below}
use Rattle.number.specs.Limits.{degree_limit}
use Rattle.number.specs.Split.{parts_of, split_of}
use Rattle.number.proofs.Bits.{power_below_lem, powers_of_two}
use Rattle.number.proofs.SplitParts.{split_accepted, parts_doubled, parts_other}

-- two parts and their distance c, all at most a half
pub record Halves (half a b c : ℕ) : Type 0 where
  pub first : a ≤ half
  pub second : b ≤ half
  pub distance : c ≤ half

module _ (n j : ℕ) (from_two : 2 ≤ n) (most : n ≤ 2 ^ suc j) where
  -- the greatest power of two below n is at most 2^j
  below_half : power_below n ≤ 2 ^ j
  below_half =
      let below = powers_of_two.below n from_two in
      let exponent : below.exponent < suc j = lt_of_not-le (λ (more : suc j ≤ below.exponent).
      let grows : 2 ^ suc j ≤ 2 ^ below.exponent = pow_mono more in
      omega (arith, below.power, below.holds)) in
      rw below.power (pow_mono (omega arith))

  pub split_halves : n ≤ degree_limit → Halves (2 ^ j) (split_of n).a (split_of n).b (split_of n).distance
  split_halves to_limit = rw (split_accepted n from_two to_limit) (by (ℕ_discrete n (power_below n + power_below n)))
    where
      by : Dec (n ≡ power_below n + power_below n) → Halves (2 ^ j) (parts_of n).a (parts_of n).b (parts_of n).distance
      by (yes doubled) =
          let doubles = two-pow-succ j in
          rw (parts_doubled n doubled) (record { first = omega arith; second = omega arith; distance = omega arith })
      by (no other) =
          let under = (power_below_lem n from_two).under in
          let reaches = lt_of_le_of_ne (power_below_lem n from_two).reaches other in
          let half = below_half in
          rw (parts_other n from_two other) (record { first = omega arith; second = omega arith; distance = omega arith })
