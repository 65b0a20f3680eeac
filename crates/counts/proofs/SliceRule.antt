-- The slices obey their rule without the bound on the cuts: one slice below the base, else those of the low and then the high side.
use mathlib.Core.Path.{◌≡◌, refl, ap₂}
use mathlib.Core.Bool.{Bool, true, false}
use mathlib.Core.List.{[], ◌∷◌, ◌++◌}
use Prim.Native.Nat.{ℕ, zero, suc, ◌-◌, ◌^◌, ◌≤◌, ◌<◌}
use native.Mathlib.Omega.{arith}
use borrow.Author.Tests.{lt-ltb, le-ltb, ltb-false}
use lib.Pow.{pow_pos}
use lib.Dec.{ltb}
use Rattle.number.specs.Bits.{bit_len, top_power}
use Rattle.counts.specs.Slices.{slices_in, slices_of}
use Rattle.counts.specs.SliceRule.{SliceRule}
use Rattle.number.proofs.Bits.{some_digit, sides_fall}

-- without digits the degree is 0
pub no_digits : (degree : ℕ) {p : ℕ} → bit_len degree ≤ 0 → 0 < p → degree < p
no_digits zero none positive = positive
no_digits (suc d) none positive = absurd (omega (arith, some_digit (suc d) (omega arith)))

-- any bound from the number of digits on gives the same slices
same_slices : (cuts more split degree : ℕ) → bit_len degree ≤ cuts → bit_len degree ≤ more → slices_in cuts degree split ≡ slices_in more degree split
unfolding slices_in
same_slices zero zero split degree enough enough' = refl
same_slices zero (suc more) split degree enough enough' =
    let under : degree < 2 ^ split = no_digits degree enough (pow_pos split) in
    rw (lt-ltb degree (2 ^ split) under, slices_in)
same_slices (suc cuts) zero split degree enough enough' =
    let under : degree < 2 ^ split = no_digits degree enough' (pow_pos split) in
    rw (lt-ltb degree (2 ^ split) under, slices_in)
same_slices (suc cuts) (suc more) split degree enough enough' = by_test (ltb degree (2 ^ split)) refl (same_slices cuts more split)
  where
    by_test : (test : Bool) → ltb degree (2 ^ split) ≡ test
        → ((d : ℕ) → bit_len d ≤ cuts → bit_len d ≤ more → slices_in cuts d split ≡ slices_in more d split)
        → slices_in (suc cuts) degree split ≡ slices_in (suc more) degree split
    by_test true is sides = rw (is, slices_in)
    by_test false is sides =
        let positive : 0 < degree = omega (arith, ltb-false degree (2 ^ split) is, pow_pos split) in
        let fall = sides_fall degree positive in
        rw (is, slices_in) (ap₂ ◌++◌ (sides (top_power degree - 1) (omega arith) (omega arith)) (sides (degree - top_power degree) (omega arith) (omega arith)))

-- degree below base is one slice
pub slices_one : (split degree : ℕ) → degree < 2 ^ split → slices_of degree split ≡ degree ∷ []
unfolding slices_of slices_in
slices_one split degree under = at_bound (bit_len degree)
  where
    at_bound : (cuts : ℕ) → slices_in cuts degree split ≡ degree ∷ []
    at_bound zero = refl
    at_bound (suc cuts) = rw (lt-ltb degree (2 ^ split) under, slices_in)

-- otherwise slice p − 1 and then degree − p
pub slices_cut : (split degree : ℕ) → 2 ^ split ≤ degree
    → slices_of degree split ≡ slices_of (top_power degree - 1) split ++ slices_of (degree - top_power degree) split
unfolding slices_of slices_in
slices_cut split degree reached = at_bound (bit_len degree) refl
  where
    positive : 0 < degree
    positive = omega (arith, pow_pos split)

    at_bound : (cuts : ℕ) → bit_len degree ≡ cuts
        → slices_in cuts degree split ≡ slices_of (top_power degree - 1) split ++ slices_of (degree - top_power degree) split
    at_bound zero is = absurd (omega (arith, some_digit degree positive))
    at_bound (suc cuts) is =
        let fall = sides_fall degree positive in
        let low = same_slices cuts (bit_len (top_power degree - 1)) split (top_power degree - 1) (omega arith) (omega arith) in
        let high = same_slices cuts (bit_len (degree - top_power degree)) split (degree - top_power degree) (omega arith) (omega arith) in
        rw (le-ltb degree (2 ^ split) reached, slices_in) (ap₂ ◌++◌ low high)

pub slice_rule : (degree split : ℕ) → SliceRule degree split
slice_rule degree split = record { one = slices_one split degree; cut = slices_cut split degree }
