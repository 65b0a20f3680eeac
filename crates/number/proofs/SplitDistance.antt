-- A taken index has two parts that make it up, and their distance beside them; the product law does the rest. Any other index is refused, with zeros.
use mathlib.Core.Path.{◌≡◌, sym, ◌∙◌, ap}
use Prim.Native.Nat.{ℕ, ◌<◌}
use native.Mathlib.Decide.{dec_lt}
use native.Mathlib.Omega.{arith}
use Rattle.algebra.specs.Ring.{Ring}
use Rattle.algebra.specs.Power.{power}
use Rattle.algebra.specs.ProductLaw.{product_of}
use Rattle.algebra.proofs.ProductLaw.{product_law}
use Rattle.number.specs.Limits.{degree_limit}
use Rattle.number.specs.Split.{Parts, split_of, no_parts}
use Rattle.number.specs.SplitDistance.{Taken, ThirdIsDistance, PartsDiffer, RefusedZero, SplitProduct}
use Rattle.number.proofs.SplitParts.{Parted, split_accepted, split_below, split_above, parted}

-- an index is either taken, and has two parts, or refused with zeros
data Ways (n : ℕ) (answer : Parts) : Type 0 where
  taken : Parted n answer → Ways n answer
  refused : answer ≡ no_parts 9 → Ways n answer

ways : (n : ℕ) → Ways n (split_of n)
ways n = by (dec_lt n 2) (dec_lt degree_limit n)
  where
    by : Dec (n < 2) → Dec (degree_limit < n) → Ways n (split_of n)
    by (yes low) over = refused (split_below n low)
    by (no from_two) (yes high) = refused (split_above n high)
    by (no from_two) (no within) = taken (rw (split_accepted n (omega arith) (omega arith)) (parted n (omega arith)))

-- so a taken one has two parts
taken_parted : (n : ℕ) → Taken n → Parted n (split_of n)
taken_parted n is = by (ways n)
  where
    by : Ways n (split_of n) → Parted n (split_of n)
    by (taken two) = two
    by (refused none) = absurd (let nine : 9 ≡ 0 = sym (ap (λ (x : Parts). x.refusal) none) ∙ is in omega arith)

pub third_is_distance : ThirdIsDistance
third_is_distance n is = (taken_parted n is).distance

pub parts_differ : PartsDiffer
parts_differ n is = let two = taken_parted n is in omega arith

pub refused_zero : RefusedZero
refused_zero n not_taken = by (ways n)
  where
    by : Ways n (split_of n) → (split_of n).distance ≡ 0
    by (taken two) = absurd (not_taken two.taken)
    by (refused none) = ap (λ (x : Parts). x.distance) none

pub split_product : {A : Type 0} (𝓡 : Ring A) → SplitProduct 𝓡
split_product {A} 𝓡 x basis n is =
    let two = taken_parted n is in
    ap at (sym two.whole)
    ∙ product_law 𝓡 x basis (split_of n).a (split_of n).b
    ∙ ap (λ m. product_of 𝓡.ops basis (at (split_of n).a) (at (split_of n).b) (at m)) (sym two.distance)
  where
    at : ℕ → A
    at = power 𝓡.ops basis x
