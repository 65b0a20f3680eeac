-- The promises on the largest degree for a budget. A call has one of three ways out: a scale is too wide, no degree is within the budget, or the greatest
-- one is answered; their refusals differ, so each is told by its own. A chain with a pt-ct weighs at least the coefficient scale.
use mathlib.Core.Path.{◌≡◌, refl, ap, sym}
use mathlib.Core.Bool.{Bool, true, false}
use mathlib.Core.Logic.{◌⊎◌, inl, inr}
use Prim.Native.Nat.{ℕ, ◌≤◌, ◌<◌}
use native.Mathlib.Nat.{eq-zero-or-pos}
use native.Mathlib.Omega.{arith}
use borrow.Author.Tests.{ltb-true, ltb-false}
use lib.Dec.{ltb}
use Rattle.number.specs.Bits.{digits, bit_len, top_power, is_power_of_two}
use Rattle.number.specs.Limits.{plan_limit, scale_limit}
use Rattle.counts.specs.Depth.{depth_of}
use Rattle.counts.specs.ConsumedBits.{pure_chain, chain_before, bits_of}
use Rattle.counts.specs.LargestDegree.{greatest_within, GreatestWithin, NoneWithin}
use Rattle.counts.specs.Calls.{LargestDegree, no_largest, largest_call}
use Rattle.counts.specs.BudgetPromises.{LargestDegrees, BitsFall, NoneBelowScale}
use Rattle.counts.specs.declared.choice.SplitStrategy.{SplitStrategy}
use Rattle.counts.specs.declared.choice.SplitStrategy.TheVariants.{MinDepth, MinMult}
use Rattle.counts.proofs.ConsumedLaws.{bits_from_one}
use Rattle.counts.proofs.GreatestWithin.{greatest_within_lem, none_within_lem}
use Rattle.counts.proofs.LargestLaws.{input_wide, coeff_wide, none_found, one_found}

same_refusal : {r s : LargestDegree} → r ≡ s → r.refusal ≡ s.refusal
same_refusal is = ap (λ (r : LargestDegree). r.refusal) is

module _ (strategy : SplitStrategy) (budget input coeff : ℕ) where
  -- the three ways out
  data Ending (r : LargestDegree) : Type 0 where
    too_wide_lem : (scale_limit < input) ⊎ (scale_limit < coeff) → no_largest 10 ≡ r → Ending r
    none_fits : (input ≤ scale_limit) × (coeff ≤ scale_limit) × NoneWithin strategy budget input coeff → no_largest 31 ≡ r → Ending r
    one_fits : {degree : ℕ} → (input ≤ scale_limit) × (coeff ≤ scale_limit) × GreatestWithin strategy budget input coeff degree
        → record { refusal = 0; degree = degree } ≡ r → Ending r

  abbrev answer : LargestDegree
  answer = largest_call strategy budget input coeff

  abbrev found : ℕ
  found = greatest_within strategy budget input coeff plan_limit

  by_found : input ≤ scale_limit → coeff ≤ scale_limit → (found ≡ 0) ⊎ (0 < found) → Ending answer
  by_found g h (inl none) =
      none_fits (g, h, (none_within_lem strategy budget input coeff).0 none) (none_found strategy budget input coeff g h none)
  by_found g h (inr some) =
      one_fits (g, h, greatest_within_lem strategy budget input coeff some) (one_found strategy budget input coeff g h refl (λ none. omega arith))

  by_coeff : input ≤ scale_limit → (test : Bool) → ltb scale_limit coeff ≡ test → Ending answer
  by_coeff g true above = let wide = ltb-true _ _ above in too_wide_lem (inr wide) (coeff_wide strategy budget input coeff g wide)
  by_coeff g false within = by_found g (ltb-false _ _ within) (eq-zero-or-pos found)

  by_input : (test : Bool) → ltb scale_limit input ≡ test → Ending answer
  by_input true above = let wide = ltb-true _ _ above in too_wide_lem (inl wide) (input_wide strategy budget input coeff wide)
  by_input false within = by_coeff (ltb-false _ _ within) (ltb scale_limit coeff) refl

  ending : Ending answer
  ending = by_input (ltb scale_limit input) refl

  -- the refusal tells which
  answered_by : {r : LargestDegree} → Ending r → r.refusal ≡ 0 → GreatestWithin strategy budget input coeff r.degree
  answered_by (too_wide_lem above is) says = absurd (omega (arith, same_refusal is))
  answered_by (none_fits exceed is) says = absurd (omega (arith, same_refusal is))
  answered_by (one_fits greatest is) says = rw (← is) greatest.2

  wide_by : {r : LargestDegree} → Ending r → r.refusal ≡ 10 → (scale_limit < input) ⊎ (scale_limit < coeff)
  wide_by (too_wide_lem above is) says = above
  wide_by (none_fits exceed is) says = absurd (omega (arith, same_refusal is))
  wide_by (one_fits greatest is) says = absurd (omega (arith, same_refusal is))

  none_by : {r : LargestDegree} → Ending r → r.refusal ≡ 31 → (input ≤ scale_limit) × (coeff ≤ scale_limit) × NoneWithin strategy budget input coeff
  none_by (too_wide_lem above is) says = absurd (omega (arith, same_refusal is))
  none_by (none_fits exceed is) says = exceed
  none_by (one_fits greatest is) says = absurd (omega (arith, same_refusal is))

  -- and each way out has its refusal
  refused_wide : {r : LargestDegree} → Ending r → (scale_limit < input) ⊎ (scale_limit < coeff) → r.refusal ≡ 10
  refused_wide (too_wide_lem above is) wide = sym (same_refusal is)
  refused_wide (none_fits (g, h, exceed) is) (inl wide) = absurd (omega arith)
  refused_wide (none_fits (g, h, exceed) is) (inr wide) = absurd (omega arith)
  refused_wide (one_fits (g, h, greatest) is) (inl wide) = absurd (omega arith)
  refused_wide (one_fits (g, h, greatest) is) (inr wide) = absurd (omega arith)

  refused_none : {r : LargestDegree} → Ending r → (input ≤ scale_limit) × (coeff ≤ scale_limit) × NoneWithin strategy budget input coeff
      → r.refusal ≡ 31
  refused_none (too_wide_lem (inl wide) is) (g, h, exceed) = absurd (omega arith)
  refused_none (too_wide_lem (inr wide) is) (g, h, exceed) = absurd (omega arith)
  refused_none (none_fits none is) exceed = sym (same_refusal is)
  refused_none (one_fits {degree} (g, h, greatest) is) (g', h', exceed) =
      absurd (omega (arith, greatest.within, exceed degree greatest.from greatest.to))

pub largest_degrees : LargestDegrees
largest_degrees strategy budget input coeff =
    let way = ending strategy budget input coeff in
    record {
      answered = answered_by strategy budget input coeff way;
      wide = (wide_by strategy budget input coeff way, refused_wide strategy budget input coeff way);
      none = (none_by strategy budget input coeff way, refused_none strategy budget input coeff way);
    }

-- ---- the bits

pub bits_fall : BitsFall
unfolding bits_of pure_chain chain_before depth_of is_power_of_two top_power bit_len digits
bits_fall input coeff = (λ fall. (omega arith, omega arith), λ scales. omega (arith, scales.0, scales.1))

-- degree 1 takes the coefficient scale
of_one : (strategy : SplitStrategy) (input coeff : ℕ) → bits_of strategy 1 input coeff ≡ coeff
unfolding bits_of pure_chain chain_before depth_of is_power_of_two top_power bit_len digits
of_one MinDepth input coeff = omega arith
of_one MinMult input coeff = omega arith

-- and none takes less
from_scale : (strategy : SplitStrategy) (d input coeff : ℕ) → 0 < d → coeff ≤ bits_of strategy d input coeff
from_scale strategy d input coeff positive = rw (bits_from_one strategy d input coeff positive) (omega arith)

pub none_below_scale : NoneBelowScale
none_below_scale strategy budget input coeff = (
  λ exceed. rw (of_one strategy input coeff) at (exceed 1 (omega arith) (omega arith)),
  λ below. λ d from to. omega (arith, from_scale strategy d input coeff from),
)
