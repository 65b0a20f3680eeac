-- The tally of the slices: below the base that of one slice, and at a cut the sum of the tallies of both sides. There is at least one slice, and
-- slices and pt-ct multiplications together are at most the degree + 1.
use mathlib.Core.Path.{◌≡◌, refl, ap}
use mathlib.Core.Bool.{Bool, true, false}
use mathlib.Core.List.{List, [], ◌∷◌, ◌++◌}
use Prim.Native.Nat.{ℕ, zero, suc, ◌+◌, ◌-◌, ◌^◌, ◌≤◌, ◌<◌}
use native.Mathlib.Omega.{arith}
use borrow.Author.Tests.{ltb-false}
use lib.Pow.{pow_pos}
use lib.Dec.{ltb}
use lib.ListN.{length, length-append}
use Rattle.algebra.specs.declared.Parity.{Parity}
use Rattle.number.specs.Bits.{bit_len, top_power}
use Rattle.counts.specs.Slices.{slices_in, slices_of, last_of}
use Rattle.counts.specs.PlainCount.{allowed_to, plain_count}
use Rattle.counts.specs.inside.Tallies.{tally_of}
use Rattle.counts.specs.declared.slices.Tally.{Tally}
use Rattle.number.proofs.Bits.{top_power_lem}
use Rattle.counts.proofs.SliceRule.{slices_one, slices_cut}
use Rattle.counts.proofs.PlainCount.{allowed_at_most, plain_append}

-- ---- ranges

-- at least one slice, and no more slices and pt-ct multiplications than the degree + 1
pub record TallyRange (degree : ℕ) (tally : Tally) : Type 0 where
  pub nonempty : 0 < tally.slices
  pub at_most : tally.slices + tally.pt ≤ degree + 1

module _ (parity : Parity) where
  one_range : (degree : ℕ) → TallyRange degree (tally_of parity (degree ∷ []))
  unfolding tally_of plain_count
  one_range degree = record { nonempty = omega arith; at_most = omega (arith, allowed_at_most parity degree) }

  cut_range : {degree p : ℕ} (low high : List ℕ) → 0 < p → p ≤ degree → TallyRange (p - 1) (tally_of parity low)
      → TallyRange (degree - p) (tally_of parity high) → TallyRange degree (tally_of parity (low ++ high))
  unfolding tally_of
  cut_range low high positive within low_range high_range =
      let slices = length-append low high in
      record {
        nonempty = omega (arith, low_range.nonempty);
        at_most = omega (arith, plain_append parity low high, low_range.at_most, high_range.at_most);
      }

  in_range_lem : (split cuts degree : ℕ) → TallyRange degree (tally_of parity (slices_in cuts degree split))
  unfolding slices_in
  in_range_lem split zero degree = one_range degree
  in_range_lem split (suc cuts) degree = by_test (ltb degree (2 ^ split)) refl (in_range_lem split cuts)
    where
      by_test : (test : Bool) → ltb degree (2 ^ split) ≡ test → ((d : ℕ) → TallyRange d (tally_of parity (slices_in cuts d split)))
          → TallyRange degree (tally_of parity (slices_in (suc cuts) degree split))
      by_test true is sides = rw (is, slices_in) (one_range degree)
      by_test false is sides =
          let top = top_power_lem degree (omega (arith, ltb-false degree (2 ^ split) is, pow_pos split)) in
          rw (is, slices_in) (cut_range _ _ top.positive top.within (sides (top_power degree - 1)) (sides (degree - top_power degree)))

pub tally_range : {tally : Tally} (parity : Parity) (degree split : ℕ) → tally ≡ tally_of parity (slices_of degree split) → TallyRange degree tally
unfolding slices_of
tally_range parity degree split is = rw is (in_range_lem parity split (bit_len degree) degree)

-- ---- tallies

-- the last of two lists one after another
pub last_append : (low high : List ℕ) → 0 < length high → last_of (low ++ high) ≡ last_of high
unfolding last_of
last_append [] high nonempty = refl
last_append (d ∷ []) [] nonempty = absurd (omega arith)
last_append (d ∷ []) (e ∷ high) nonempty = refl
last_append (d ∷ e ∷ low) high nonempty = last_append (e ∷ low) high nonempty

module _ (parity : Parity) (degree split : ℕ) where
  -- below the base
  pub tally_one : {n : ℕ} → degree < 2 ^ split → n ≡ allowed_to parity degree
      → record { slices = 1; pt = n; last = degree } ≡ tally_of parity (slices_of degree split)
  unfolding tally_of plain_count last_of
  tally_one {n} under counted =
      rw (slices_one split degree under) (ap (λ (x : ℕ). record { slices = 1; pt = x; last = degree }) whole)
    where
      whole : n ≡ allowed_to parity degree + 0
      whole = omega arith

  -- from the base on: both sides together
  pub tally_cut : {p : ℕ} {low high : Tally} → 2 ^ split ≤ degree → p ≡ top_power degree
      → low ≡ tally_of parity (slices_of (p - 1) split) → high ≡ tally_of parity (slices_of (degree - p) split)
      → record { slices = low.slices + high.slices; pt = low.pt + high.pt; last = high.last } ≡ tally_of parity (slices_of degree split)
  unfolding tally_of
  tally_cut reached p_is low_is high_is =
      let low = slices_of (top_power degree - 1) split in
      let high = slices_of (degree - top_power degree) split in
      let nonempty = (tally_range parity (degree - top_power degree) split refl).nonempty in
      rw (low_is, high_is, p_is, slices_cut split degree reached, length-append low high, plain_append parity low high, last_append low high nonempty)
