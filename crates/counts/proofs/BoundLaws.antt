-- What a split takes at least. A slice has at most as many places as the base, so the slices less one are at least degree / base. The allowed
-- powers from 2 in the slices are needed, and from the base on the powers of two. At a power of two one multiplication may move to pt-ct.
use mathlib.Core.Path.{◌≡◌}
use mathlib.Core.Bool.{Bool, true, cond}
use mathlib.Core.List.{List}
use Prim.Native.Nat.{ℕ, zero, suc, ◌+◌, ◌-◌, ◌*◌, ◌/◌, ◌^◌, ◌≤◌, ◌<◌}
use native.Mathlib.Decide.{dec_lt}
use native.Mathlib.Nat.{add-mul, div-lt_iff_lt-mul}
use native.Mathlib.Omega.{arith}
use lib.ListN.{length, length-append, take}
use lib.Pow.{pow_pos}
use Rattle.algebra.specs.Allowed.{allows}
use Rattle.algebra.specs.declared.Basis.{Basis}
use Rattle.algebra.specs.declared.Parity.{Parity}
use Rattle.number.specs.Bits.{bit_len, top_power}
use Rattle.needed.specs.Needed.{baby_limit}
use Rattle.needed.specs.NeededList.{needed_count}
use Rattle.needed.specs.inside.Marks.{Marked, needed_marks, count_marks}
use Rattle.counts.specs.Slices.{slices_of, last_of}
use Rattle.counts.specs.PlainCount.{allowed_to, plain_count}
use Rattle.counts.specs.Pair.{last_is_plain, one_plain, pair_of, pair_at}
use Rattle.counts.specs.declared.pair.Pair.{Pair}
use Rattle.number.proofs.Bits.{top_power_lem, sides_fall}
use Rattle.needed.proofs.Flags.{by_test}
use Rattle.needed.proofs.Needed.{allowed_needed}
use Rattle.needed.proofs.NeededMarks.{marked_needed}
use Rattle.needed.proofs.MarkedPowers.{needed_counted}
use Rattle.needed.proofs.PlaceLaws.{count_take, count_place, count_marked}
use Rattle.needed.proofs.BaseLaws.{needed_from_base}
use Rattle.counts.proofs.SliceRule.{no_digits, slices_one, slices_cut}
use Rattle.counts.proofs.PairLaws.{plain_two, plain_power}

-- ---- slices

-- there are at most as many places in each as the base
abbrev Covered : (degree split : ℕ) → Type 0
Covered degree split = degree < length (slices_of degree split) * 2 ^ split

one_covered : (degree split : ℕ) → degree < 2 ^ split → Covered degree split
one_covered degree split under = rw (slices_one split degree under) (omega arith)

cut_covered : (degree split : ℕ) → 2 ^ split ≤ degree → Covered (top_power degree - 1) split → Covered (degree - top_power degree) split
    → Covered degree split
cut_covered degree split reached low high =
    let top = top_power_lem degree (omega (arith, pow_pos split)) in
    let low_slices = slices_of (top_power degree - 1) split in
    let high_slices = slices_of (degree - top_power degree) split in
    rw (slices_cut split degree reached, length-append low_slices high_slices, add-mul (length low_slices) (length high_slices) (2 ^ split))
    (omega arith)

covered : (cuts degree split : ℕ) → bit_len degree ≤ cuts → Covered degree split
covered zero degree split enough = one_covered degree split (no_digits degree enough (pow_pos split))
covered (suc cuts) degree split enough = by_size (covered cuts) (dec_lt degree (2 ^ split))
  where
    by_size : ((d s : ℕ) → bit_len d ≤ cuts → Covered d s) → Dec (degree < 2 ^ split) → Covered degree split
    by_size sides (yes under) = one_covered degree split under
    by_size sides (no reached) =
        let positive : 0 < degree = omega (arith, pow_pos split) in
        let fall = sides_fall degree positive in
        cut_covered degree split (omega arith) (sides (top_power degree - 1) split (omega arith)) (sides (degree - top_power degree) split (omega arith))

slices_least : (degree split : ℕ) → degree / 2 ^ split < length (slices_of degree split)
slices_least degree split = (div-lt_iff_lt-mul (pow_pos split)).1 (covered (bit_len degree) degree split (omega arith))

-- ---- needed powers

pub allowed_one : (parity : Parity) (d : ℕ) → 1 ≤ d → allowed_to parity 1 ≤ allowed_to parity d
unfolding allowed_to
allowed_one parity zero from = absurd (omega arith)
allowed_one parity (suc zero) from = omega arith
allowed_one parity (suc (suc d)) from = omega (arith, allowed_one parity (suc d) (omega arith))

module _ (parity : Parity) (basis : Basis) (degree split : ℕ) where
  abbrev marks : List Bool
  marks = needed_marks parity basis degree split

  -- the allowed powers up to k below the limit are needed, but for 1
  allowed_first : (k : ℕ) → k < baby_limit degree split → allowed_to parity k ≤ count_marks (take (suc k) marks) + allowed_to parity 1
  unfolding allowed_to
  allowed_first zero under = omega arith
  allowed_first (suc zero) under = omega arith
  allowed_first (suc (suc k)) under =
      let before = allowed_first (suc k) (omega arith) in
      by_test
      (λ (b : Bool). allowed_to parity (suc k) + cond b 1 0 ≤ count_marks (take (suc (suc (suc k))) marks) + allowed_to parity 1)
      (allows parity (suc (suc k)))
      (λ is.
      let needed = allowed_needed parity basis degree split (suc (suc k)) (omega arith) under is in
      let marked : Marked marks (suc (suc k)) = (marked_needed parity basis degree split (suc (suc k))).1 needed in
      omega (arith, count_marked marks (suc (suc k)) marked))
      (λ is. omega (arith, count_place marks (suc (suc k))))

  allowed_most : (k : ℕ) → k < baby_limit degree split → allowed_to parity k ≤ needed_count parity basis degree split + allowed_to parity 1
  allowed_most k under = omega (arith, allowed_first k under, count_take (suc k) marks, needed_counted parity basis degree split)

-- ---- the pair

module _ (parity : Parity) (basis : Basis) (degree split : ℕ) where
  abbrev slices : List ℕ
  slices = slices_of degree split

  abbrev whole : Pair
  whole = record { ct = length slices - 1 + needed_count parity basis degree split; pt = plain_count parity slices }

  -- one multiplication may move to pt-ct
  pair_least : whole.ct ≤ (pair_at parity basis degree split).ct + 1
  unfolding pair_at pair_of
  pair_least =
      by_test (λ (b : Bool). whole.ct ≤ (cond b (one_plain whole) whole).ct + 1) (last_is_plain degree (length slices) (last_of slices))
      (λ is. omega arith)
      (λ is. omega arith)

  -- none moves
  pair_whole_least : (last_is_plain degree (length slices) (last_of slices) ≡ true → ⊥) → whole.ct ≤ (pair_at parity basis degree split).ct
  unfolding pair_at pair_of
  pair_whole_least never =
      by_test (λ (b : Bool). whole.ct ≤ (cond b (one_plain whole) whole).ct) (last_is_plain degree (length slices) (last_of slices))
      (λ is. absurd (never is))
      (λ is. omega arith)

  -- below the base there is one slice
  pub fewest_below : {n : ℕ} → degree < 2 ^ split → n + allowed_to parity 1 ≡ allowed_to parity degree → n ≤ (pair_at parity basis degree split).ct
  fewest_below under counted =
      let never : last_is_plain degree (length slices) (last_of slices) ≡ true → ⊥ = λ is. one_slice (plain_two _ _ _ is) in
      omega (arith, allowed_most parity basis degree split degree (omega arith), pair_whole_least never)
    where
      one_slice : 2 ≤ length slices → ⊥
      one_slice two = let two_or_more = rw (slices_one split degree under) at two in omega arith

  -- ---- from the base on

  module _ (n : ℕ) (some : 0 < split) {base bits : ℕ} (base_is : base ≡ 2 ^ split) (bits_is : bits ≡ bit_len degree) (reached : base ≤ degree)
      (counted : n + allowed_to parity 1 ≡ allowed_to parity (base - 1)) where
    fewest_whole : degree / 2 ^ split + (n + (bits - split)) ≤ whole.ct
    fewest_whole =
        let powers = needed_from_base parity basis degree split some (omega arith) in
        let below = rw base_is at counted in
        omega (arith, allowed_most parity basis (2 ^ split - 1) split (2 ^ split - 1) (omega (arith, pow_pos split)), slices_least degree split)

    pub fewest_plain : degree / 2 ^ split + (n + (bits - split)) - 1 ≤ (pair_at parity basis degree split).ct
    fewest_plain = omega (arith, fewest_whole, pair_least)

    pub fewest_other : (degree ≡ top_power degree → ⊥) → degree / 2 ^ split + (n + (bits - split)) ≤ (pair_at parity basis degree split).ct
    fewest_other not_power = omega (arith, fewest_whole, pair_whole_least (λ is. not_power (plain_power _ _ _ is)))
