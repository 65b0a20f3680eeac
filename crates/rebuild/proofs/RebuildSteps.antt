-- The rebuilder's cuts and slices over plain values: what each call is handed, and what the calls leave together.
use mathlib.Core.Path.{◌≡◌, ap, sym, ◌∙◌}
use mathlib.Core.Bool.{Bool, true, false, ◌&&◌}
use mathlib.Core.List.{List, ◌++◌}
use mathlib.Core.Option.{Option, some, none}
use Prim.Native.Nat.{ℕ, ◌+◌, ◌-◌, ◌^◌, ◌≤◌, ◌<◌}
use native.Mathlib.Omega.{arith}
use lib.IntN.{ℤ}
use lib.ListN.{length, take, drop, length-append, length-drop}
use lib.Pow.{pow_pos}
use lib.Seq.{length-take-le, take_at, drop_at}
use Rattle.algebra.specs.declared.Basis.{Basis}
use Rattle.number.specs.Bits.{bit_len, top_power}
use Rattle.number.specs.Tests.{degree_of}
use Rattle.number.proofs.Bits.{top_power_lem}
use Rattle.counts.specs.MinDepth.{min_depth}
use Rattle.lists.specs.Tree.{Tree, cut, listed_again, tree_of}
use Rattle.lists.specs.inside.Listing.{Ranges}
use Rattle.lists.proofs.TreeRule.{tree_leaf, tree_again, tree_cut}
use Rattle.lists.proofs.ListerCuts.{part_after, put_after}
use Rattle.number.specs.Options.{◌then◌, when}
use Rattle.rebuild.specs.Undo.{fits_i64, every, undone}
use Rattle.rebuild.specs.Rebuild.{rebuilt}
use Rattle.rebuild.proofs.Every.{every_take, every_drop, every_both}
use Rattle.rebuild.proofs.RebuildLaws.{rebuilt_fits}
use Rattle.rebuild.proofs.PartRanges.{smaller_part}

-- ---- a slice

module _ (basis : Basis) (leading : Bool) (whole split : ℕ) (c : List ℤ) (short : degree_of c < 2 ^ split) where
  pub slice_again : {o : Option (List ℤ)} → (leading && listed_again whole (degree_of c) split) ≡ true
      → rebuilt basis (tree_of leading whole (degree_of c) (min_depth (bit_len (degree_of c)))) c ≡ o
      → rebuilt basis (tree_of leading whole (degree_of c) split) c ≡ o
  slice_again again is = rw (tree_again leading whole (degree_of c) split short again) is

  pub slice_once : (leading && listed_again whole (degree_of c) split) ≡ false → rebuilt basis (tree_of leading whole (degree_of c) split) c ≡ some c
  unfolding rebuilt
  slice_once once = rw (tree_leaf leading whole (degree_of c) split short once)

-- ---- a cut

pub record Parting (leading : Bool) (whole split : ℕ) (c : List ℤ) (p : ℕ) : Type 0 where
  pub ranges : Ranges whole (degree_of c) split
  pub fits : every fits_i64 c ≡ true
  pub from : 2 ^ split ≤ degree_of c
  pub power : p ≡ top_power (degree_of c)

module _ (basis : Basis) {leading : Bool} {whole split : ℕ} {c : List ℤ} {p : ℕ} (k : Parting leading whole split c p) where
  bounds : (0 < p) × ((p < length c) × (length c ≤ p + p))
  bounds =
      let top = top_power_lem (degree_of c) (omega (arith, k.from, pow_pos split)) in
      let is = k.power in
      (omega arith, (omega arith, omega arith))

  pub positive : 0 < p
  positive = bounds.0

  pub under : p < length c
  under = bounds.1.0

  pub half_way : length c ≤ p + p
  half_way = bounds.1.1

  pub low_length : length (take p c) ≡ p
  low_length = length-take-le p c (omega (arith, under))

  pub high_length : length (drop p c) ≡ length c - p
  high_length = length-drop p c

  pub ranges_low : Ranges whole (degree_of (take p c)) split
  ranges_low = smaller_part k.ranges (omega (arith, low_length, under))

  pub fits_low : every fits_i64 (take p c) ≡ true
  fits_low = every_take fits_i64 p c k.fits

  tree : tree_of leading whole (degree_of c) split ≡ cut p (tree_of false whole (p - 1) split) (tree_of leading whole (length c - p - 1) split)
  tree =
      let swapped : length c - 1 - p ≡ length c - p - 1 = omega arith in
      tree_cut leading whole (degree_of c) split k.from ∙ rw (← k.power, swapped)

  whole_is : rebuilt basis (tree_of leading whole (degree_of c) split) c
      ≡ (rebuilt basis (tree_of false whole (p - 1) split) (take p c)
      then λ r. rebuilt basis (tree_of leading whole (length c - p - 1) split) (drop p c) then λ q. undone basis r q)
  unfolding rebuilt
  whole_is = ap (λ (t : Tree). rebuilt basis t c) tree

  -- low, rebuilt or not: y stands in its places
  pub record Low : Type 0 where
    pub y : List ℤ
    pub done : Bool
    pub told : rebuilt basis (tree_of false whole (degree_of (take p c)) split) (take p c) ≡ when done (some y)
    pub kept : length y ≡ length (take p c)

  module _ (low : Low) where
    low_is : rebuilt basis (tree_of false whole (p - 1) split) (take p c) ≡ when low.done (some low.y)
    low_is = rw low_length at low.told

    pub low_failed : low.done ≡ false → rebuilt basis (tree_of leading whole (degree_of c) split) c ≡ none
    low_failed fails = whole_is ∙ rw (low_is, fails)

    -- what is lent for high
    abbrev pub lent : List ℤ
    lent = take (length (low.y ++ drop p c) - p) (drop p (low.y ++ drop p c))

    pub joined_length : length (low.y ++ drop p c) ≡ length c
    joined_length = length-append low.y (drop p c) ∙ omega (arith, low.kept, low_length, high_length, under)

    part_is : lent ≡ drop p c
    part_is = part_after p low.y (drop p c) (low.kept ∙ low_length)

    pub lent_length : length lent ≡ length c - p
    lent_length = ap length part_is ∙ high_length

    pub ranges_high : Ranges whole (degree_of lent) split
    ranges_high = rw part_is (smaller_part k.ranges (omega (arith, high_length)))

    pub fits_high : every fits_i64 lent ≡ true
    fits_high = rw part_is (every_drop fits_i64 p c k.fits)

    -- high, rebuilt or not, after low was: z stands in its places
    pub record High : Type 0 where
      pub z : List ℤ
      pub done : Bool
      pub told : rebuilt basis (tree_of leading whole (degree_of lent) split) lent ≡ when done (some z)
      pub kept : length z ≡ length lent
      pub went_on : low.done ≡ true

    module _ (high : High) where
      high_is : rebuilt basis (tree_of leading whole (length c - p - 1) split) (drop p c) ≡ when high.done (some high.z)
      high_is = rw (part_is, high_length) at high.told

      pub high_failed : high.done ≡ false → rebuilt basis (tree_of leading whole (degree_of c) split) c ≡ none
      high_failed fails = whole_is ∙ rw (low_is, high.went_on, high_is, fails)

      -- what has come back of both
      abbrev pub come_back : List ℤ
      come_back = take p (low.y ++ drop p c) ++ (high.z ++ drop (length (low.y ++ drop p c) - p) (drop p (low.y ++ drop p c)))

      back_is : come_back ≡ low.y ++ high.z
      back_is = put_after p low.y (drop p c) (low.kept ∙ low_length) high.z

      pub back_length : length come_back ≡ length c
      back_length =
          ap length back_is ∙ length-append low.y high.z ∙ omega (arith, low.kept, high.kept, lent_length, low_length, under)

      module _ (done : high.done ≡ true) where
        pub back_fits : every fits_i64 come_back ≡ true
        back_fits =
            let first = rebuilt_fits basis (tree_of false whole (p - 1) split) (take p c) low.y fits_low (low_is ∙ rw high.went_on) in
            let second = rebuilt_fits basis (tree_of leading whole (length c - p - 1) split) (drop p c) high.z (every_drop fits_i64 p c k.fits)
            (high_is ∙ rw done) in
            ap (every fits_i64) back_is ∙ every_both fits_i64 low.y high.z first second

        pub both_done : {o : Option (List ℤ)} → undone basis (take p come_back) (drop p come_back) ≡ o
            → rebuilt basis (tree_of leading whole (degree_of c) split) c ≡ o
        both_done is =
            let long = low.kept ∙ low_length in
            let undoes : undone basis low.y high.z ≡ undone basis (take p come_back) (drop p come_back) =
            sym (rw (back_is, take_at low.y high.z p long, drop_at low.y high.z p long)) in
            whole_is ∙ rw (low_is, high.went_on, high_is, done) (undoes ∙ is)
