-- The lister's cuts and slices over plain values: what each call is handed, and what the calls leave together. One proof for i64 and f64.
use mathlib.Core.Path.{◌≡◌, ap, ◌∙◌}
use mathlib.Core.Bool.{Bool, true, false, ◌&&◌}
use mathlib.Core.List.{List, ◌++◌, append-nil}
use Prim.Native.Nat.{ℕ, ◌+◌, ◌-◌, ◌^◌, ◌≤◌, ◌<◌}
use native.Mathlib.Omega.{arith}
use lib.ListN.{length, take, drop, set, length-append, length-drop, drop_of_length-le}
use lib.Pow.{pow_pos}
use lib.Seq.{length-take-le, take_all, take_at, drop_at}
use Rattle.algebra.specs.Operations.{Operations}
use Rattle.algebra.specs.Cut.{cut_at}
use Rattle.algebra.specs.declared.Basis.{Basis}
use Rattle.algebra.proofs.CutPlaces as places
use Rattle.number.specs.Bits.{bit_len, top_power}
use Rattle.number.specs.Tests.{degree_of}
use Rattle.number.proofs.Bits.{top_power_lem}
use Rattle.counts.specs.MinDepth.{min_depth}
use Rattle.lists.specs.Tree.{cut, listed_again, tree_of}
use Rattle.lists.specs.Arrange.{leaves_of}
use Rattle.lists.specs.inside.Listing.{Listable, InPlace}
use Rattle.lists.proofs.TreeRule.{leading_again, tree_leaf, tree_again, tree_cut}
use Rattle.lists.proofs.Arranging.{some_leaves, place_cut, place_leaf}

-- a part lent and come back: y stands for the first p places, and `rest` follows
module _ {A : Type 0} (p : ℕ) (y rest : List A) (front : length y ≡ p) where
  pub part_after : take (length (y ++ rest) - p) (drop p (y ++ rest)) ≡ rest
  part_after = rw (drop_at y rest p front, length-append) (take_all (length y + length rest - p) rest (omega arith))

  pub put_after : (z : List A) → take p (y ++ rest) ++ (z ++ drop (length (y ++ rest) - p) (drop p (y ++ rest))) ≡ y ++ z
  put_after z =
      let whole : length rest ≤ length y + length rest - p = omega arith in
      rw (take_at y rest p front, drop_at y rest p front, length-append, drop_of_length-le rest whole, append-nil)

-- a slice
module _ {A : Type 0} {leading : Bool} {whole split at n : ℕ} {c : List A} {b : List ℕ} (listable : Listable leading whole split at n c b) where
  pub room_for_one : n < length b
  room_for_one = omega (arith, some_leaves (tree_of leading whole (degree_of c) split), listable.boundary_room)

  module _ (below : degree_of c < 2 ^ split) (again : (leading && listed_again whole (degree_of c) split) ≡ true) where
    pub smaller : min_depth (bit_len (degree_of c)) < split
    smaller = (leading_again leading whole (degree_of c) split again).smaller

    pub listable_again : Listable leading whole (min_depth (bit_len (degree_of c))) at n c b
    listable_again = record {
      nonempty = listable.nonempty;
      ends_fit = listable.ends_fit;
      ranges = record {
        positive = listable.ranges.positive;
        whole_limit = listable.ranges.whole_limit;
        part_limit = listable.ranges.part_limit;
        split_limit = omega (arith, smaller, listable.ranges.split_limit);
      };
      boundary_room = rw (← tree_again leading whole (degree_of c) split below again) listable.boundary_room;
    }

    pub place_again : {𝓞 : Operations A} {basis : Basis} {c' : List A} {b' : List ℕ} {r : ℕ}
        → InPlace 𝓞 basis (tree_of leading whole (degree_of c) (min_depth (bit_len (degree_of c)))) at n c b r c' b'
        → InPlace 𝓞 basis (tree_of leading whole (degree_of c) split) at n c b r c' b'
    place_again placed = rw (tree_again leading whole (degree_of c) split below again) placed

  pub place_slice : {𝓞 : Operations A} {basis : Basis} → degree_of c < 2 ^ split → (leading && listed_again whole (degree_of c) split) ≡ false
      → InPlace 𝓞 basis (tree_of leading whole (degree_of c) split) at n c b (n + 1) c (set b n (at + length c))
  place_slice below once = rw (tree_leaf leading whole (degree_of c) split below once) (place_leaf c)

-- a cut, that left c₁ of c
pub record Cutting {A : Type 0} (𝓞 : Operations A) (leading : Bool) (basis : Basis) (whole split at n : ℕ) (c : List A) (b : List ℕ) (p : ℕ)
    (c₁ : List A) : Type 0 where
  pub listable : Listable leading whole split at n c b
  pub from : 2 ^ split ≤ degree_of c
  pub power : p ≡ top_power (degree_of c)
  pub parted : c₁ ≡ cut_at 𝓞 basis p c

module _ {A : Type 0} {𝓞 : Operations A} {leading : Bool} {basis : Basis} {whole split at n : ℕ} {c : List A} {b : List ℕ} {p : ℕ} {c₁ : List A}
    (k : Cutting 𝓞 leading basis whole split at n c b p c₁) where
  bounds : (0 < p) × ((p < length c) × (length c ≤ p + p))
  bounds =
      let top = top_power_lem (degree_of c) (omega (arith, k.from, pow_pos split)) in
      let is = k.power in
      (omega arith, (omega arith, omega arith))

  pub positive : 0 < p
  positive = bounds.0

  pub under : p < length c
  under = bounds.1.0

  pub half : length c ≤ p + p
  half = bounds.1.1

  pub same_length : length c₁ ≡ length c
  same_length = ap length k.parted ∙ places.cut_length 𝓞 p c (omega (arith, under)) basis

  pub low_length : length (take p c₁) ≡ p
  low_length = length-take-le p c₁ (omega (arith, under, same_length))

  pub high_length : length (drop p c₁) ≡ length c - p
  high_length = length-drop p c₁ ∙ ap (λ (x : ℕ). x - p) same_length

  tree : tree_of leading whole (degree_of c) split ≡ cut p (tree_of false whole (p - 1) split) (tree_of leading whole (length c - p - 1) split)
  tree =
      let swapped : length c - 1 - p ≡ length c - p - 1 = omega arith in
      tree_cut leading whole (degree_of c) split k.from ∙ rw (← k.power, swapped)

  leaves : leaves_of (tree_of leading whole (degree_of c) split)
      ≡ leaves_of (tree_of false whole (p - 1) split) + leaves_of (tree_of leading whole (length c - p - 1) split)
  unfolding leaves_of
  leaves = ap leaves_of tree

  pub listable_low : Listable false whole split at n (take p c₁) b
  listable_low = record {
    nonempty = rw low_length positive;
    ends_fit = rw low_length (omega (arith, k.listable.ends_fit, under));
    ranges = record {
      positive = k.listable.ranges.positive;
      whole_limit = k.listable.ranges.whole_limit;
      part_limit = rw low_length (omega (arith, k.listable.ends_fit, under));
      split_limit = k.listable.ranges.split_limit;
    };
    boundary_room = rw low_length (omega (arith, leaves, k.listable.boundary_room));
  }

  module _ {y : List A} {b₁ : List ℕ} {m : ℕ}
      (low : InPlace 𝓞 basis (tree_of false whole (degree_of (take p c₁)) split) at n (take p c₁) b m y b₁) (kept : length y ≡ length (take p c₁)) where
    abbrev lent : List A
    lent = take (length (y ++ drop p c₁) - p) (drop p (y ++ drop p c₁))

    pub joined_length : length (y ++ drop p c₁) ≡ length c
    joined_length = length-append y (drop p c₁) ∙ omega (arith, kept, low_length, high_length, under)

    pub part_is : lent ≡ drop p c₁
    part_is = part_after p y (drop p c₁) (kept ∙ low_length)

    pub listable_high : length b₁ ≡ length b → Listable leading whole split (at + p) m lent b₁
    listable_high same =
        let count : m ≡ n + leaves_of (tree_of false whole (p - 1) split) =
        low.count ∙ ap (λ (x : ℕ). n + leaves_of (tree_of false whole (x - 1) split)) low_length in
        rw part_is (record {
          nonempty = rw high_length (omega (arith, under));
          ends_fit = rw high_length (omega (arith, k.listable.ends_fit, under));
          ranges = record {
            positive = k.listable.ranges.positive;
            whole_limit = k.listable.ranges.whole_limit;
            part_limit = rw high_length (omega (arith, k.listable.ends_fit, under));
            split_limit = k.listable.ranges.split_limit;
          };
          boundary_room = rw high_length (omega (arith, leaves, k.listable.boundary_room));
        })

    pub place_both : {z : List A} {b₂ : List ℕ} {r : ℕ} → InPlace 𝓞 basis (tree_of leading whole (degree_of lent) split) (at + p) m lent b₁ r z b₂
        → InPlace 𝓞 basis (tree_of leading whole (degree_of c) split) at n c b r
        (take p (y ++ drop p c₁) ++ (z ++ drop (length (y ++ drop p c₁) - p) (drop p (y ++ drop p c₁)))) b₂
    place_both {z} high =
        rw (tree, put_after p y (drop p c₁) (kept ∙ low_length) z)
        (place_cut p (rw k.parted at low_length) (rw k.parted at high_length) (rw (low_length, k.parted) at low)
        (rw (part_is, high_length, k.parted) at high))
