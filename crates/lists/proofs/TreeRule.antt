-- The rule of the plan tree, that everything else cites: a slice that is one list, a slice listed again, and a cut. The steps that the tree is
-- given are enough, since bit length plus split falls at each, and more change nothing.
use mathlib.Core.Path.{◌≡◌, refl, ap₂}
use mathlib.Core.Bool.{Bool, true, false, ◌&&◌, false≢true}
use Prim.Native.Nat.{ℕ, zero, suc, ◌+◌, ◌-◌, ◌^◌, ◌≤◌, ◌<◌}
use native.Mathlib.Decide.{dec_lt}
use native.Mathlib.Omega.{arith}
use borrow.Author.Tests.{lt-ltb, le-ltb, ltb-true, ltb-false}
use lib.Dec.{ltb}
use lib.Pow.{pow_pos}
use Rattle.number.specs.Bits.{bit_len, top_power}
use Rattle.number.proofs.Bits.{sides_fall}
use Rattle.number.proofs.BothHold.{and_left, and_right}
use Rattle.counts.specs.MinDepth.{min_depth}
use Rattle.lists.specs.Tree.{Tree, leaf, cut, listed_again, tree_in, tree_of}
use Rattle.lists.specs.TreeRule.{TreesByRule}

-- what a slice listed again fulfils
pub record Again (whole degree split : ℕ) : Type 0 where
  pub positive : 0 < degree
  pub above_one : 1 < split
  pub smaller : min_depth (bit_len degree) < split
  pub exceeded : 2 ^ bit_len whole - 2 ^ (split - 1) < whole

again_facts : (whole degree split : ℕ) → listed_again whole degree split ≡ true → Again whole degree split
unfolding listed_again
again_facts whole degree split =
    by_tests (ltb 0 degree) (ltb 1 split) (ltb (min_depth (bit_len degree)) split) (ltb (2 ^ bit_len whole - 2 ^ (split - 1)) whole) refl refl refl refl
  where
    by_tests : (a b c e : Bool) → ltb 0 degree ≡ a → ltb 1 split ≡ b → ltb (min_depth (bit_len degree)) split ≡ c
        → ltb (2 ^ bit_len whole - 2 ^ (split - 1)) whole ≡ e → (a && (b && (c && e))) ≡ true → Again whole degree split
    by_tests true true true true positive above smaller exceeded all = record {
      positive = ltb-true 0 degree positive;
      above_one = ltb-true 1 split above;
      smaller = ltb-true (min_depth (bit_len degree)) split smaller;
      exceeded = ltb-true (2 ^ bit_len whole - 2 ^ (split - 1)) whole exceeded;
    }
    by_tests true true true false positive above smaller exceeded all = absurd (false≢true all)
    by_tests true true false e positive above smaller exceeded all = absurd (false≢true all)
    by_tests true false c e positive above smaller exceeded all = absurd (false≢true all)
    by_tests false b c e positive above smaller exceeded all = absurd (false≢true all)

-- of the leading slice
pub leading_again : (leading : Bool) (whole degree split : ℕ) → (leading && listed_again whole degree split) ≡ true → Again whole degree split
leading_again leading whole degree split again = again_facts whole degree split (and_right leading (listed_again whole degree split) again)

-- ---- steps enough

module _ (whole : ℕ) where
  -- the steps that are left at each further tree suffice
  abbrev Same : ℕ → ℕ → Type 0
  Same f g = (leading : Bool) (degree split : ℕ) → bit_len degree + split < f → bit_len degree + split < g
      → tree_in f leading whole degree split ≡ tree_in g leading whole degree split

  steps_enough : (f g : ℕ) → Same f g
  unfolding tree_in
  steps_enough zero g leading degree split h k = absurd (omega arith)
  steps_enough (suc f) zero leading degree split h k = absurd (omega arith)
  steps_enough (suc f) (suc g) leading degree split h k = by_degree (ltb degree (2 ^ split)) refl (steps_enough f g)
    where
      by_slice : (again : Bool) → (leading && listed_again whole degree split) ≡ again → ltb degree (2 ^ split) ≡ true → Same f g
          → tree_in (suc f) leading whole degree split ≡ tree_in (suc g) leading whole degree split
      by_slice true again below fewer =
          let facts = leading_again leading whole degree split again in
          rw (below, again, tree_in) (fewer leading degree (min_depth (bit_len degree)) (omega arith) (omega arith))
      by_slice false again below fewer = rw (below, again, tree_in)

      by_degree : (below : Bool) → ltb degree (2 ^ split) ≡ below → Same f g
          → tree_in (suc f) leading whole degree split ≡ tree_in (suc g) leading whole degree split
      by_degree true below fewer = by_slice (leading && listed_again whole degree split) refl below fewer
      by_degree false below fewer =
          let positive : 0 < degree = omega (arith, ltb-false degree (2 ^ split) below, pow_pos split) in
          let falls = sides_fall degree positive in
          rw (below, tree_in)
          (ap₂ (cut (top_power degree))
          (fewer false (top_power degree - 1) split (omega arith) (omega arith))
          (fewer leading (degree - top_power degree) split (omega arith) (omega arith)))

-- ---- the three equations

module _ (leading : Bool) (whole degree split : ℕ) where
  -- a slice that is not listed again is one list
  pub tree_leaf : degree < 2 ^ split → (leading && listed_again whole degree split) ≡ false → tree_of leading whole degree split ≡ leaf
  unfolding tree_of tree_in
  tree_leaf below once = rw (lt-ltb degree (2 ^ split) below, once, tree_in)

  -- a slice listed again has the tree at the smaller split
  pub tree_again : degree < 2 ^ split → (leading && listed_again whole degree split) ≡ true
      → tree_of leading whole degree split ≡ tree_of leading whole degree (min_depth (bit_len degree))
  unfolding tree_of tree_in
  tree_again below again =
      let facts = leading_again leading whole degree split again in
      rw (lt-ltb degree (2 ^ split) below, again, tree_in)
      (steps_enough whole (bit_len degree + split) (suc (bit_len degree + min_depth (bit_len degree))) leading degree (min_depth (bit_len degree))
      (omega arith) (omega arith))

  -- from the base on a cut
  pub tree_cut : 2 ^ split ≤ degree
      → tree_of leading whole degree split
      ≡ cut (top_power degree) (tree_of false whole (top_power degree - 1) split) (tree_of leading whole (degree - top_power degree) split)
  unfolding tree_of tree_in
  tree_cut from =
      let falls = sides_fall degree (omega (arith, pow_pos split)) in
      let steps = bit_len degree + split in
      rw (le-ltb degree (2 ^ split) from, tree_in)
      (ap₂ (cut (top_power degree))
      (steps_enough whole steps (suc (bit_len (top_power degree - 1) + split)) false (top_power degree - 1) split (omega arith) (omega arith))
      (steps_enough whole steps (suc (bit_len (degree - top_power degree) + split)) leading (degree - top_power degree) split (omega arith) (omega arith)))

pub trees_by_rule : TreesByRule
trees_by_rule leading whole degree split = record {
  one_list = tree_leaf leading whole degree split;
  listed_again_lem = tree_again leading whole degree split;
  cut_at_top = tree_cut leading whole degree split;
}

-- ---- by induction over the tree

-- what holds of one list, of a tree listed again if of the tree at the smaller split, and of a cut if of its parts, holds of every tree
module _ (whole : ℕ) (Holds : Bool → (degree split : ℕ) → Tree → Type 0)
    (one : (leading : Bool) (degree split : ℕ) → degree < 2 ^ split → Holds leading degree split leaf)
    (listed_again_lem : (leading : Bool) (degree split : ℕ) (tree : Tree) → leading ≡ true → Again whole degree split
    → Holds leading degree (min_depth (bit_len degree)) tree → Holds leading degree split tree)
    (both : (leading : Bool) (degree split : ℕ) (low high : Tree) → 2 ^ split ≤ degree → Holds false (top_power degree - 1) split low
    → Holds leading (degree - top_power degree) split high → Holds leading degree split (cut (top_power degree) low high)) where
  abbrev Below : ℕ → Type 0
  Below steps = (leading : Bool) (degree split : ℕ) → bit_len degree + split < steps → Holds leading degree split (tree_of leading whole degree split)

  by_steps : (steps : ℕ) → Below steps
  by_steps zero leading degree split h = absurd (omega arith)
  by_steps (suc steps) leading degree split h = by_degree (dec_lt degree (2 ^ split)) (by_steps steps)
    where
      by_slice : (again : Bool) → (leading && listed_again whole degree split) ≡ again → degree < 2 ^ split → Below steps
          → Holds leading degree split (tree_of leading whole degree split)
      by_slice true again below fewer =
          let facts = leading_again leading whole degree split again in
          rw (tree_again leading whole degree split below again)
          (listed_again_lem leading degree split (tree_of leading whole degree (min_depth (bit_len degree)))
          (and_left leading (listed_again whole degree split) again) facts (fewer leading degree (min_depth (bit_len degree)) (omega arith)))
      by_slice false again below fewer = rw (tree_leaf leading whole degree split below again) (one leading degree split below)

      by_degree : Dec (degree < 2 ^ split) → Below steps → Holds leading degree split (tree_of leading whole degree split)
      by_degree (yes below) fewer = by_slice (leading && listed_again whole degree split) refl below fewer
      by_degree (no above) fewer =
          let falls = sides_fall degree (omega (arith, pow_pos split)) in
          rw (tree_cut leading whole degree split (omega arith))
          (both leading degree split (tree_of false whole (top_power degree - 1) split) (tree_of leading whole (degree - top_power degree) split)
          (omega arith) (fewer false (top_power degree - 1) split (omega arith)) (fewer leading (degree - top_power degree) split (omega arith)))

  pub tree_holds : (leading : Bool) (degree split : ℕ) → Holds leading degree split (tree_of leading whole degree split)
  tree_holds leading degree split = by_steps (suc (bit_len degree + split)) leading degree split (omega arith)
