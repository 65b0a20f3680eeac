-- The number of lists of a slice and of a cut, and what a count hands on.
use mathlib.Core.Path.{◌≡◌, ap₂, ◌∙◌}
use mathlib.Core.Bool.{Bool, true, false, ◌&&◌}
use Prim.Native.Nat.{ℕ, ◌+◌, ◌-◌, ◌^◌, ◌≤◌, ◌<◌}
use Rattle.number.specs.Bits.{bit_len, top_power}
use Rattle.counts.specs.MinDepth.{min_depth}
use Rattle.lists.specs.Tree.{listed_again, tree_of}
use Rattle.lists.specs.Arrange.{leaves_of}
use Rattle.lists.proofs.TreeRule.{tree_leaf, tree_again, tree_cut}

module _ (leading : Bool) (whole degree split : ℕ) where
  pub counted_cut : (p : ℕ) {low high : ℕ} → 2 ^ split ≤ degree → p ≡ top_power degree → low ≡ leaves_of (tree_of false whole (p - 1) split)
      → high ≡ leaves_of (tree_of leading whole (degree - p) split) → low + high ≡ leaves_of (tree_of leading whole degree split)
  unfolding leaves_of
  counted_cut p from power low_is high_is = ap₂ ◌+◌ low_is high_is ∙ rw (tree_cut leading whole degree split from, ← power)

  pub counted_again : {t r : ℕ} → degree < 2 ^ split → (leading && listed_again whole degree split) ≡ true → t ≡ min_depth (bit_len degree)
      → r ≡ leaves_of (tree_of leading whole degree t) → r ≡ leaves_of (tree_of leading whole degree split)
  counted_again below again split_is r_is = r_is ∙ rw (tree_again leading whole degree split below again, split_is)

  pub counted_one : degree < 2 ^ split → (leading && listed_again whole degree split) ≡ false → 1 ≡ leaves_of (tree_of leading whole degree split)
  unfolding leaves_of
  counted_one below once = rw (tree_leaf leading whole degree split below once)
