-- The rule of the plan tree (docs/RULES.md, "Factorising and listing"), without a bound on the steps.
use Rattle.std.specs.Prelude.{◌≡◌, Bool, true, false, ◌&&◌, ℕ, ◌-◌, ◌^◌, ◌≤◌, ◌<◌}
use Rattle.number.specs.Bits.{bit_len, top_power}
use Rattle.counts.specs.MinDepth.{min_depth}
use Rattle.lists.specs.Tree.{leaf, cut, listed_again, tree_of}

pub record TreeRule (leading : Bool) (whole degree split : ℕ) : Type 0 where
  -- a slice, of a degree below the base, is one list
  pub one_list : degree < 2 ^ split → (leading && listed_again whole degree split) ≡ false → tree_of leading whole degree split ≡ leaf
  -- or, listed again, it has the tree at the smaller split
  pub listed_again_lem : degree < 2 ^ split → (leading && listed_again whole degree split) ≡ true
      → tree_of leading whole degree split ≡ tree_of leading whole degree (min_depth (bit_len degree))
  -- from the base on the degree is cut at its greatest power of two; the low part is never leading, the high part if the whole is
  pub cut_at_top : 2 ^ split ≤ degree
      → tree_of leading whole degree split
      ≡ cut (top_power degree) (tree_of false whole (top_power degree - 1) split) (tree_of leading whole (degree - top_power degree) split)

-- every plan tree is made by it
abbrev pub TreesByRule : Type 0
TreesByRule = (leading : Bool) (whole degree split : ℕ) → TreeRule leading whole degree split
