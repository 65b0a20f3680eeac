-- The plan tree (docs/RULES.md, "Factorising and listing"): how a polynomial is cut into lists. It goes by degrees alone, no coefficient matters.
use Rattle.std.specs.Prelude.{Bool, true, false, ◌&&◌, ℕ, zero, suc, ◌+◌, ◌-◌, ◌^◌, ltb}
use Rattle.algebra.specs.declared.Basis.{Basis}
use Rattle.algebra.specs.declared.Parity.{Parity}
use Rattle.number.specs.Bits.{bit_len, top_power}
use Rattle.counts.specs.MinDepth.{min_depth}
use Rattle.counts.specs.Choice.{split_for}
use Rattle.counts.specs.declared.choice.SplitStrategy.{SplitStrategy}
use Rattle.counts.specs.declared.choice.SplitStrategy.TheVariants.{MinDepth, MinMult}

-- one list; or a cut at p, with a low and a high part
pub data Tree : Type 0 where
  leaf : Tree
  cut : (p : ℕ) → (low high : Tree) → Tree

-- a leading slice of degree d ≥ 1 at split s > 1 is listed again at split MinDepth(bit_len(d)), if that is below s and the whole degree
-- exceeds 2^L − 2^(s−1)
unfoldable pub listed_again : (whole degree split : ℕ) → Bool
listed_again whole degree split =
    ltb 0 degree && (ltb 1 split && (ltb (min_depth (bit_len degree)) split && ltb (2 ^ bit_len whole - 2 ^ (split - 1)) whole))

-- the tree of a degree at a split: below the base 2^split one list, or, for a leading slice, the tree at the smaller split; otherwise a cut at
-- the greatest power of two p at most the degree, into degrees p − 1 and degree − p, of which the low part is never leading. The first
-- argument bounds the steps; specs/TreeRule says the same without it.
unfoldable pub tree_in : (steps : ℕ) → (leading : Bool) → (whole degree split : ℕ) → Tree
tree_in zero leading whole degree split = leaf
tree_in (suc steps) leading whole degree split =
    elim (ltb degree (2 ^ split)) [
      | true ↦
          elim (leading && listed_again whole degree split) [
            | true ↦ tree_in steps leading whole degree (min_depth (bit_len degree))
            | false ↦ leaf
          ]
      | false ↦
          cut (top_power degree) (tree_in steps false whole (top_power degree - 1) split) (tree_in steps leading whole (degree - top_power degree) split)
    ]

-- each cut takes a binary digit off both parts, and each slice listed again has a smaller split: so many steps are enough
unfoldable pub tree_of : (leading : Bool) → (whole degree split : ℕ) → Tree
tree_of leading whole degree split = tree_in (suc (bit_len degree + split)) leading whole degree split

-- only MinDepth lists a leading slice again
abbrev pub relists : SplitStrategy → Bool
relists MinDepth = true
relists MinMult = false

-- the tree of a whole polynomial
abbrev pub plan_tree : SplitStrategy → Parity → Basis → (degree : ℕ) → Tree
plan_tree strategy parity basis degree = tree_of (relists strategy) degree degree (split_for strategy parity basis degree)
