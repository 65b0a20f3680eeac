-- The tests of the leading-slice rule, one by one.
use mathlib.Core.Path.{◌≡◌, refl, sym, ◌∙◌}
use mathlib.Core.Bool.{Bool, true, false, ◌&&◌}
use Prim.Native.Nat.{ℕ, ◌+◌, ◌-◌, ◌^◌, ◌≤◌, ◌<◌}
use native.Mathlib.Decide.{dec_lt}
use native.Mathlib.Omega.{arith}
use borrow.Author.Tests.{lt-ltb, le-ltb}
use lib.Dec.{ltb}
use Rattle.number.specs.Bits.{bit_len}
use Rattle.counts.specs.MinDepth.{min_depth}
use Rattle.lists.specs.Tree.{listed_again}

and-false : (a : Bool) → (a && false) ≡ false
and-false true = refl
and-false false = refl

-- the whole degree exceeds a power of two less another, written as a sum
exceeds : (a b whole : ℕ) → 0 < whole → ltb (a - b) whole ≡ ltb a (whole + b)
exceeds a b whole positive = by_test (dec_lt a (whole + b))
  where
    by_test : Dec (a < whole + b) → ltb (a - b) whole ≡ ltb a (whole + b)
    by_test (yes less) = lt-ltb (a - b) whole (omega arith) ∙ sym (lt-ltb a (whole + b) less)
    by_test (no more) = le-ltb (a - b) whole (omega arith) ∙ sym (le-ltb a (whole + b) (omega arith))

module _ (leading : Bool) (whole degree split : ℕ) where
  -- not the leading slice
  pub not_leading : leading ≡ false → (leading && listed_again whole degree split) ≡ false
  not_leading low = rw low

  -- degree 0
  pub constant : degree < 1 → (leading && listed_again whole degree split) ≡ false
  unfolding listed_again
  constant none = rw (le-ltb 0 degree (omega arith)) (and-false leading)

  -- split 1
  pub least_split : split < 2 → (leading && listed_again whole degree split) ≡ false
  unfolding listed_again
  least_split low = rw (le-ltb 1 split (omega arith), and-false (ltb 0 degree)) (and-false leading)

  -- no smaller split
  pub none_smaller : split ≤ min_depth (bit_len degree) → (leading && listed_again whole degree split) ≡ false
  unfolding listed_again
  none_smaller as_great =
      rw (le-ltb (min_depth (bit_len degree)) split as_great, and-false (ltb 1 split), and-false (ltb 0 degree)) (and-false leading)

  -- otherwise the whole degree decides
  pub by_whole : 0 < whole → leading ≡ true → 0 < degree → 1 < split → min_depth (bit_len degree) < split
      → (leading && listed_again whole degree split) ≡ ltb (2 ^ bit_len whole) (whole + 2 ^ (split - 1))
  unfolding listed_again
  by_whole positive leads some above smaller =
      rw (leads, lt-ltb 0 degree some, lt-ltb 1 split above, lt-ltb (min_depth (bit_len degree)) split smaller)
      (exceeds (2 ^ bit_len whole) (2 ^ (split - 1)) whole positive)
