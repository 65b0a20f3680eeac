-- The totals of the lists of a tree: of one list, of a slice listed again, and of a cut from its parts'. Lists and allowed powers together are at
-- most the coefficients.
use mathlib.Core.Path.{◌≡◌, refl, ap, sym, ◌∙◌}
use mathlib.Core.Bool.{Bool, true, false, ◌&&◌}
use mathlib.Core.List.{List, [], ◌∷◌, ◌++◌}
use Prim.Native.Nat.{ℕ, zero, suc, ◌+◌, ◌-◌, ◌*◌, ◌^◌, ◌≤◌, ◌<◌}
use native.Mathlib.Nat.{add-mul, two-pow-succ}
use native.Mathlib.Omega.{arith}
use lib.Pow.{pow_pos}
use Rattle.algebra.specs.declared.Parity.{Parity}
use Rattle.number.specs.Bits.{bit_len, top_power}
use Rattle.number.proofs.Bits.{top_power_lem}
use Rattle.needed.proofs.BaseLaws.{split_under}
use Rattle.counts.specs.MinDepth.{min_depth}
use Rattle.counts.specs.PlainCount.{allowed_to}
use Rattle.counts.proofs.PlainCount.{allowed_at_most}
use Rattle.lists.specs.Tree.{Tree, leaf, cut, listed_again, tree_of}
use Rattle.lists.specs.Arrange.{leaves_of, lengths_of}
use Rattle.lists.proofs.TreeRule.{Again, tree_leaf, tree_again, tree_cut, tree_holds}
use Rattle.lists.proofs.FullTrees.{full, full_one, full_halves, low_leaves}
use Rattle.lists.proofs.Arranging.{some_leaves}
use Rattle.plan.specs.PlanSteps.{last_length}
use Rattle.plan.specs.Reported.{allowed_in}
use Rattle.plan.specs.inside.Outlines.{totals_of, low_totals}
use Rattle.plan.specs.declared.outline.Totals.{Totals}

allowed_append : (parity : Parity) (low high : List ℕ) → allowed_in parity (low ++ high) ≡ allowed_in parity low + allowed_in parity high
unfolding allowed_in
allowed_append parity [] high = omega arith
allowed_append parity (n ∷ low) high = omega (arith, allowed_append parity low high)

-- ---- ranges

abbrev TotalsAt : Parity → Bool → (degree split : ℕ) → Tree → Type 0
TotalsAt parity leading degree split tree = leaves_of tree + allowed_in parity (lengths_of tree (suc degree)) ≤ suc degree

totals_most : (parity : Parity) (leading : Bool) (whole degree split : ℕ) → TotalsAt parity leading degree split (tree_of leading whole degree split)
unfolding leaves_of lengths_of allowed_in
totals_most parity leading whole = tree_holds whole (TotalsAt parity) one_list listed_again_lem both_parts leading
  where
    one_list : (leading : Bool) (degree split : ℕ) → degree < 2 ^ split → TotalsAt parity leading degree split leaf
    one_list leading degree split below =
        let one : suc degree - 1 ≡ degree = omega arith in
        rw one (omega (arith, allowed_at_most parity degree))

    listed_again_lem : (leading : Bool) (degree split : ℕ) (tree : Tree) → leading ≡ true → Again whole degree split
        → TotalsAt parity leading degree (min_depth (bit_len degree)) tree → TotalsAt parity leading degree split tree
    listed_again_lem leading degree split tree leads again most = most

    both_parts : (leading : Bool) (degree split : ℕ) (low high : Tree) → 2 ^ split ≤ degree → TotalsAt parity false (top_power degree - 1) split low
        → TotalsAt parity leading (degree - top_power degree) split high → TotalsAt parity leading degree split (cut (top_power degree) low high)
    both_parts leading degree split low high above low_most high_most =
        let bounds = top_power_lem degree (omega (arith, pow_pos split)) in
        let low_size : suc (top_power degree - 1) ≡ top_power degree = omega arith in
        let high_size : suc (degree - top_power degree) ≡ suc degree - top_power degree = omega arith in
        let low_part = rw low_size at low_most in
        let high_part = rw high_size at high_most in
        omega (arith, allowed_append parity (lengths_of low (top_power degree)) (lengths_of high (suc degree - top_power degree)))

-- at least one list, and no more lists and allowed powers than coefficients
pub record TotalsRange (n : ℕ) (totals : Totals) : Type 0 where
  pub nonempty : 0 < totals.lists
  pub at_most : totals.lists + totals.pt ≤ n

pub totals_range : {totals : Totals} (leading : Bool) (parity : Parity) (whole degree split : ℕ)
    → totals ≡ totals_of parity (tree_of leading whole degree split) (suc degree) → TotalsRange (suc degree) totals
unfolding totals_of
totals_range leading parity whole degree split is =
    rw is (record { nonempty = some_leaves (tree_of leading whole degree split); at_most = totals_most parity leading whole degree split })

-- ---- the totals of a low part

module _ (whole split : ℕ) where
  -- half of the coefficients
  half : (j : ℕ) → 2 ^ (suc j + split) - 2 ^ (j + split) ≡ 2 ^ (j + split)
  half j =
      let exponent : suc j + split ≡ suc (j + split) = omega arith in
      rw exponent (omega (arith, two-pow-succ (j + split)))

  full_allowed : (parity : Parity) (j : ℕ)
      → 2 ^ j * allowed_to parity (2 ^ split - 1) ≡ allowed_in parity (lengths_of (full whole split j) (2 ^ (j + split)))
  unfolding lengths_of allowed_in
  full_allowed parity zero =
      let base : 0 + split ≡ split = omega arith in
      rw (full_one whole split, base) (omega arith)
  full_allowed parity (suc j) =
      let lengths = lengths_of (full whole split j) (2 ^ (j + split)) in
      let doubles : 2 ^ suc j ≡ 2 ^ j + 2 ^ j = omega (arith, two-pow-succ j) in
      let each = full_allowed parity j in
      rw (full_halves whole split j, half j, allowed_append parity lengths lengths, doubles, add-mul (2 ^ j) (2 ^ j) (allowed_to parity (2 ^ split - 1)))
      (omega arith)

  full_last : (j : ℕ) → 2 ^ split ≡ last_length (full whole split j) (2 ^ (j + split))
  unfolding last_length
  full_last zero =
      let base : 0 + split ≡ split = omega arith in
      rw (full_one whole split, base)
  full_last (suc j) =
      full_last j
      ∙ ap (last_length (full whole split j)) (sym (half j))
      ∙ ap (λ (tree : Tree). last_length tree (2 ^ (suc j + split))) (sym (full_halves whole split j))

pub low_totals_lem : {p : ℕ} {low : Totals} (parity : Parity) (whole degree split : ℕ) → 2 ^ split ≤ degree → p ≡ top_power degree
    → low ≡ low_totals parity degree split → low ≡ totals_of parity (tree_of false whole (p - 1) split) (suc (p - 1))
unfolding totals_of low_totals top_power
low_totals_lem {p} parity whole degree split from p_is low_is =
    let j = bit_len degree - 1 - split in
    let exponent : bit_len degree - 1 ≡ j + split = omega (arith, split_under degree split from) in
    let power : p ≡ 2 ^ (j + split) = p_is ∙ ap (λ (k : ℕ). 2 ^ k) exponent in
    let leaves = low_leaves {p = p} {lists = 2 ^ j} whole degree split from p_is refl in
    let size : suc (2 ^ (j + split) - 1) ≡ 2 ^ (j + split) = omega (arith, pow_pos (j + split)) in
    rw (← leaves, power, size, ← full_allowed whole split parity j, ← full_last whole split j) low_is

-- ---- totals

module _ (leading : Bool) (parity : Parity) (whole degree split : ℕ) where
  pub totals_cut : {p : ℕ} {low high : Totals} → 2 ^ split ≤ degree → p ≡ top_power degree
      → low ≡ totals_of parity (tree_of false whole (p - 1) split) (suc (p - 1))
      → high ≡ totals_of parity (tree_of leading whole (degree - p) split) (suc (degree - p))
      → record { lists = low.lists + high.lists; pt = low.pt + high.pt; last = high.last }
      ≡ totals_of parity (tree_of leading whole degree split) (suc degree)
  unfolding totals_of leaves_of lengths_of last_length
  totals_cut {p} from power low_is high_is =
      let bounds = top_power_lem degree (omega (arith, pow_pos split)) in
      let tree : tree_of leading whole degree split ≡ cut p (tree_of false whole (p - 1) split) (tree_of leading whole (degree - p) split) =
      tree_cut leading whole degree split from ∙ rw (← power) in
      let low_size : suc (p - 1) ≡ p = omega (arith, power) in
      let high_size : suc (degree - p) ≡ suc degree - p = omega (arith, power) in
      let low_lengths = lengths_of (tree_of false whole (p - 1) split) p in
      let high_lengths = lengths_of (tree_of leading whole (degree - p) split) (suc degree - p) in
      rw (low_is, high_is, tree, low_size, high_size, allowed_append parity low_lengths high_lengths)

  pub totals_again : {smaller : ℕ} {r : Totals} → degree < 2 ^ split → (leading && listed_again whole degree split) ≡ true
      → smaller ≡ min_depth (bit_len degree) → r ≡ totals_of parity (tree_of leading whole degree smaller) (suc degree)
      → r ≡ totals_of parity (tree_of leading whole degree split) (suc degree)
  totals_again below again split_is r_is = r_is ∙ rw (tree_again leading whole degree split below again, split_is)

  pub totals_one : {n : ℕ} → degree < 2 ^ split → (leading && listed_again whole degree split) ≡ false → n ≡ allowed_to parity degree
      → record { lists = 1; pt = n; last = degree + 1 } ≡ totals_of parity (tree_of leading whole degree split) (suc degree)
  unfolding totals_of leaves_of lengths_of allowed_in last_length
  totals_one {n} below once n-is =
      let one : suc degree - 1 ≡ degree = omega arith in
      let alone : n ≡ allowed_to parity degree + 0 = omega arith in
      let last : degree + 1 ≡ suc degree = omega arith in
      rw (tree_leaf leading whole degree split below once, one, ← alone, last)
