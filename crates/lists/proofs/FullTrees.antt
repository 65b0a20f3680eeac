-- A low part has as many coefficients as a power of two from the base on. It is cut in halves down to the base, so each of its lists is as long
-- as the base.
use mathlib.Core.Path.{◌≡◌, refl, ap, ap₂, sym, ◌∙◌}
use mathlib.Core.Bool.{false}
use Prim.Native.Nat.{ℕ, zero, suc, ◌+◌, ◌-◌, ◌^◌, ◌≤◌}
use native.Mathlib.Nat.{two-pow-succ}
use native.Mathlib.Omega.{arith}
use lib.Pow.{pow_pos, pow_mono}
use Rattle.number.specs.Bits.{bit_len, top_power}
use Rattle.number.proofs.Bits.{top_unique}
use Rattle.needed.proofs.BaseLaws.{split_under}
use Rattle.lists.specs.Tree.{Tree, leaf, cut, tree_of}
use Rattle.lists.specs.Arrange.{leaves_of}
use Rattle.lists.proofs.TreeRule.{tree_leaf, tree_cut}

module _ (whole split : ℕ) where
  -- the tree of 2^j times as many coefficients as the base has
  abbrev pub full : (j : ℕ) → Tree
  full j = tree_of false whole (2 ^ (j + split) - 1) split

  pub full_one : full 0 ≡ leaf
  full_one =
      let base : 0 + split ≡ split = omega arith in
      rw base (tree_leaf false whole (2 ^ split - 1) split (omega (arith, pow_pos split)) refl)

  pub full_halves : (j : ℕ) → full (suc j) ≡ cut (2 ^ (j + split)) (full j) (full j)
  full_halves j =
      let exponent : suc j + split ≡ suc (j + split) = omega arith in
      let half = 2 ^ (j + split) in
      let doubles = two-pow-succ (j + split) in
      let positive = pow_pos (j + split) in
      let grows : 2 ^ split ≤ half = pow_mono (omega arith) in
      let is_top : half ≡ top_power (2 ^ suc (j + split) - 1) = top_unique (2 ^ suc (j + split) - 1) (j + split) (omega arith) (omega arith) in
      let rest : 2 ^ suc (j + split) - 1 - half ≡ half - 1 = omega arith in
      rw exponent (tree_cut false whole (2 ^ suc (j + split) - 1) split (omega arith) ∙ rw (← is_top, rest))

  full_leaves : (j : ℕ) → leaves_of (full j) ≡ 2 ^ j
  unfolding leaves_of
  full_leaves zero = ap leaves_of full_one
  full_leaves (suc j) =
      let doubles = two-pow-succ j in
      ap leaves_of (full_halves j) ∙ ap₂ ◌+◌ (full_leaves j) (full_leaves j) ∙ omega arith

-- the low part of a degree from the base on
pub low_leaves : {p lists : ℕ} (whole degree split : ℕ) → 2 ^ split ≤ degree → p ≡ top_power degree → lists ≡ 2 ^ (bit_len degree - 1 - split)
    → lists ≡ leaves_of (tree_of false whole (p - 1) split)
unfolding top_power
low_leaves whole degree split from p_is lists_are =
    let j = bit_len degree - 1 - split in
    let exponent : bit_len degree - 1 ≡ j + split = omega (arith, split_under degree split from) in
    lists_are
    ∙ sym (full_leaves whole split j)
    ∙ ap (λ (k : ℕ). leaves_of (tree_of false whole (2 ^ k - 1) split)) (sym exponent)
    ∙ ap (λ (k : ℕ). leaves_of (tree_of false whole (k - 1) split)) (sym p_is)
