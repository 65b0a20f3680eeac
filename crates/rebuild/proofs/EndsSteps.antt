-- The boundaries of a part, found list by list.
use mathlib.Core.Path.{◌≡◌, refl, sym, ◌∙◌, ap, ap₂}
use mathlib.Core.Bool.{Bool, true, false, cond, ◌&&◌, and_assoc}
use mathlib.Core.List.{List, [], ◌∷◌, ◌++◌}
use Prim.Native.Nat.{ℕ, suc, ◌+◌, ◌-◌, ◌^◌, ◌≤◌, ◌<◌}
use native.Mathlib.Omega.{arith}
use borrow.Author.Tests.{eq-eqb, ne_eqb, eqb-true, eqb-false}
use lib.Dec.{eqb}
use Rattle.std.specs.Prelude.{Option, Some, None, is_some}
use Rattle.std.specs.Bool.{then_some}
use Rattle.std.proofs.lemmas.Option.{none-some, same_Some}
use lib.ListN.{length, get_or, drop, length-append, drop_of_length-le}
use lib.Pow.{pow_pos}
use lib.Seq.{drop-cons, drop-drop}
use Rattle.number.specs.Bits.{bit_len, top_power}
use Rattle.number.proofs.Bits.{top_power_lem}
use Rattle.counts.specs.MinDepth.{min_depth}
use Rattle.lists.specs.Tree.{Tree, cut, listed_again, tree_of}
use Rattle.lists.specs.Arrange.{ends_of}
use Rattle.lists.proofs.Arranging.{length_ends, some_leaves}
use Rattle.lists.proofs.TreeRule.{tree_leaf, tree_again, tree_cut}
use Rattle.rebuild.specs.RebuildCall.{begins}
use Rattle.rebuild.specs.inside.Matching.{match_from}

begins_append : (es fs bs : List ℕ) → begins (es ++ fs) bs ≡ (begins es bs && begins fs (drop (length es) bs))
unfolding begins
begins_append [] fs bs = refl
begins_append (e ∷ es) fs [] = refl
begins_append (e ∷ es) fs (b ∷ bs) =
    ap (eqb e b &&◌) (begins_append es fs bs) ∙ sym (and_assoc (eqb e b) (begins es bs) (begins fs (drop (length es) bs)))

module _ (es fs bs : List ℕ) (n : ℕ) where
  both_begin : begins (es ++ fs) (drop n bs) ≡ (begins es (drop n bs) && begins fs (drop (n + length es) bs))
  both_begin = begins_append es fs (drop n bs) ∙ ap (λ (l : List ℕ). begins es (drop n bs) && begins fs l) (drop-drop (length es) n bs)

  -- the first are not there
  match_none : None ≡ match_from es bs n → None ≡ match_from (es ++ fs) bs n
  unfolding match_from
  match_none none_there = by_test (begins es (drop n bs)) refl none_there
    where
      by_test : (t : Bool) → begins es (drop n bs) ≡ t → None ≡ cond t (Some (n + length es)) None
          → None ≡ cond (begins (es ++ fs) (drop n bs)) (Some (n + length (es ++ fs))) None
      by_test true is h = absurd (none-some (n + length es) h)
      by_test false is h = rw (both_begin, is)

  -- they are, and the others follow
  match_both : (m : ℕ) → Some m ≡ match_from es bs n → match_from fs bs m ≡ match_from (es ++ fs) bs n
  unfolding match_from
  match_both m m_is = by_test (begins es (drop n bs)) refl m_is
    where
      by_test : (t : Bool) → begins es (drop n bs) ≡ t → Some m ≡ cond t (Some (n + length es)) None
          → cond (begins fs (drop m bs)) (Some (m + length fs)) None ≡ cond (begins (es ++ fs) (drop n bs)) (Some (n + length (es ++ fs))) None
      by_test false is h = absurd (none-some m (sym h))
      by_test true is h =
          let place : m ≡ n + length es = same_Some m (n + length es) h in
          let size : n + length es + length fs ≡ n + length (es ++ fs) = omega (arith, length-append es fs) in
          rw (both_begin, is, place) (ap (λ (k : ℕ). cond (begins fs (drop (n + length es) bs)) (Some k) None) size)

-- whether they are there from the front on
pub front_is : (es bs : List ℕ) → is_some (match_from es bs 0) ≡ begins es bs
unfolding match_from
front_is es bs = by_test (begins es bs)
  where
    by_test : (t : Bool) → is_some (cond t (Some (0 + length es)) None) ≡ t
    by_test true = refl
    by_test false = refl

-- one boundary
module _ (e : ℕ) (bs : List ℕ) (n : ℕ) where
  match_short : length bs ≤ n → match_from (e ∷ []) bs n ≡ None
  unfolding match_from begins
  match_short short = rw (drop_of_length-le bs short)

  match_one : n < length bs → match_from (e ∷ []) bs n ≡ then_some (eqb (get_or bs n 0) e) (n + 1)
  unfolding match_from begins
  match_one inside = rw (drop-cons bs n 0 inside) (by_test (eqb e (get_or bs n 0)) refl)
    where
      by_test : (t : Bool) → eqb e (get_or bs n 0) ≡ t → cond (t && true) (Some (n + 1)) None ≡ then_some (eqb (get_or bs n 0) e) (n + 1)
      by_test true same = rw (eq-eqb (get_or bs n 0) e (sym (eqb-true e (get_or bs n 0) same)))
      by_test false differ =
          rw (ne_eqb (get_or bs n 0) e (λ (s : get_or bs n 0 ≡ e). eqb-false e (get_or bs n 0) differ (sym s)))

-- ---- the boundaries of a part of a degree at a split, which stands from place `at` on

abbrev ends : (leading : Bool) → (whole degree split at : ℕ) → List ℕ
ends leading whole degree split at = ends_of (tree_of leading whole degree split) at (suc degree)

-- there is at least one
pub some_ends : (leading : Bool) (whole degree split at : ℕ) → 0 < length (ends_of (tree_of leading whole degree split) at (suc degree))
some_ends leading whole degree split at =
    omega (arith, length_ends (tree_of leading whole degree split) at (suc degree), some_leaves (tree_of leading whole degree split))

-- a slice
module _ (leading : Bool) (whole degree split at n : ℕ) (bs : List ℕ) (below : degree < 2 ^ split) where
  pub slice_again : {r : Option ℕ} → (leading && listed_again whole degree split) ≡ true
      → r ≡ match_from (ends_of (tree_of leading whole degree (min_depth (bit_len degree))) at (suc degree)) bs n
      → r ≡ match_from (ends_of (tree_of leading whole degree split) at (suc degree)) bs n
  slice_again again is = rw (tree_again leading whole degree split below again) is

  module _ (once : (leading && listed_again whole degree split) ≡ false) where
    ends_leaf : ends leading whole degree split at ≡ (at + degree + 1) ∷ []
    unfolding ends_of
    ends_leaf =
        let same : at + suc degree ≡ at + degree + 1 = omega arith in
        rw (tree_leaf leading whole degree split below once) (ap (◌∷ []) same)

    by_leaf : {r : Option ℕ} → match_from ((at + degree + 1) ∷ []) bs n ≡ r → r ≡ match_from (ends leading whole degree split at) bs n
    by_leaf is = sym (ap (λ (l : List ℕ). match_from l bs n) ends_leaf ∙ is)

    pub slice_short : length bs ≤ n → None ≡ match_from (ends_of (tree_of leading whole degree split) at (suc degree)) bs n
    slice_short short = by_leaf (match_short (at + degree + 1) bs n short)

    pub slice_one : n < length bs
        → then_some (eqb (get_or bs n 0) (at + degree + 1)) (n + 1) ≡ match_from (ends_of (tree_of leading whole degree split) at (suc degree)) bs n
    slice_one inside = by_leaf (match_one (at + degree + 1) bs n inside)

-- a cut
pub record EndsCut (leading : Bool) (whole degree split at n p : ℕ) (bs : List ℕ) : Type 0 where
  pub from : 2 ^ split ≤ degree
  pub power : p ≡ top_power degree

module _ {leading : Bool} {whole degree split at n p : ℕ} {bs : List ℕ} (k : EndsCut leading whole degree split at n p bs) where
  bounds : (0 < p) × (p ≤ degree)
  bounds =
      let top = top_power_lem degree (omega (arith, k.from, pow_pos split)) in
      let is = k.power in
      (omega arith, omega arith)

  pub positive : 0 < p
  positive = bounds.0

  pub under : p ≤ degree
  under = bounds.1

  ends_cut : ends leading whole degree split at ≡ ends false whole (p - 1) split at ++ ends leading whole (degree - p) split (at + p)
  unfolding ends_of
  ends_cut =
      let first : p ≡ suc (p - 1) = omega (arith, positive) in
      let second : suc degree - p ≡ suc (degree - p) = omega (arith, under) in
      let tree : tree_of leading whole degree split ≡ cut p (tree_of false whole (p - 1) split) (tree_of leading whole (degree - p) split) =
      tree_cut leading whole degree split k.from ∙ rw (← k.power) in
      ap (λ (t : Tree). ends_of t at (suc degree)) tree
      ∙ ap₂ (λ (i m : ℕ). ends_of (tree_of false whole (p - 1) split) at i ++ ends_of (tree_of leading whole (degree - p) split) (at + p) m) first second

  -- those of low are not there
  pub cut_none : None ≡ match_from (ends_of (tree_of false whole (p - 1) split) at (suc (p - 1))) bs n
      → None ≡ match_from (ends_of (tree_of leading whole degree split) at (suc degree)) bs n
  cut_none none_there =
      match_none (ends false whole (p - 1) split at) (ends leading whole (degree - p) split (at + p)) bs n none_there
      ∙ sym (ap (λ (l : List ℕ). match_from l bs n) ends_cut)

  -- they are, and those of high are looked for behind them
  pub cut_both : (m : ℕ) → Some m ≡ match_from (ends_of (tree_of false whole (p - 1) split) at (suc (p - 1))) bs n → {r : Option ℕ}
      → r ≡ match_from (ends_of (tree_of leading whole (degree - p) split) (at + p) (suc (degree - p))) bs m
      → r ≡ match_from (ends_of (tree_of leading whole degree split) at (suc degree)) bs n
  cut_both m low high =
      high
      ∙ match_both (ends false whole (p - 1) split at) (ends leading whole (degree - p) split (at + p)) bs n m low
      ∙ sym (ap (λ (l : List ℕ). match_from l bs n) ends_cut)
