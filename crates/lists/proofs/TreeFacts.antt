-- The facts of every plan tree, each by induction over the tree.
use mathlib.Core.Path.{◌≡◌, refl, ap, ap₂, sym, ◌∙◌}
use mathlib.Core.Bool.{Bool, true, false, false≢true}
use mathlib.Core.List.{◌++◌, map, map-append}
use Prim.Native.Nat.{ℕ, suc, ◌-◌, ◌^◌, ◌≤◌, ◌<◌}
use native.Mathlib.Omega.{arith}
use lib.Pow.{pow_mono, pow_pos}
use Rattle.number.specs.Bits.{bit_len, top_power}
use Rattle.number.specs.Limits.{plan_limit}
use Rattle.number.proofs.Bits.{some_digit, top_power_lem, sides_fall}
use Rattle.needed.proofs.BaseLaws.{split_under}
use Rattle.counts.specs.Slices.{slices_of}
use Rattle.counts.specs.MinDepth.{min_depth}
use Rattle.counts.proofs.SliceRule.{slices_one, slices_cut}
use Rattle.counts.proofs.ChoiceLaws.{depth_range}
use Rattle.lists.specs.Tree.{Tree, leaf, cut}
use Rattle.lists.specs.Arrange.{lengths_of}
use Rattle.lists.specs.TreeFacts.{Sound, high_cuts, TreesSound, HighCutsFew, SlicesAreLeaves}
use Rattle.lists.proofs.TreeRule.{Again, tree_holds}

-- ---- the cuts

-- a base may be replaced by a greater one
pub sound_wider : (tree : Tree) (n base wider : ℕ) → base ≤ wider → Sound base tree n → Sound wider tree n
sound_wider leaf n base wider more sound = record { nonempty = sound.nonempty; within_base = omega (arith, sound.within_base) }
sound_wider (cut p low high) n base wider more sound = record {
  level = sound.level;
  power = sound.power;
  under = sound.under;
  half = sound.half;
  low = sound_wider low p base wider more sound.low;
  high = sound_wider high (n - p) base wider more sound.high;
}

-- the power that a degree from the base on is cut at
top_level : (degree split : ℕ) → 1 ≤ split → 2 ^ split ≤ degree → top_power degree ≡ 2 ^ suc (bit_len degree - 2)
unfolding top_power
top_level degree split from above =
    let exponent : bit_len degree - 1 ≡ suc (bit_len degree - 2) = omega (arith, split_under degree split above) in
    ap (λ (k : ℕ). 2 ^ k) exponent

abbrev SoundAt : Bool → (degree split : ℕ) → Tree → Type 0
SoundAt leading degree split tree = degree ≤ plan_limit → 1 ≤ split → Sound (2 ^ split) tree (suc degree)

pub trees_sound : TreesSound
trees_sound leading whole = tree_holds whole SoundAt one_list listed_again_lem both_parts leading
  where
    one_list : (leading : Bool) (degree split : ℕ) → degree < 2 ^ split → SoundAt leading degree split leaf
    one_list leading degree split below most from = record { nonempty = omega arith; within_base = omega arith }

    listed_again_lem : (leading : Bool) (degree split : ℕ) (tree : Tree) → leading ≡ true → Again whole degree split
        → SoundAt leading degree (min_depth (bit_len degree)) tree → SoundAt leading degree split tree
    listed_again_lem leading degree split tree leads again sound most from =
        sound_wider tree (suc degree) (2 ^ min_depth (bit_len degree)) (2 ^ split) (pow_mono (omega (arith, again.smaller)))
        (sound most (depth_range (bit_len degree) (some_digit degree again.positive)).from)

    both_parts : (leading : Bool) (degree split : ℕ) (low high : Tree) → 2 ^ split ≤ degree → SoundAt false (top_power degree - 1) split low
        → SoundAt leading (degree - top_power degree) split high → SoundAt leading degree split (cut (top_power degree) low high)
    both_parts leading degree split low high above low_sound high_sound most from =
        let bounds = top_power_lem degree (omega (arith, pow_pos split)) in
        let low_size : suc (top_power degree - 1) ≡ top_power degree = omega arith in
        let high_size : suc (degree - top_power degree) ≡ suc degree - top_power degree = omega arith in
        record {
          level = bit_len degree - 2;
          power = top_level degree split from above;
          under = omega arith;
          half = omega arith;
          low = rw low_size at (low_sound (omega arith) from);
          high = rw high_size at (high_sound (omega arith) from);
        }

-- ---- the cuts on the high side

abbrev FewAt : Bool → (degree split : ℕ) → Tree → Type 0
FewAt leading degree split tree = high_cuts tree ≤ bit_len degree

pub high_cuts_few : HighCutsFew
unfolding high_cuts
high_cuts_few leading whole = tree_holds whole FewAt one_list listed_again_lem both_parts leading
  where
    one_list : (leading : Bool) (degree split : ℕ) → degree < 2 ^ split → FewAt leading degree split leaf
    one_list leading degree split below = omega arith

    listed_again_lem : (leading : Bool) (degree split : ℕ) (tree : Tree) → leading ≡ true → Again whole degree split
        → FewAt leading degree (min_depth (bit_len degree)) tree → FewAt leading degree split tree
    listed_again_lem leading degree split tree leads again few = few

    both_parts : (leading : Bool) (degree split : ℕ) (low high : Tree) → 2 ^ split ≤ degree → FewAt false (top_power degree - 1) split low
        → FewAt leading (degree - top_power degree) split high → FewAt leading degree split (cut (top_power degree) low high)
    both_parts leading degree split low high above low_few high_few = let falls = sides_fall degree (omega (arith, pow_pos split)) in omega arith

-- ---- the slices

abbrev SlicesAt : Bool → (degree split : ℕ) → Tree → Type 0
SlicesAt leading degree split tree = leading ≡ false → lengths_of tree (suc degree) ≡ map suc (slices_of degree split)

pub slices_are_leaves : SlicesAreLeaves
unfolding lengths_of
slices_are_leaves whole degree split = tree_holds whole SlicesAt one_list listed_again_lem both_parts false degree split refl
  where
    one_list : (leading : Bool) (degree split : ℕ) → degree < 2 ^ split → SlicesAt leading degree split leaf
    one_list leading degree split below low = rw (slices_one split degree below)

    listed_again_lem : (leading : Bool) (degree split : ℕ) (tree : Tree) → leading ≡ true → Again whole degree split
        → SlicesAt leading degree (min_depth (bit_len degree)) tree → SlicesAt leading degree split tree
    listed_again_lem leading degree split tree leads again held low = absurd (false≢true (sym low ∙ leads))

    both_parts : (leading : Bool) (degree split : ℕ) (low high : Tree) → 2 ^ split ≤ degree → SlicesAt false (top_power degree - 1) split low
        → SlicesAt leading (degree - top_power degree) split high → SlicesAt leading degree split (cut (top_power degree) low high)
    both_parts leading degree split low high above low_slices high_slices lower =
        let bounds = top_power_lem degree (omega (arith, pow_pos split)) in
        let low_size : suc (top_power degree - 1) ≡ top_power degree = omega arith in
        let high_size : suc (degree - top_power degree) ≡ suc degree - top_power degree = omega arith in
        ap₂ ◌++◌ (rw low_size at (low_slices refl)) (rw high_size at (high_slices lower))
        ∙ sym
        (ap (map suc) (slices_cut split degree above) ∙ map-append suc (slices_of (top_power degree - 1) split) (slices_of (degree - top_power degree) split))
