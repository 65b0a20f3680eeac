-- What steps and counts need of every plan tree.
use Rattle.std.specs.Prelude.{◌≡◌, Bool, false, map, ℕ, suc, ◌+◌, ◌-◌, ◌^◌, ◌≤◌, ◌<◌, max}
use Rattle.number.specs.Bits.{bit_len}
use Rattle.number.specs.Limits.{plan_limit}
use Rattle.counts.specs.Slices.{slices_of}
use Rattle.lists.specs.Tree.{Tree, leaf, cut, tree_of}
use Rattle.lists.specs.Arrange.{lengths_of}

-- a tree for n coefficients: no list is empty or longer than the base, and each cut is at an even power of two p with p < n ≤ 2p
abbrev pub Sound : (base : ℕ) → Tree → (n : ℕ) → Type 0
Sound base leaf n = record { nonempty : 0 < n; within_base : n ≤ base }
Sound base (cut p low high) n = record {
  level : ℕ;
  power : p ≡ 2 ^ suc level;
  under : p < n;
  half : n ≤ p + p;
  low : Sound base low p;
  high : Sound base high (n - p);
}

-- the most cuts that a list lies on the high side of: each leaves a low part waiting
unfoldable pub high_cuts : Tree → ℕ
high_cuts leaf = 0
high_cuts (cut p low high) = max (high_cuts low) (suc (high_cuts high))

-- every plan tree within the limit is sound
abbrev pub TreesSound : Type 0
TreesSound = (leading : Bool) (whole degree split : ℕ) → degree ≤ plan_limit → 1 ≤ split
    → Sound (2 ^ split) (tree_of leading whole degree split) (suc degree)

-- a list lies on the high side of at most as many cuts as the degree has binary digits
abbrev pub HighCutsFew : Type 0
HighCutsFew = (leading : Bool) (whole degree split : ℕ) → high_cuts (tree_of leading whole degree split) ≤ bit_len degree

-- without a slice listed again the lists are the slices of the counts
abbrev pub SlicesAreLeaves : Type 0
SlicesAreLeaves = (whole degree split : ℕ) → lengths_of (tree_of false whole degree split) (suc degree) ≡ map suc (slices_of degree split)
