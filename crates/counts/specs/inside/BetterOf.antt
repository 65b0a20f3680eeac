-- The better of two splits with their pairs, in whatever order they come.
use Rattle.std.specs.Prelude.{◌≡◌, ◌⊎◌, ℕ, ◌≤◌, ◌<◌}
use Rattle.counts.specs.declared.pair.Pair.{Pair}
use Rattle.counts.specs.declared.choice.Best.{Best}

-- a pair less than another: ct-ct is compared first
abbrev pub Below : Pair → Pair → Type 0
Below p q = (p.ct < q.ct) ⊎ ((p.ct ≡ q.ct) × (p.pt < q.pt))

-- at least as good: the pair is less, or it is equal and the split is not greater
abbrev pub AsGood : (one other : Best) → Type 0
AsGood one other = Below one.pair other.pair ⊎ ((one.pair ≡ other.pair) × (one.split ≤ other.split))

-- r is one of the two, and as good as both
pub record BetterOf (one other r : Best) : Type 0 where
  pub either : (r ≡ one) ⊎ (r ≡ other)
  pub first : AsGood r one
  pub second : AsGood r other

-- a split with its pair
abbrev pub with_pair : (pairs : ℕ → Pair) → (split : ℕ) → Best
with_pair pairs split = record { split = split; pair = pairs split }
