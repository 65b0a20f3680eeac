-- MinMult's split (docs/RULES.md, "Choosing the split"): the smallest split from 1 to L with the least pair.
use Rattle.std.specs.Prelude.{◌≡◌, Bool, true, false, cond, ◌&&◌, ◌||◌, ◌⊎◌, ℕ, zero, suc, ◌-◌, ◌≤◌, ◌<◌, ltb, leb, eqb}
use Rattle.algebra.specs.declared.Basis.{Basis}
use Rattle.algebra.specs.declared.Parity.{Parity}
use Rattle.number.specs.Bits.{bit_len}
use Rattle.counts.specs.Pair.{pair_at}
use Rattle.counts.specs.declared.pair.Pair.{Pair}
use Rattle.counts.specs.declared.choice.Best.{Best}

-- a pair at most as large as another: ct-ct is compared first
abbrev pub AtMost : Pair → Pair → Type 0
AtMost p q = (p.ct < q.ct) ⊎ ((p.ct ≡ q.ct) × (p.pt ≤ q.pt))

-- s is the smallest split from 1 to the bit length with the least pair: every split has a pair at least as large, and an equal pair only a
-- split at least as large
pub record Smallest (pairs : ℕ → Pair) (bits s : ℕ) : Type 0 where
  pub from : 1 ≤ s
  pub to : s ≤ bits
  pub least : (split : ℕ) → 1 ≤ split → split ≤ bits → AtMost (pairs s) (pairs split)
  pub first : (split : ℕ) → 1 ≤ split → split ≤ bits → pairs split ≡ pairs s → s ≤ split

-- whether a pair is less than another
abbrev pub less_pair : Pair → Pair → Bool
less_pair p q = ltb p.ct q.ct || (eqb p.ct q.ct && ltb p.pt q.pt)

-- a greater split takes the place of the best so far if its pair is less
unfoldable pub better : Best → (split : ℕ) → Pair → Best
better best split pair = cond (less_pair pair best.pair) (record { split = split; pair = pair }) best

-- the best of the splits 1, .., k + 1
unfoldable pub best_of : (pairs : ℕ → Pair) → (k : ℕ) → Best
best_of pairs zero = record { split = 1; pair = pairs 1 }
best_of pairs (suc k) = better (best_of pairs k) (suc (suc k)) (pairs (suc (suc k)))

-- 1 if L ≤ 1, also at degree 0; else the smallest split from 1 to L with the least pair
unfoldable pub min_mult : Parity → Basis → (degree : ℕ) → ℕ
min_mult parity basis degree =
    elim (leb (bit_len degree) 1) [
      | true ↦ 1
      | false ↦ (best_of (pair_at parity basis degree) (bit_len degree - 1)).split
    ]
