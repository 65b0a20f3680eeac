-- The choice may begin with any split and take the others in any order: 'at least as good' is transitive, so the best so far is as good as
-- every split passed. One that is as good as all of them is the smallest with the least pair.
use mathlib.Core.Path.{◌≡◌, refl, sym, ◌∙◌, subst}
use mathlib.Core.Logic.{◌⊎◌, inl, inr, ⊎_elim}
use Prim.Native.Nat.{ℕ, ◌+◌, ◌≤◌, ◌<◌}
use native.Mathlib.Nat.{eq-or-lt_of_le}
use native.Mathlib.Omega.{arith}
use Rattle.counts.specs.MinMult.{AtMost, Smallest}
use Rattle.counts.specs.declared.pair.Pair.{Pair}
use Rattle.counts.specs.declared.choice.Best.{Best}
use Rattle.counts.specs.inside.BetterOf.{Below, AsGood, BetterOf, with_pair}
use Rattle.counts.proofs.MinMultLaws.{below_most, below_not, same_most}

-- ---- the order

below_trans : (p q r : Pair) → Below p q → Below q r → Below p r
below_trans p q r (inl pq) (inl qr) = inl (omega arith)
below_trans p q r (inl pq) (inr qr) = inl (omega arith)
below_trans p q r (inr pq) (inl qr) = inl (omega arith)
below_trans p q r (inr pq) (inr qr) = inr (omega arith, omega arith)

good_self : (best : Best) → AsGood best best
good_self best = inr (refl, omega arith)

good_trans : (a b c : Best) → AsGood a b → AsGood b c → AsGood a c
good_trans a b c (inl ab) (inl bc) = inl (below_trans a.pair b.pair c.pair ab bc)
good_trans a b c (inl ab) (inr bc) = inl (subst (Below a.pair) bc.0 ab)
good_trans a b c (inr ab) (inl bc) = inl (subst (λ (p : Pair). Below p c.pair) (sym ab.0) bc)
good_trans a b c (inr ab) (inr bc) = inr (ab.0 ∙ bc.0, omega arith)

-- ---- the best so far

module _ (pairs : ℕ → Pair) (bits : ℕ) where
  -- a split from 1 to the bit length with its pair, as good as all splits below the next
  pub record BestSoFar (next : ℕ) (best : Best) : Type 0 where
    pub from : 1 ≤ best.split
    pub to : best.split ≤ bits
    pub pair : best.pair ≡ pairs best.split
    pub good : (split : ℕ) → 1 ≤ split → split < next → AsGood best (with_pair pairs split)

  pub begins : (best : Best) → 1 ≤ best.split → best.split ≤ bits → best.pair ≡ pairs best.split → BestSoFar 1 best
  begins best from to pair = record { from = from; to = to; pair = pair; good = λ split above below. absurd (omega arith) }

  pub goes_on : {next : ℕ} {best r : Best} → 1 ≤ next → next ≤ bits → BestSoFar next best → BetterOf best (with_pair pairs next) r
      → BestSoFar (next + 1) r
  goes_on {next} {best} {r} above within so_far better = ⊎_elim stays taken better.either
    where
      good : (split : ℕ) → 1 ≤ split → split < next + 1 → AsGood r (with_pair pairs split)
      good split from below =
          ⊎_elim (λ same. subst (λ (s : ℕ). AsGood r (with_pair pairs s)) (sym same) better.second)
          (λ earlier. good_trans r best (with_pair pairs split) better.first (so_far.good split from earlier))
          (eq-or-lt_of_le {n = split} {m = next} (omega arith))

      stays : r ≡ best → BestSoFar (next + 1) r
      stays is = record {
        from = rw is so_far.from;
        to = rw is so_far.to;
        pair = rw is so_far.pair;
        good = good;
      }

      taken : r ≡ with_pair pairs next → BestSoFar (next + 1) r
      taken is = record { from = rw is above; to = rw is within; pair = rw is; good = good }

  pub ends : {next : ℕ} {best : Best} → bits < next → BestSoFar next best → Smallest pairs bits best.split
  ends {next} {best} past so_far = record { from = so_far.from; to = so_far.to; least = least; first = first }
    where
      good : (split : ℕ) → 1 ≤ split → split ≤ bits
          → Below (pairs best.split) (pairs split) ⊎ ((pairs best.split ≡ pairs split) × (best.split ≤ split))
      good split from to = rw so_far.pair at (so_far.good split from (omega arith))

      least : (split : ℕ) → 1 ≤ split → split ≤ bits → AtMost (pairs best.split) (pairs split)
      least split from to =
          ⊎_elim (λ under. below_most _ _ under) (λ same. same_most _ _ same.0) (good split from to)

      first : (split : ℕ) → 1 ≤ split → split ≤ bits → pairs split ≡ pairs best.split → best.split ≤ split
      first split from to equal =
          ⊎_elim (λ under. absurd (below_not _ _ under (same_most _ _ equal))) (λ same. same.1) (good split from to)
