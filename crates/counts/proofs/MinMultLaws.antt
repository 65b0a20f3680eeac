-- The best split is the smallest with the least pair, and there is no other: a later split takes its place only with a pair that is less, so
-- of equal pairs the first stays.
use mathlib.Core.Path.{◌≡◌, refl, ap, ap₂, sym, subst}
use mathlib.Core.Bool.{Bool, true, false, cond, ◌&&◌, ◌||◌}
use mathlib.Core.Logic.{◌⊎◌, inl, inr, ⊎_elim}
use Prim.Native.Nat.{ℕ, zero, suc, ◌-◌, ◌≤◌, ◌<◌}
use native.Mathlib.Decide.{dec_le}
use native.Mathlib.Nat.{le_antisymm, eq-or-lt_of_le}
use native.Mathlib.Omega.{arith}
use borrow.Author.Tests.{ltb-true, ltb-false, eqb-true, eqb-false, le-leb, lt-leb}
use lib.Dec.{ltb, eqb}
use Rattle.algebra.specs.declared.Basis.{Basis}
use Rattle.algebra.specs.declared.Parity.{Parity}
use Rattle.number.specs.Bits.{bit_len}
use Rattle.number.specs.Limits.{plan_limit}
use Rattle.number.specs.inside.Between.{Between}
use Rattle.counts.specs.Pair.{pair_at}
use Rattle.counts.specs.MinMult.{AtMost, Smallest, less_pair, better, best_of, min_mult}
use Rattle.counts.specs.declared.pair.Pair.{Pair}
use Rattle.counts.specs.declared.choice.Best.{Best}
use Rattle.counts.specs.inside.BetterOf.{Below}
use Rattle.number.proofs.Bits.{few_digits}
use Rattle.needed.proofs.Flags.{by_test}

-- ---- the order of pairs

module _ (p q : Pair) where
  -- what the test says
  pub less_is : less_pair p q ≡ true → Below p q
  less_is =
      by_test (λ (b : Bool). (b || (eqb p.ct q.ct && ltb p.pt q.pt)) ≡ true → Below p q) (ltb p.ct q.ct)
      (λ is holds. inl (ltb-true p.ct q.ct is))
      (λ is. by_equal)
    where
      by_equal : (eqb p.ct q.ct && ltb p.pt q.pt) ≡ true → Below p q
      by_equal =
          by_test (λ (b : Bool). (b && ltb p.pt q.pt) ≡ true → Below p q) (eqb p.ct q.ct)
          (λ same holds. inr (eqb-true p.ct q.ct same, ltb-true p.pt q.pt holds))
          (λ other fails. let clash : ◌≡◌ {A = ℕ} 0 1 = cc in absurd (omega arith))

  pub less_not : less_pair p q ≡ false → AtMost q p
  less_not =
      by_test (λ (b : Bool). (b || (eqb p.ct q.ct && ltb p.pt q.pt)) ≡ false → AtMost q p) (ltb p.ct q.ct)
      (λ is fails. let clash : ◌≡◌ {A = ℕ} 0 1 = cc in absurd (omega arith))
      (λ is. by_equal (ltb-false p.ct q.ct is))
    where
      by_equal : q.ct ≤ p.ct → (eqb p.ct q.ct && ltb p.pt q.pt) ≡ false → AtMost q p
      by_equal at_most =
          by_test (λ (b : Bool). (b && ltb p.pt q.pt) ≡ false → AtMost q p) (eqb p.ct q.ct)
          (λ same fails. inr (sym (eqb-true p.ct q.ct same), ltb-false p.pt q.pt fails))
          (λ other fails. ⊎_elim (λ same. absurd (eqb-false p.ct q.ct other (sym same))) (λ under. inl under) (eq-or-lt_of_le at_most))

at_most_trans : (p q r : Pair) → AtMost p q → AtMost q r → AtMost p r
at_most_trans p q r (inl pq) (inl qr) = inl (omega arith)
at_most_trans p q r (inl pq) (inr qr) = inl (omega arith)
at_most_trans p q r (inr pq) (inl qr) = inl (omega arith)
at_most_trans p q r (inr pq) (inr qr) = inr (omega arith, omega arith)

pub below_most : (p q : Pair) → Below p q → AtMost p q
below_most p q (inl under) = inl under
below_most p q (inr under) = inr (under.0, omega arith)

-- nothing is both below q and at least q
pub below_not : (p q : Pair) → Below p q → AtMost q p → ⊥
below_not p q (inl under) (inl over) = omega arith
below_not p q (inl under) (inr over) = omega arith
below_not p q (inr under) (inl over) = omega arith
below_not p q (inr under) (inr over) = omega arith

pub same_most : (p q : Pair) → p ≡ q → AtMost p q
same_most p q same = inr (ap (λ (x : Pair). x.ct) same, omega (arith, ap (λ (x : Pair). x.pt) same))

pub at_most_both : (p q : Pair) → AtMost p q → AtMost q p → p ≡ q
at_most_both p q (inl pq) (inl qp) = absurd (omega arith)
at_most_both p q (inl pq) (inr qp) = absurd (omega arith)
at_most_both p q (inr pq) (inl qp) = absurd (omega arith)
at_most_both p q (inr pq) (inr qp) = ap₂ (λ (x y : ℕ). record { ct = x; pt = y }) pq.0 (le_antisymm pq.1 qp.1)

-- the last of 1, .., k + 2, or one before it
last_or : (k split : ℕ) → split ≤ suc (suc k) → (split ≡ suc (suc k)) ⊎ (split ≤ suc k)
last_or k split to = ⊎_elim (λ same. inl same) (λ less. inr (omega arith)) (eq-or-lt_of_le to)

-- ---- the best split

module _ (pairs : ℕ → Pair) where
  -- the best so far, with its pair
  record BestTo (bits : ℕ) (best : Best) : Type 0 where
    pub pair : best.pair ≡ pairs best.split
    pub smallest : Smallest pairs bits best.split

  module _ (k : ℕ) (best : Best) (so_far : BestTo (suc k) best) where
    abbrev next : ℕ
    next = suc (suc k)

    -- the next split is less
    taken : Below (pairs next) (pairs best.split) → BestTo next (record { split = next; pair = pairs next })
    taken under = record { pair = refl; smallest = record { from = omega arith; to = omega arith; least = least; first = first } }
      where
        least : (split : ℕ) → 1 ≤ split → split ≤ next → AtMost (pairs next) (pairs split)
        least split from to =
            ⊎_elim (λ last. same_most (pairs next) (pairs split) (ap pairs (sym last)))
            (λ earlier. at_most_trans (pairs next) (pairs best.split) (pairs split) (below_most _ _ under) (so_far.smallest.least split from earlier))
            (last_or k split to)

        first : (split : ℕ) → 1 ≤ split → split ≤ next → pairs split ≡ pairs next → next ≤ split
        first split from to same =
            ⊎_elim (λ last. omega arith)
            (λ earlier. absurd (below_not (pairs next) (pairs best.split) under (rw same at (so_far.smallest.least split from earlier))))
            (last_or k split to)

    -- it is not, and the best so far stays
    left : AtMost (pairs best.split) (pairs next) → BestTo next best
    left over = record {
      pair = so_far.pair;
      smallest = record { from = so_far.smallest.from; to = omega (arith, so_far.smallest.to); least = least; first = first };
    }
      where
        least : (split : ℕ) → 1 ≤ split → split ≤ next → AtMost (pairs best.split) (pairs split)
        least split from to =
            ⊎_elim (λ last. subst (λ (x : ℕ). AtMost (pairs best.split) (pairs x)) (sym last) over)
            (λ earlier. so_far.smallest.least split from earlier)
            (last_or k split to)

        first : (split : ℕ) → 1 ≤ split → split ≤ next → pairs split ≡ pairs best.split → best.split ≤ split
        first split from to same =
            ⊎_elim (λ last. omega (arith, so_far.smallest.to)) (λ earlier. so_far.smallest.first split from earlier same) (last_or k split to)

    more : BestTo next (better best next (pairs next))
    unfolding better
    more =
        by_test (λ (b : Bool). BestTo next (cond b (record { split = next; pair = pairs next }) best)) (less_pair (pairs next) best.pair)
        (λ is. taken (rw so_far.pair at (less_is (pairs next) best.pair is)))
        (λ is. left (rw so_far.pair at (less_not (pairs next) best.pair is)))

  best_to : (k : ℕ) → BestTo (suc k) (best_of pairs k)
  unfolding best_of
  best_to zero = record {
    pair = refl;
    smallest = record {
      from = omega arith;
      to = omega arith;
      least = λ split from to. same_most (pairs 1) (pairs split) (ap pairs (omega arith));
      first = λ split from to same. from;
    };
  }
  best_to (suc k) = more k (best_of pairs k) (best_to k)

  best_smallest : (k : ℕ) → Smallest pairs (suc k) (best_of pairs k).split
  best_smallest k = (best_to k).smallest

  -- there is one such split
  smallest_one : (bits s t : ℕ) → Smallest pairs bits s → Smallest pairs bits t → s ≡ t
  smallest_one bits s t one two =
      let same : pairs s ≡ pairs t = at_most_both (pairs s) (pairs t) (one.least t two.from two.to) (two.least s one.from one.to) in
      le_antisymm (one.first t two.from two.to (sym same)) (two.first s one.from one.to same)

-- ---- MinMult's choice

module _ (parity : Parity) (basis : Basis) (degree : ℕ) where
  pub mult_low : bit_len degree ≤ 1 → min_mult parity basis degree ≡ 1
  unfolding min_mult
  mult_low low = rw (le-leb (bit_len degree) 1 low, min_mult)

  mult_best : 1 < bit_len degree → min_mult parity basis degree ≡ (best_of (pair_at parity basis degree) (bit_len degree - 1)).split
  unfolding min_mult
  mult_best two_digits = rw (lt-leb (bit_len degree) 1 two_digits, min_mult)

  -- the choice is the smallest split from 1 to the bit length with the least pair
  pub mult_smallest : 1 < bit_len degree → Smallest (pair_at parity basis degree) (bit_len degree) (min_mult parity basis degree)
  mult_smallest two_digits =
      let whole : suc (bit_len degree - 1) ≡ bit_len degree = omega arith in
      rw (mult_best two_digits)
      (subst
      (λ (x : ℕ). Smallest (pair_at parity basis degree) x (best_of (pair_at parity basis degree) (bit_len degree - 1)).split)
      whole
      (best_smallest (pair_at parity basis degree) (bit_len degree - 1)))

  -- and the only one
  pub mult_only : 1 < bit_len degree → (s : ℕ) → Smallest (pair_at parity basis degree) (bit_len degree) s → s ≡ min_mult parity basis degree
  mult_only two_digits s smallest =
      smallest_one (pair_at parity basis degree) (bit_len degree) s (min_mult parity basis degree) smallest (mult_smallest two_digits)

  pub mult_range : degree ≤ plan_limit → Between 1 (min_mult parity basis degree) 12
  mult_range within = by_digits (dec_le (bit_len degree) 1)
    where
      by_digits : Dec (bit_len degree ≤ 1) → Between 1 (min_mult parity basis degree) 12
      by_digits (yes low) = let one = mult_low low in record { from = omega arith; to = omega arith }
      by_digits (no two_digits) =
          let smallest = mult_smallest (omega arith) in
          let digits = few_digits degree within in
          record { from = smallest.from; to = omega (arith, smallest.to) }
