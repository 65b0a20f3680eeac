-- The greatest degree within a budget is within it, and no greater one is: by whether the last degree is. There is only one such degree, so a degree
-- within the budget is the greatest up to itself, and degrees that exceed the budget may be left out.
use mathlib.Core.Path.{◌≡◌, refl}
use mathlib.Core.Bool.{Bool, true, false, cond}
use mathlib.Core.Logic.{◌↔◌}
use Prim.Native.Nat.{ℕ, zero, suc, ◌≤◌, ◌<◌}
use native.Mathlib.Nat.{le_antisymm, lt_of_not-le}
use native.Mathlib.Omega.{arith}
use borrow.Author.Tests.{leb-true, leb-false}
use lib.Dec.{leb}
use Rattle.number.specs.Limits.{plan_limit}
use Rattle.counts.specs.ConsumedBits.{bits_of}
use Rattle.counts.specs.LargestDegree.{greatest_within, GreatestWithin, NoneWithin}
use Rattle.counts.specs.inside.SameBits.{SameDownTo}
use Rattle.counts.specs.declared.choice.SplitStrategy.{SplitStrategy}

module _ (strategy : SplitStrategy) (budget input coeff : ℕ) where
  abbrev Exceeds : (degree : ℕ) → Type 0
  Exceeds degree = budget < bits_of strategy degree input coeff

  -- the greatest degree from 1 to n within the budget, or 0 if there is none
  record UpTo (n degree : ℕ) : Type 0 where
    to : degree ≤ n
    within : 0 < degree → bits_of strategy degree input coeff ≤ budget
    exceed : (d : ℕ) → degree < d → d ≤ n → Exceeds d

  -- it is the greatest up to a higher number too, if all above it exceed the budget
  further : {n m degree : ℕ} → n ≤ m → ((d : ℕ) → n < d → d ≤ m → Exceeds d) → UpTo n degree → UpTo m degree
  further {n} less exceed is = record {
    to = omega (arith, is.to);
    within = is.within;
    exceed = λ d above most. lt_of_not-le (λ (fits : bits_of strategy d input coeff ≤ budget).
        let beyond : n < d = lt_of_not-le (λ (low : d ≤ n). omega (arith, is.exceed d above low)) in
        omega (arith, exceed d beyond most));
  }

  by_last : (n degree : ℕ) → UpTo n degree → (test : Bool) → leb (bits_of strategy (suc n) input coeff) budget ≡ test
      → UpTo (suc n) (cond test (suc n) degree)
  by_last n degree before true is = record { to = omega arith; within = λ positive. leb-true _ _ is; exceed = λ d above most. omega arith }
  by_last n degree before false is =
      further (omega arith) (λ d beyond most. let last : d ≡ suc n = omega arith in rw last (leb-false _ _ is)) before

  up_to : (n : ℕ) → UpTo n (greatest_within strategy budget input coeff n)
  unfolding greatest_within
  up_to zero = record { to = omega arith; within = λ positive. omega arith; exceed = λ d above most. omega arith }
  up_to (suc n) = by_last n (greatest_within strategy budget input coeff n) (up_to n) (leb (bits_of strategy (suc n) input coeff) budget) refl

  pub to_the_last : (n : ℕ) → greatest_within strategy budget input coeff n ≤ n
  to_the_last n = (up_to n).to

  -- no other is so great
  at_most : {n one other : ℕ} → UpTo n one → UpTo n other → one ≤ other
  at_most {n} {one} {other} is_one is_other =
      let below : one < suc other = lt_of_not-le (λ (more : suc other ≤ one).
      omega (arith, is_other.exceed one more is_one.to, is_one.within (omega arith))) in
      omega arith

  only : {n one other : ℕ} → UpTo n one → UpTo n other → one ≡ other
  only is_one is_other = le_antisymm (at_most is_one is_other) (at_most is_other is_one)

  -- a degree within the budget is the greatest up to itself
  pub itself : {n : ℕ} → bits_of strategy n input coeff ≤ budget → greatest_within strategy budget input coeff n ≡ n
  itself {n} within =
      only (up_to n) (record { to = omega arith; within = λ positive. within; exceed = λ d above most. omega arith })

  -- degrees that exceed it may be left out
  left_out : (n lower : ℕ) → lower ≤ n → ((d : ℕ) → lower < d → d ≤ n → Exceeds d)
      → greatest_within strategy budget input coeff n ≡ greatest_within strategy budget input coeff lower
  left_out n lower less exceed = only (up_to n) (further less exceed (up_to lower))

  -- so may those with the bits of one that exceeds it
  pub passed_over : {n lower : ℕ} → SameDownTo strategy n lower → Exceeds n
      → greatest_within strategy budget input coeff n ≡ greatest_within strategy budget input coeff lower
  passed_over {n} {lower} down exceeds =
      left_out n lower (omega (arith, down.under)) (λ d above most. rw (down.same d input coeff above most) exceeds)

  -- ---- what the words say

  pub greatest_within_lem : 0 < greatest_within strategy budget input coeff plan_limit
      → GreatestWithin strategy budget input coeff (greatest_within strategy budget input coeff plan_limit)
  greatest_within_lem some =
      let up = up_to plan_limit in
      record { from = some; to = up.to; within = up.within some; greatest = up.exceed }

  pub none_within_lem : (greatest_within strategy budget input coeff plan_limit ≡ 0) ↔ NoneWithin strategy budget input coeff
  none_within_lem = (
    λ none. λ d from to. (up_to plan_limit).exceed d (omega arith) to,
    λ exceed. only (up_to plan_limit) (record { to = omega arith; within = λ positive. omega arith; exceed = exceed }),
  )
