-- The largest degree for a budget (docs/RULES.md, "The largest degree for a budget"): the greatest from 1 to 4,095 whose bits are within the budget.
-- Bits need not rise with the degree, so that every degree counts.
use Rattle.std.specs.Prelude.{Bool, cond, ℕ, zero, suc, ◌≤◌, ◌<◌, leb, eqb}
use Rattle.number.specs.Limits.{plan_limit}
use Rattle.number.specs.Refusal.{Test}
use Rattle.counts.specs.ConsumedBits.{bits_of}
use Rattle.counts.specs.declared.choice.SplitStrategy.{SplitStrategy}

module _ (strategy : SplitStrategy) (budget input coeff : ℕ) where
  -- whether the bits of a degree are within the budget; those that meet it are
  abbrev pub is_within : (degree : ℕ) → Bool
  is_within degree = leb (bits_of strategy degree input coeff) budget

  -- the greatest degree from 1 to `most` whose bits are within the budget, 0 if there is none
  unfoldable pub greatest_within : (most : ℕ) → ℕ
  greatest_within zero = 0
  greatest_within (suc n) = cond (is_within (suc n)) (suc n) (greatest_within n)

  -- 31: no degree from 1 to 4,095 has bits within the budget
  abbrev pub none_within : Test
  none_within = (eqb (greatest_within plan_limit) 0, 31)

  -- ---- what the words say

  -- the degree is from 1 to 4,095, its bits are within the budget, and those of every greater one up to 4,095 are not
  pub record GreatestWithin (degree : ℕ) : Type 0 where
    pub from : 1 ≤ degree
    pub to : degree ≤ plan_limit
    pub within : bits_of strategy degree input coeff ≤ budget
    pub greatest : (d : ℕ) → degree < d → d ≤ plan_limit → budget < bits_of strategy d input coeff

  -- the bits of every degree from 1 to 4,095 exceed the budget
  abbrev pub NoneWithin : Type 0
  NoneWithin = (d : ℕ) → 1 ≤ d → d ≤ plan_limit → budget < bits_of strategy d input coeff
