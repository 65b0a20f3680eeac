-- What is promised of the largest degree for a budget.
use Rattle.std.specs.Prelude.{◌≡◌, ◌⊎◌, ◌↔◌, ℕ, ◌≤◌, ◌<◌}
use Rattle.number.specs.Limits.{scale_limit}
use Rattle.counts.specs.ConsumedBits.{bits_of}
use Rattle.counts.specs.LargestDegree.{GreatestWithin, NoneWithin}
use Rattle.counts.specs.Calls.{largest_call}
use Rattle.counts.specs.declared.choice.SplitStrategy.{SplitStrategy}
use Rattle.counts.specs.declared.choice.SplitStrategy.TheVariants.{MinMult}

-- of an answer, at any budget and scales
pub record LargestSays (strategy : SplitStrategy) (budget input coeff : ℕ) : Type 0 where
  -- an accepted call answers the greatest degree from 1 to 4,095 whose bits are within the budget
  pub answered : (largest_call strategy budget input coeff).refusal ≡ 0
      → GreatestWithin strategy budget input coeff (largest_call strategy budget input coeff).degree
  -- 10 exactly if a scale is above 65,535
  pub wide : ((largest_call strategy budget input coeff).refusal ≡ 10) ↔ ((scale_limit < input) ⊎ (scale_limit < coeff))
  -- else 31 exactly if no degree from 1 to 4,095 has bits within the budget
  pub none : ((largest_call strategy budget input coeff).refusal ≡ 31)
      ↔ ((input ≤ scale_limit) × (coeff ≤ scale_limit) × NoneWithin strategy budget input coeff)

abbrev pub LargestDegrees : Type 0
LargestDegrees = (strategy : SplitStrategy) (budget input coeff : ℕ) → LargestSays strategy budget input coeff

-- bits may fall: for MinMult from degree 4 to 5 they do exactly if the input scale is not 0 and below the coefficient scale
abbrev pub BitsFall : Type 0
BitsFall = (input coeff : ℕ) → (bits_of MinMult 5 input coeff < bits_of MinMult 4 input coeff) ↔ ((0 < input) × (input < coeff))

-- degree 1 takes the coefficient scale and none takes less, so none is within the budget exactly if that is below the coefficient scale
abbrev pub NoneBelowScale : Type 0
NoneBelowScale = (strategy : SplitStrategy) (budget input coeff : ℕ) → NoneWithin strategy budget input coeff ↔ (budget < coeff)
