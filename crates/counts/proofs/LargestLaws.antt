-- The largest degree's answer: one law for each way out, by the definition at the tests that were made.
use mathlib.Core.Path.{◌≡◌}
use Prim.Native.Nat.{ℕ, ◌≤◌, ◌<◌}
use borrow.Author.Tests.{lt-ltb, le-ltb, eq-eqb, ne_eqb}
use Rattle.number.specs.Limits.{plan_limit, scale_limit}
use Rattle.number.specs.Refusal.{unless_refused}
use Rattle.counts.specs.LargestDegree.{greatest_within}
use Rattle.counts.specs.Calls.{no_largest, largest_call}
use Rattle.counts.specs.declared.choice.SplitStrategy.{SplitStrategy}

module _ (strategy : SplitStrategy) (budget input coeff : ℕ) where
  pub input_wide : scale_limit < input → no_largest 10 ≡ largest_call strategy budget input coeff
  unfolding largest_call unless_refused
  input_wide above = rw (lt-ltb scale_limit input above)

  pub coeff_wide : input ≤ scale_limit → scale_limit < coeff → no_largest 10 ≡ largest_call strategy budget input coeff
  unfolding largest_call unless_refused
  coeff_wide within above = rw (le-ltb scale_limit input within, lt-ltb scale_limit coeff above)

  -- past the tests of the scales the greatest degree within the budget decides
  module _ (input_within : input ≤ scale_limit) (coeff_within : coeff ≤ scale_limit) where
    pub none_found : greatest_within strategy budget input coeff plan_limit ≡ 0 → no_largest 31 ≡ largest_call strategy budget input coeff
    unfolding largest_call unless_refused
    none_found none =
        rw (le-ltb scale_limit input input_within, le-ltb scale_limit coeff coeff_within, eq-eqb _ 0 none)

    pub one_found : {degree : ℕ} → degree ≡ greatest_within strategy budget input coeff plan_limit → (degree ≡ 0 → ⊥)
        → record { refusal = 0; degree = degree } ≡ largest_call strategy budget input coeff
    unfolding largest_call unless_refused
    one_found {degree} is some =
        rw (le-ltb scale_limit input input_within, le-ltb scale_limit coeff coeff_within, ← is, ne_eqb degree 0 some)
