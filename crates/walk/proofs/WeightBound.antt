-- How much a value of the walk weighs, where neither scale is above s. A rule makes of values that weigh at most n·s one that weighs at most s more,
-- and the sum so far of a list and the low one of a combine gain nothing. So the value of a walk weighs at most 30·s (RunsWithin).
use mathlib.Core.Path.{◌≡◌}
use mathlib.Core.Bool.{Bool, true, false, cond}
use mathlib.Core.List.{List}
use mathlib.Core.Option.{some}
use Prim.Native.Nat.{ℕ, zero, suc, ◌*◌, ◌≤◌}
use native.Mathlib.Nat.{mul-le-mul_right}
use native.Mathlib.Omega.{arith}
use lib.IntN.{ℤ}
use Rattle.algebra.specs.declared.PolynomialInputTransform.{PolynomialInputTransform}
use Rattle.algebra.specs.declared.PolynomialInputTransform.TheVariants.{Identity, Square, SquareTimesInput, ChebyshevT2, ChebyshevT2TimesInput}
use Rattle.walk.specs.Lent.{lent_walk}
use Rattle.walk.specs.declared.plan.Head.{Head}
use Rattle.walk.specs.Values.{Value}
use Rattle.walk.specs.Values.Value.{given}
use Rattle.walk.specs.Paths.{heaviest}
use Rattle.walk.specs.MadeRules.{value_making, place_made, input_made, output_made, made_rules}
use Rattle.walk.proofs.Alls.{all_some}
use Rattle.walk.proofs.RunsWithin.{Grows, lent_within}

module _ (s : ℕ) where
  abbrev AtMost : (n : ℕ) → Value → Type 0
  AtMost n v = heaviest v ≤ n * s

  module _ (input coeff : ℕ) (input_fits : input ≤ s) (coeff_fits : coeff ≤ s) where
    -- the scale of a combine
    scale_fits : (plain : Bool) → cond plain coeff input ≤ s
    scale_fits true = coeff_fits
    scale_fits false = input_fits

    place_grows : (n : ℕ) (so_far : Value) (j : ℕ) (power : Value) → AtMost (suc n) so_far → AtMost n power
        → AtMost (suc n) (place_made value_making coeff so_far j power)
    unfolding heaviest place_made
    place_grows n so_far zero power p q = omega arith
    place_grows n so_far (suc j) power p q = omega arith

    input_grows : (transform : PolynomialInputTransform) → AtMost 1 (input_made value_making input transform given)
    unfolding heaviest input_made
    input_grows Identity = omega arith
    input_grows Square = omega arith
    input_grows SquareTimesInput = omega arith
    input_grows ChebyshevT2 = omega arith
    input_grows ChebyshevT2TimesInput = omega arith

    output_grows : (n : ℕ) (transform : PolynomialInputTransform) (v : Value) → AtMost n v
        → AtMost (suc n) (output_made value_making input transform given v)
    unfolding heaviest output_made
    output_grows n Identity v p = omega arith
    output_grows n Square v p = omega arith
    output_grows n SquareTimesInput v p = omega arith
    output_grows n ChebyshevT2 v p = omega arith
    output_grows n ChebyshevT2TimesInput v p = omega arith

    -- each rule adds at most one scale
    rules_grow : Grows (made_rules value_making input coeff) AtMost
    unfolding heaviest
    rules_grow = record {
      more = λ up p. omega (arith, mul-le-mul_right s up);
      one = omega arith;
      product = λ p q. omega arith;
      product_less = λ p q r. omega arith;
      nothing = omega arith;
      place = λ c j p q. place_grows _ _ j _ p q;
      combine = λ plain p q r. omega (arith, scale_fits plain);
      input = λ transform x. input_grows transform;
      output = λ transform x p. output_grows _ transform _ p;
    }

pub weight_bound : (s input coeff : ℕ) → input ≤ s → coeff ≤ s → (head : Head) (coefficients : List ℤ) (bounds steps : List ℕ) (point : ℤ) (v : Value)
    → lent_walk (made_rules value_making input coeff) head coefficients bounds steps point ≡ some v → heaviest v ≤ 30 * s
weight_bound s input coeff input_fits coeff_fits head coefficients bounds steps point v e =
    all_some (lent_within (rules_grow s input coeff input_fits coeff_fits) head coefficients bounds steps point) e
