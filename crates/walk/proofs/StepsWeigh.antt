-- What lists, steps and transforms weigh. All but the lists' weights are what `heaviest` computes. A list's sum so far with its places from j on
-- weighs the greater of that sum and what the list of these places weighs: by recursion on the coefficients, place by place.
use mathlib.Core.Path.{◌≡◌, refl, ◌∙◌}
use mathlib.Core.Bool.{Bool, true, false}
use mathlib.Core.List.{List, [], ◌∷◌}
use mathlib.Core.Option.{some}
use Prim.Native.Nat.{ℕ, zero, suc, ◌+◌, max}
use native.Mathlib.Omega.{arith}
use lib.IntN.{ℤ}
use Rattle.algebra.specs.Allowed.{allows}
use Rattle.algebra.specs.declared.Parity.{Parity}
use Rattle.algebra.specs.declared.PolynomialInputTransform.{PolynomialInputTransform}
use Rattle.algebra.specs.declared.PolynomialInputTransform.TheVariants.{Identity, Square, SquareTimesInput, ChebyshevT2, ChebyshevT2TimesInput}
use Rattle.number.proofs.Options.{same_some, then_some}
use Rattle.walk.specs.Rules.{Rules}
use Rattle.walk.specs.State.{Powers}
use Rattle.walk.specs.Load.{placed_if, add_place, sum_from}
use Rattle.walk.specs.Uses.{used_if, places_used}
use Rattle.walk.specs.Values.{Value}
use Rattle.walk.specs.Paths.{heaviest}
use Rattle.walk.specs.MadeRules.{value_making, place_made, input_made, output_made, made_rules}
use Rattle.walk.specs.StepsWeigh.{weights_of, greatest_of, list_weight, first_weight, last_weight, StepsWeigh}

module _ (input coeff : ℕ) where
  abbrev rules : Rules Value
  rules = made_rules value_making input coeff

  -- one more allowed power, which weighs w and is multiplied by a coefficient that weighs 0
  one_more : (so_far w : ℕ) (ws : List ℕ) → max (max so_far (max 0 w + coeff)) (list_weight coeff ws) ≡ max so_far (list_weight coeff (w ∷ ws))
  unfolding greatest_of
  one_more so_far w [] = omega arith
  one_more so_far w (v ∷ ws) = omega arith

  module _ (parity : Parity) (powers : Powers Value) where
    -- the sum with place j, beside the later places: at an allowed power from 1 up, and at any place
    power_weighs : (j : ℕ) (so_far power : Value) (later : List ℕ) → powers (suc j) ≡ some power
        → max (heaviest (place_made value_making coeff so_far (suc j) power)) (list_weight coeff (weights_of powers later))
        ≡ max (heaviest so_far) (list_weight coeff (weights_of powers (suc j ∷ later)))
    unfolding heaviest place_made weights_of
    power_weighs j so_far power later e = rw e (one_more (heaviest so_far) (heaviest power) (weights_of powers later))

    place_weighs : (allowed : Bool) (j : ℕ) (so_far : Value) (c : ℤ) (next : Value) (later : List ℕ)
        → placed_if rules parity powers allowed j so_far c ≡ some next
        → max (heaviest next) (list_weight coeff (weights_of powers later))
        ≡ max (heaviest so_far) (list_weight coeff (weights_of powers (used_if allowed j later)))
    unfolding heaviest place_made weights_of
    place_weighs false j so_far c next later e = rw (same_some e)
    place_weighs true zero so_far c next later e =
        let taken = then_some (powers zero) _ next e in
        rw (← same_some taken.next) (omega arith)
    place_weighs true (suc j) so_far c next later e =
        let taken = then_some (powers (suc j)) _ next e in
        rw (← same_some taken.next) (power_weighs j so_far taken.value later taken.is)

    -- all places from j on
    sum_weighs : (j : ℕ) (so_far : Value) (c : List ℤ) (v : Value) → sum_from rules parity powers j so_far c ≡ some v
        → heaviest v ≡ max (heaviest so_far) (list_weight coeff (weights_of powers (places_used parity j c)))
    unfolding sum_from add_place places_used weights_of
    sum_weighs j so_far [] v e = rw (← same_some e) (omega arith)
    sum_weighs j so_far (c ∷ cs) v e =
        let taken = then_some (add_place rules parity powers j so_far c) _ v e in
        sum_weighs (suc j) taken.value cs v taken.next
        ∙ place_weighs (allows parity j) j so_far c taken.value (places_used parity (suc j) cs) taken.is

  first_weighs : (transform : PolynomialInputTransform) (x : ℤ) → heaviest (rules.input transform (rules.point x)) ≡ first_weight input transform
  unfolding heaviest input_made
  first_weighs Identity x = omega arith
  first_weighs Square x = omega arith
  first_weighs SquareTimesInput x = omega arith
  first_weighs ChebyshevT2 x = omega arith
  first_weighs ChebyshevT2TimesInput x = omega arith

  answer_weighs : (transform : PolynomialInputTransform) (x : ℤ) (v : Value)
      → heaviest (rules.output transform (rules.point x) v) ≡ last_weight input transform (heaviest v)
  unfolding heaviest output_made
  answer_weighs Identity x v = refl
  answer_weighs Square x v = refl
  answer_weighs SquareTimesInput x v = omega arith
  answer_weighs ChebyshevT2 x v = refl
  answer_weighs ChebyshevT2TimesInput x v = omega arith

pub steps_weigh : (input coeff : ℕ) → StepsWeigh input coeff
unfolding heaviest
steps_weigh input coeff = record {
  product = λ u v. refl;
  product_less_lem = λ u v w. refl;
  list = λ parity powers c v e. omega (arith, sum_weighs input coeff parity powers 0 (rules input coeff).nothing c v e);
  combine = λ power high low. refl;
  plain = λ power high low. refl;
  first_power = first_weighs input coeff;
  answer = answer_weighs input coeff;
}
