-- What lists, steps and transforms weigh (docs/RULES.md, "The heaviest chain"), by the greatest weights of what they are made of.
use Rattle.std.specs.Prelude.{◌≡◌, true, false, List, [], ◌∷◌, ℕ, zero, suc, ◌+◌, max, ℤ}
use Rattle.std.proofs.Math.Option.{some}
use Rattle.algebra.specs.declared.Parity.{Parity}
use Rattle.algebra.specs.declared.PolynomialInputTransform.{PolynomialInputTransform}
use Rattle.algebra.specs.declared.PolynomialInputTransform.TheVariants.{Identity, Square, SquareTimesInput, ChebyshevT2, ChebyshevT2TimesInput}
use Rattle.number.specs.Options.{image}
use Rattle.walk.specs.Rules.{Rules}
use Rattle.walk.specs.State.{Powers}
use Rattle.walk.specs.Load.{sum_from}
use Rattle.walk.specs.Trial.{or_zero}
use Rattle.walk.specs.Uses.{places_used}
use Rattle.walk.specs.Values.{Value}
use Rattle.walk.specs.Paths.{heaviest}
use Rattle.walk.specs.MadeRules.{value_making, made_rules}

-- the weights of powers from 1 up: power 0 is that of a list's constant, which is only added
unfoldable pub weights_of : Powers Value → (ns : List ℕ) → List ℕ
weights_of powers [] = []
weights_of powers (zero ∷ ns) = weights_of powers ns
weights_of powers (suc n ∷ ns) = or_zero (image heaviest (powers (suc n))) ∷ weights_of powers ns

-- the greatest of some weights, 0 if there is none
unfoldable pub greatest_of : List ℕ → ℕ
greatest_of [] = 0
greatest_of (w ∷ ws) = max w (greatest_of ws)

-- a list with any allowed power costs one pt-ct multiplication; without allowed powers it weighs 0
abbrev pub list_weight : (coeff : ℕ) → (allowed : List ℕ) → ℕ
list_weight coeff [] = 0
list_weight coeff (w ∷ ws) = greatest_of (w ∷ ws) + coeff

-- power 1 weighs 0, or the input scale where there is a transform
abbrev pub first_weight : (input : ℕ) → PolynomialInputTransform → ℕ
first_weight input Identity = 0
first_weight input Square = input
first_weight input SquareTimesInput = input
first_weight input ChebyshevT2 = input
first_weight input ChebyshevT2TimesInput = input

-- a TimesInput transform's multiplication of the value that is left, which weighs w
abbrev pub last_weight : (input : ℕ) → PolynomialInputTransform → (w : ℕ) → ℕ
last_weight input Identity w = w
last_weight input Square w = w
last_weight input SquareTimesInput w = w + input
last_weight input ChebyshevT2 w = w
last_weight input ChebyshevT2TimesInput w = w + input

module _ (input coeff : ℕ) where
  -- the rules at these scales
  abbrev rules : Rules Value
  rules = made_rules value_making input coeff

  pub record StepsWeigh : Type 0 where
    -- a power: both parts gain the input scale, the power at their distance nothing
    pub product : (u v : Value) → heaviest (rules.product u v) ≡ max (heaviest u) (heaviest v) + input
    pub product_less_lem : (u v w : Value) → heaviest (rules.product_less u v w) ≡ max (max (heaviest u) (heaviest v) + input) (heaviest w)
    -- a list, by the allowed powers that it uses
    pub list : (parity : Parity) (powers : Powers Value) (c : List ℤ) (v : Value) → sum_from rules parity powers 0 rules.nothing c ≡ some v
        → heaviest v ≡ list_weight coeff (weights_of powers (places_used parity 0 c))
    -- a combine: its power and its high value gain the input scale, in kind 4 the coefficient scale; its low value gains nothing
    pub combine : (power high low : Value)
        → heaviest (rules.combine false power high low) ≡ max (max (heaviest high) (heaviest power) + input) (heaviest low)
    pub plain : (power high low : Value)
        → heaviest (rules.combine true power high low) ≡ max (max (heaviest high) (heaviest power) + coeff) (heaviest low)
    -- a transform, in front and behind
    pub first_power : (transform : PolynomialInputTransform) (x : ℤ)
        → heaviest (rules.input transform (rules.point x)) ≡ first_weight input transform
    pub answer : (transform : PolynomialInputTransform) (x : ℤ) (v : Value)
        → heaviest (rules.output transform (rules.point x) v) ≡ last_weight input transform (heaviest v)
