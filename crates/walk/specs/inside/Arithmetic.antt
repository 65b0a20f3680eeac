-- What the two arithmetics of the program, remainders and weights, have in common.
use Rattle.std.specs.Prelude.{◌≡◌, ℕ, refl}
use Rattle.algebra.specs.Transform.{input_of, output_of}
use Rattle.algebra.specs.declared.PolynomialInputTransform.{PolynomialInputTransform}
use Rattle.algebra.specs.declared.PolynomialInputTransform.TheVariants.{Identity, Square, SquareTimesInput, ChebyshevT2, ChebyshevT2TimesInput}
use Rattle.walk.specs.Rules.{Rules, trial_rules}
use Rattle.walk.specs.MadeRules.{input_made, output_made, made_rules}
use Rattle.walk.specs.inside.Weights.{weight_making}

-- what a transform makes is made by the rules for powers
abbrev pub input_by : Rules ℕ → PolynomialInputTransform → (x : ℕ) → ℕ
input_by 𝓡 Identity x = x
input_by 𝓡 Square x = 𝓡.product x x
input_by 𝓡 SquareTimesInput x = 𝓡.product x x
input_by 𝓡 ChebyshevT2 x = 𝓡.product_less x x 𝓡.one
input_by 𝓡 ChebyshevT2TimesInput x = 𝓡.product_less x x 𝓡.one

abbrev pub output_by : Rules ℕ → PolynomialInputTransform → (x v : ℕ) → ℕ
output_by 𝓡 Identity x v = v
output_by 𝓡 Square x v = v
output_by 𝓡 SquareTimesInput x v = 𝓡.product x v
output_by 𝓡 ChebyshevT2 x v = v
output_by 𝓡 ChebyshevT2TimesInput x v = 𝓡.product x v

-- a list starts from 0, and the transforms are made of products
pub record AreMade (𝓡 : Rules ℕ) : Type 0 where
  pub nothing : 0 ≡ 𝓡.nothing
  pub input : (transform : PolynomialInputTransform) (x : ℕ) → input_by 𝓡 transform x ≡ 𝓡.input transform x
  pub output : (transform : PolynomialInputTransform) (x v : ℕ) → output_by 𝓡 transform x v ≡ 𝓡.output transform x v

-- of remainders
remainders_input : (m : ℕ) (transform : PolynomialInputTransform) (x : ℕ) → input_by (trial_rules m) transform x ≡ (trial_rules m).input transform x
unfolding input_of
remainders_input m Identity x = refl
remainders_input m Square x = refl
remainders_input m SquareTimesInput x = refl
remainders_input m ChebyshevT2 x = refl
remainders_input m ChebyshevT2TimesInput x = refl

remainders_output : (m : ℕ) (transform : PolynomialInputTransform) (x v : ℕ)
    → output_by (trial_rules m) transform x v ≡ (trial_rules m).output transform x v
unfolding output_of
remainders_output m Identity x v = refl
remainders_output m Square x v = refl
remainders_output m SquareTimesInput x v = refl
remainders_output m ChebyshevT2 x v = refl
remainders_output m ChebyshevT2TimesInput x v = refl

pub remainders_are_made : (m : ℕ) → AreMade (trial_rules m)
remainders_are_made m = record { nothing = refl; input = remainders_input m; output = remainders_output m }

-- of weights
module _ (input coeff : ℕ) where
  abbrev rules : Rules ℕ
  rules = made_rules weight_making input coeff

  weights_input : (transform : PolynomialInputTransform) (x : ℕ) → input_by rules transform x ≡ rules.input transform x
  unfolding input_made
  weights_input Identity x = refl
  weights_input Square x = refl
  weights_input SquareTimesInput x = refl
  weights_input ChebyshevT2 x = refl
  weights_input ChebyshevT2TimesInput x = refl

  weights_output : (transform : PolynomialInputTransform) (x v : ℕ) → output_by rules transform x v ≡ rules.output transform x v
  unfolding output_made
  weights_output Identity x v = refl
  weights_output Square x v = refl
  weights_output SquareTimesInput x v = refl
  weights_output ChebyshevT2 x v = refl
  weights_output ChebyshevT2TimesInput x v = refl

  pub weights_are_made : AreMade (made_rules weight_making input coeff)
  weights_are_made = record { nothing = refl; input = weights_input; output = weights_output }
