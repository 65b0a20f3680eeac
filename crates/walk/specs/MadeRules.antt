-- The walk's rules, by what they make values of (docs/RULES.md, "The heaviest chain"): a ct-ct multiplication weighs the input scale, a pt-ct one the
-- coefficient scale.
use Rattle.std.specs.Prelude.{cond, ℕ, zero, suc}
use Rattle.algebra.specs.declared.PolynomialInputTransform.{PolynomialInputTransform}
use Rattle.algebra.specs.declared.PolynomialInputTransform.TheVariants.{Identity, Square, SquareTimesInput, ChebyshevT2, ChebyshevT2TimesInput}
use Rattle.walk.specs.Rules.{Rules}
use Rattle.walk.specs.Values.{Value}
use Rattle.walk.specs.Values.Value.{given, product, sum}

-- the three ways to come by a value: it is given, a product, or a sum
pub record Making (A : Type 0) : Type 0 where
  pub given : A
  pub product : (scale : ℕ) (a b : A) → A
  pub sum : (a b : A) → A

-- the values themselves
abbrev pub value_making : Making Value
value_making = record { given = given; product = product; sum = sum }

module _ {A : Type 0} (𝓜 : Making A) where
  -- 2·T_a·T_b - T_c, where doubling is an addition and T_c is only subtracted
  abbrev pub product_less_made : (input : ℕ) (u v w : A) → A
  product_less_made input u v w = 𝓜.sum (𝓜.product input u v) w

  -- at an allowed power the coefficient times the power is a pt-ct multiplication; the constant is only added
  unfoldable pub place_made : (coeff : ℕ) (so_far : A) (j : ℕ) (power : A) → A
  place_made coeff so_far zero power = 𝓜.sum so_far 𝓜.given
  place_made coeff so_far (suc j) power = 𝓜.sum so_far (𝓜.product coeff 𝓜.given power)

  -- high times the power is a ct-ct multiplication, in kind 4 a pt-ct one; low is only added
  abbrev pub combine_made : (scale : ℕ) (power high low : A) → A
  combine_made scale power high low = 𝓜.sum (𝓜.product scale high power) low

  -- x, x² or 2x² - 1 by transform
  unfoldable pub input_made : (input : ℕ) → PolynomialInputTransform → (x : A) → A
  input_made input Identity x = x
  input_made input Square x = 𝓜.product input x x
  input_made input SquareTimesInput x = 𝓜.product input x x
  input_made input ChebyshevT2 x = product_less_made input x x 𝓜.given
  input_made input ChebyshevT2TimesInput x = product_less_made input x x 𝓜.given

  -- a TimesInput transform multiplies the value that is left by x
  unfoldable pub output_made : (input : ℕ) → PolynomialInputTransform → (x v : A) → A
  output_made input Identity x v = v
  output_made input Square x v = v
  output_made input SquareTimesInput x v = 𝓜.product input x v
  output_made input ChebyshevT2 x v = v
  output_made input ChebyshevT2TimesInput x v = 𝓜.product input x v

  -- the point, the number 1 and the sum of no place are given
  abbrev pub made_rules : (input coeff : ℕ) → Rules A
  made_rules input coeff = record {
    point = λ x. 𝓜.given;
    one = 𝓜.given;
    product = 𝓜.product input;
    product_less = product_less_made input;
    nothing = 𝓜.given;
    place = λ so_far c j power. place_made coeff so_far j power;
    combine = λ plain. combine_made (cond plain coeff input);
    input = input_made input;
    output = output_made input;
  }
