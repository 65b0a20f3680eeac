-- A map that keeps the three ways to come by a value takes the rules of one making to those of the other, rule by rule. The greatest weight, capped,
-- is such a map: whether a weight is capped before a scale is added or only after makes no difference, since it is capped again.
use mathlib.Core.Path.{◌≡◌, refl, ◌∙◌, ap}
use Prim.Native.Nat.{ℕ, zero, suc, ◌+◌, max, min}
use native.Mathlib.Omega.{arith}
use Rattle.algebra.specs.declared.PolynomialInputTransform.{PolynomialInputTransform}
use Rattle.algebra.specs.declared.PolynomialInputTransform.TheVariants.{Identity, Square, SquareTimesInput, ChebyshevT2, ChebyshevT2TimesInput}
use Rattle.walk.specs.CarryLaw.{TakesRules}
use Rattle.walk.specs.Paths.{heaviest}
use Rattle.walk.specs.MadeRules.{Making, value_making, product_less_made, place_made, input_made, output_made, made_rules}
use Rattle.walk.specs.inside.Weights.{weight_limit, capped, weight_making}

-- f takes a value come by in 𝓜 to the one come by in the same way in 𝓝
pub record Keeps {A B : Type 0} (𝓜 : Making A) (𝓝 : Making B) (f : A → B) : Type 0 where
  pub given : f 𝓜.given ≡ 𝓝.given
  pub product : (scale : ℕ) (a b : A) → f (𝓜.product scale a b) ≡ 𝓝.product scale (f a) (f b)
  pub sum : (a b : A) → f (𝓜.sum a b) ≡ 𝓝.sum (f a) (f b)

module _ {A B : Type 0} (𝓜 : Making A) (𝓝 : Making B) (f : A → B) (K : Keeps 𝓜 𝓝 f) (input coeff : ℕ) where
  less_kept : (u v w : A) → f (product_less_made 𝓜 input u v w) ≡ product_less_made 𝓝 input (f u) (f v) (f w)
  less_kept u v w = simp (K.sum, K.product)

  place_kept : (so_far : A) (j : ℕ) (power : A) → f (place_made 𝓜 coeff so_far j power) ≡ place_made 𝓝 coeff (f so_far) j (f power)
  unfolding place_made
  place_kept so_far zero power = simp (K.sum, K.given)
  place_kept so_far (suc j) power = simp (K.sum, K.product, K.given)

  input_kept : (transform : PolynomialInputTransform) (x : A) → f (input_made 𝓜 input transform x) ≡ input_made 𝓝 input transform (f x)
  unfolding input_made
  input_kept Identity x = refl
  input_kept Square x = K.product input x x
  input_kept SquareTimesInput x = K.product input x x
  input_kept ChebyshevT2 x = simp (K.sum, K.product, K.given)
  input_kept ChebyshevT2TimesInput x = simp (K.sum, K.product, K.given)

  output_kept : (transform : PolynomialInputTransform) (x v : A) → f (output_made 𝓜 input transform x v) ≡ output_made 𝓝 input transform (f x) (f v)
  unfolding output_made
  output_kept Identity x v = refl
  output_kept Square x v = refl
  output_kept SquareTimesInput x v = K.product input x v
  output_kept ChebyshevT2 x v = refl
  output_kept ChebyshevT2TimesInput x v = K.product input x v

  pub rules_taken : TakesRules (made_rules 𝓜 input coeff) (made_rules 𝓝 input coeff) f
  rules_taken = record {
    point = λ z. K.given;
    one = K.given;
    product = K.product input;
    product_less = less_kept;
    nothing = K.given;
    place = λ so_far c j power. place_kept so_far j power;
    combine = λ plain power high low. simp (K.sum, K.product);
    input = input_kept;
    output = output_kept;
  }

-- weights capped at any limit
module _ (limit : ℕ) where
  sum_capped : (a b : ℕ) → min (max a b) limit ≡ max (min a limit) (min b limit)
  sum_capped a b = omega arith

  added_capped : (w scale : ℕ) → min (w + scale) limit ≡ min (min w limit + scale) limit
  added_capped w scale = omega arith

  product_capped : (scale a b : ℕ) → min (max a b + scale) limit ≡ min (max (min a limit) (min b limit) + scale) limit
  product_capped scale a b = added_capped (max a b) scale ∙ ap (λ (w : ℕ). min (w + scale) limit) (sum_capped a b)

capped_kept : Keeps value_making weight_making (λ v. capped (heaviest v))
unfolding heaviest
capped_kept = record {
  given = refl;
  product = λ scale a b. product_capped weight_limit scale (heaviest a) (heaviest b);
  sum = λ a b. sum_capped weight_limit (heaviest a) (heaviest b);
}

pub capped_taken : (input coeff : ℕ) → TakesRules (made_rules value_making input coeff) (made_rules weight_making input coeff) (λ v. capped (heaviest v))
capped_taken = rules_taken value_making weight_making (λ v. capped (heaviest v)) capped_kept
