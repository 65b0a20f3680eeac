-- The trial walk follows the exact walk: the remainder by m keeps the operations, so it takes the exact rules to the trial rules, and carries every
-- walk. A remainder is below m.
use mathlib.Core.Path.{◌≡◌, refl, ◌∙◌, ap}
use mathlib.Core.List.{List}
use mathlib.Core.Option.{Option, some, none}
use Prim.Native.Nat.{ℕ, zero, suc, ◌≤◌, ◌<◌}
use native.Mathlib.Omega.{arith}
use borrow.Author.Tests.{le-ltb}
use lib.IntN.{ℤ}
use Rattle.algebra.specs.Homomorphism.{Homomorphism}
use Rattle.algebra.specs.Operations.{Operations, double, whole_ops}
use Rattle.algebra.specs.Remainder.{rem, remainders}
use Rattle.algebra.specs.Transform.{input_of, output_of}
use Rattle.algebra.specs.declared.PolynomialInputTransform.{PolynomialInputTransform}
use Rattle.algebra.specs.declared.PolynomialInputTransform.TheVariants.{Identity, Square, SquareTimesInput, ChebyshevT2, ChebyshevT2TimesInput}
use Rattle.number.specs.Refusal.{unless_refused}
use Rattle.walk.specs.Limits.{modulus_limit}
use Rattle.walk.specs.Rules.{rules_over, exact_rules, trial_rules}
use Rattle.walk.specs.Lent.{exact_walk}
use Rattle.walk.specs.Trial.{or_zero, no_trial, trial_walk, trial_refusal, trial_of}
use Rattle.walk.specs.CarryLaw.{TakesRules}
use Rattle.walk.specs.TrialFollows.{TrialFollows}
use Rattle.walk.specs.declared.plan.Head.{Head}
use Rattle.walk.specs.Trial.{Trial}
use Rattle.algebra.proofs.Remainders.{rem_lt}
use Rattle.algebra.proofs.Homomorphism.{hom_double, remainder_homomorphism}
use Rattle.number.specs.Options.{image}
use Rattle.walk.proofs.CarryLaw.{carry_law}

-- a map that keeps the operations takes the rules over them
module _ {A B : Type 0} (𝓞 : Operations A) (𝓟 : Operations B) (f : A → B) (H : Homomorphism 𝓞 𝓟 f) where
  product_less_lem : (u v w : A) → f (𝓞.sub (double 𝓞 (𝓞.mul u v)) w) ≡ 𝓟.sub (double 𝓟 (𝓟.mul (f u) (f v))) (f w)
  product_less_lem u v w = H.sub _ w ∙ ap (λ t. 𝓟.sub t (f w)) (hom_double H (𝓞.mul u v) ∙ ap (double 𝓟) (H.mul u v))

  second : (x : A) → f (𝓞.sub (double 𝓞 (𝓞.mul x x)) 𝓞.one) ≡ 𝓟.sub (double 𝓟 (𝓟.mul (f x) (f x))) 𝓟.one
  second x = product_less_lem x x 𝓞.one ∙ ap (𝓟.sub (double 𝓟 (𝓟.mul (f x) (f x)))) H.one

  input_taken : (transform : PolynomialInputTransform) (x : A) → f (input_of 𝓞 transform x) ≡ input_of 𝓟 transform (f x)
  unfolding input_of
  input_taken Identity x = refl
  input_taken Square x = H.mul x x
  input_taken SquareTimesInput x = H.mul x x
  input_taken ChebyshevT2 x = second x
  input_taken ChebyshevT2TimesInput x = second x

  output_taken : (transform : PolynomialInputTransform) (x v : A) → f (output_of 𝓞 transform x v) ≡ output_of 𝓟 transform (f x) (f v)
  unfolding output_of
  output_taken Identity x v = refl
  output_taken Square x v = refl
  output_taken SquareTimesInput x v = H.mul x v
  output_taken ChebyshevT2 x v = refl
  output_taken ChebyshevT2TimesInput x v = H.mul x v

  pub takes_rules : (φ : ℤ → A) → TakesRules (rules_over 𝓞 φ) (rules_over 𝓟 (λ z. f (φ z))) f
  takes_rules φ = record {
    point = λ z. refl;
    one = H.one;
    product = H.mul;
    product_less = product_less_lem;
    nothing = H.zero;
    place = λ sum c j power. H.add sum _ ∙ ap (𝓟.add (f sum)) (H.mul (φ c) power);
    combine = λ plain power high low. H.add _ low ∙ ap (λ t. 𝓟.add t (f low)) (H.mul high power);
    input = input_taken;
    output = output_taken;
  }

-- a call's remainder is one of the walk, or 0
remainder_below : (k m : ℕ) → 0 < m → (o : Option ℤ)
    → (unless_refused {X = Trial} k (record { refusal = 0; remainder = or_zero (image (rem m) o) }) (no_trial k)).remainder < m
unfolding unless_refused
remainder_below zero m positive (some v) = rem_lt m positive v
remainder_below zero m positive none = positive
remainder_below (suc k) m positive o = positive

module _ (head : Head) (coefficients : List ℤ) (bounds steps : List ℕ) (point : ℤ) (m : ℕ) (positive : 0 < m) where
  pub trial_walks : trial_walk head coefficients bounds steps point m ≡ image (rem m) (exact_walk head coefficients bounds steps point)
  trial_walks =
      (carry_law ℤ ℕ exact_rules (trial_rules m) (rem m)
      (takes_rules whole_ops (remainders m) (rem m) (remainder_homomorphism m positive) (λ (z : ℤ). z))).walks head coefficients bounds steps point

  below : (trial_of head coefficients bounds steps point m).remainder < m
  unfolding trial_of
  below =
      rw trial_walks
      (remainder_below (trial_refusal head coefficients bounds steps point m) m positive (exact_walk head coefficients bounds steps point))

  -- past test 11 the walk decides
  module _ (low : 2 ≤ m) (high : m ≤ modulus_limit) where
    answers : (v : ℤ) → exact_walk head coefficients bounds steps point ≡ some v
        → trial_of head coefficients bounds steps point m ≡ record { refusal = 0; remainder = rem m v }
    unfolding trial_of trial_refusal unless_refused
    answers v e = rw (le-ltb m 2 low, le-ltb modulus_limit m high, trial_walks, e)

    refuses : exact_walk head coefficients bounds steps point ≡ none → trial_of head coefficients bounds steps point m ≡ no_trial 24
    unfolding trial_of trial_refusal unless_refused
    refuses e = rw (le-ltb m 2 low, le-ltb modulus_limit m high, trial_walks, e)

pub trial_follows : TrialFollows
trial_follows head coefficients bounds steps point m low high =
    let positive : 0 < m = omega arith in
    record {
      walks = trial_walks head coefficients bounds steps point m positive;
      answers = answers head coefficients bounds steps point m positive low high;
      refuses = refuses head coefficients bounds steps point m positive low high;
      below = below head coefficients bounds steps point m positive;
    }
