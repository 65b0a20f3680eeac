-- The rules of the walk (docs/RULES.md, "Steps and the walk"): what it makes of the values at hand. They say nothing of when it can't go on, which is
-- the same for all rules. Coefficients and points are whole numbers, whatever the values are.
use Rattle.std.specs.Prelude.{Bool, ℕ, ℤ}
use Rattle.algebra.specs.Operations.{Operations, double, whole_ops}
use Rattle.algebra.specs.Remainder.{rem, remainders}
use Rattle.algebra.specs.Transform.{input_of, output_of}
use Rattle.algebra.specs.declared.PolynomialInputTransform.{PolynomialInputTransform}

pub record Rules (A : Type 0) : Type 0 where
  -- the point, as a value
  pub point : ℤ → A
  -- power 0
  pub one : A
  -- a power, from those of its two parts
  pub product : (u v : A) → A
  -- a power, from those of its two parts and the one at their distance
  pub product_less : (u v w : A) → A
  -- the sum of no place
  pub nothing : A
  -- a list's sum with one more place, j: its coefficient c and power j
  pub place : (sum : A) (c : ℤ) (j : ℕ) (power : A) → A
  -- high and low combined by a power; plain is said of kind 4
  pub combine : (plain : Bool) (power high low : A) → A
  -- power 1, from the point
  pub input : PolynomialInputTransform → (x : A) → A
  -- the walk's value, from the point and the value that is left
  pub output : PolynomialInputTransform → (x v : A) → A

-- the walk over numbers, φ taking whole numbers to them: X_a·X_b, 2·T_a·T_b - T_c, sums of c_j·(power j), high·(power p) + low
abbrev pub rules_over : {A : Type 0} → Operations A → (φ : ℤ → A) → Rules A
rules_over 𝓞 φ = record {
  point = φ;
  one = 𝓞.one;
  product = λ u v. 𝓞.mul u v;
  product_less = λ u v w. 𝓞.sub (double 𝓞 (𝓞.mul u v)) w;
  nothing = 𝓞.zero;
  place = λ sum c j power. 𝓞.add sum (𝓞.mul (φ c) power);
  combine = λ plain power high low. 𝓞.add (𝓞.mul high power) low;
  input = input_of 𝓞;
  output = output_of 𝓞;
}

-- the exact walk
abbrev pub exact_rules : Rules ℤ
exact_rules = rules_over whole_ops (λ z. z)

-- the trial walk modulo m
abbrev pub trial_rules : (m : ℕ) → Rules ℕ
trial_rules m = rules_over (remainders m) (rem m)
