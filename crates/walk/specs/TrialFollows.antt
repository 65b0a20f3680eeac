-- The trial walk follows the exact walk, refusals too: its answer is the remainder of the exact value, from 0 to the modulus less 1.
use Rattle.std.specs.Prelude.{◌≡◌, List, ℕ, ◌≤◌, ◌<◌, ℤ}
use Rattle.std.proofs.Math.Option.{some, none}
use Rattle.algebra.specs.Remainder.{rem}
use Rattle.number.specs.Options.{image}
use Rattle.walk.specs.Limits.{modulus_limit}
use Rattle.walk.specs.Lent.{exact_walk}
use Rattle.walk.specs.Trial.{no_trial, trial_walk, trial_of}
use Rattle.walk.specs.declared.plan.Head.{Head}

-- of one plan, point and modulus
pub record Follows (head : Head) (coefficients : List ℤ) (bounds steps : List ℕ) (point : ℤ) (modulus : ℕ) : Type 0 where
  -- the trial walk has a value where the exact walk has one, and it is that one's remainder
  pub walks : trial_walk head coefficients bounds steps point modulus ≡ image (rem modulus) (exact_walk head coefficients bounds steps point)
  -- so where there is an exact value, its remainder is answered, and where there is none, 24
  pub answers : (v : ℤ) → exact_walk head coefficients bounds steps point ≡ some v
      → trial_of head coefficients bounds steps point modulus ≡ record { refusal = 0; remainder = rem modulus v }
  pub refuses : exact_walk head coefficients bounds steps point ≡ none → trial_of head coefficients bounds steps point modulus ≡ no_trial 24
  -- the answered number is from 0 to the modulus less 1
  pub below : (trial_of head coefficients bounds steps point modulus).remainder < modulus

-- of all, at a modulus from 2 to 2,147,483,647
abbrev pub TrialFollows : Type 0
TrialFollows = (head : Head) (coefficients : List ℤ) (bounds steps : List ℕ) (point : ℤ) (modulus : ℕ) → 2 ≤ modulus → modulus ≤ modulus_limit
    → Follows head coefficients bounds steps point modulus
