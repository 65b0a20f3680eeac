-- The trial walk (docs/RULES.md, "Steps and the walk" and "Refusals"): 11, then 24, and the remainder.
use Rattle.std.specs.Prelude.{◌||◌, List, [], ◌∷◌, ℕ, ltb, ℤ, Result}
use Rattle.std.proofs.Math.Option.{Option, some, none}
use Rattle.number.specs.Refusal.{Test, first_refusal, unless_refused}
use Rattle.number.specs.Refused.{numbered}
use Rattle.number.specs.Options.{missing}
use Rattle.number.specs.declared.refusal.Refusal.{Refusal}
use Rattle.walk.specs.Limits.{modulus_limit}
use Rattle.walk.specs.Rules.{trial_rules}
use Rattle.walk.specs.Lent.{lent_walk}
use Rattle.walk.specs.declared.plan.Head.{Head}

-- 11: a trial modulus outside 2 to 2,147,483,647
abbrev pub bad_modulus : (modulus : ℕ) → Test
bad_modulus modulus = (ltb modulus 2 || ltb modulus_limit modulus, 11)

-- 24: a lent plan that the walk can't run; specs/Unrunnable lists the reasons
abbrev pub cannot_run : {A : Type 0} → (walked : Option A) → Test
cannot_run walked = (missing walked, 24)

-- a remainder, 0 where there is none
abbrev pub or_zero : Option ℕ → ℕ
or_zero (some v) = v
or_zero none = 0

-- an answer in numbers: its refusal, or 0 with the remainder
pub record Trial : Type 0 where
  pub refusal : ℕ
  pub remainder : ℕ

-- after a refusal zero
abbrev pub no_trial : (refusal : ℕ) → Trial
no_trial refusal = record { refusal = refusal; remainder = 0 }

-- what a result says of it
abbrev pub trial_in : Result ℕ Refusal → Trial
trial_in = numbered (λ (remainder : ℕ). record { refusal = 0; remainder = remainder }) no_trial

module _ (head : Head) (coefficients : List ℤ) (bounds steps : List ℕ) (point : ℤ) (modulus : ℕ) where
  -- the walk modulo the modulus
  abbrev pub trial_walk : Option ℕ
  trial_walk = lent_walk (trial_rules modulus) head coefficients bounds steps point

  -- 11, 24
  abbrev pub trial_tests : List Test
  trial_tests = bad_modulus modulus ∷ cannot_run trial_walk ∷ []

  unfoldable pub trial_refusal : ℕ
  trial_refusal = first_refusal trial_tests

  -- the call's answer
  unfoldable pub trial_of : Trial
  trial_of = unless_refused trial_refusal (record { refusal = 0; remainder = or_zero trial_walk }) (no_trial trial_refusal)
