-- The heaviest chain of a lent plan (docs/RULES.md, "The heaviest chain" and "Refusals"): 10, then 24, and the weight.
use Rattle.std.specs.Prelude.{List, [], ◌∷◌, ℕ, ℤ, pos, Result}
use Rattle.std.proofs.Math.Option.{Option}
use Rattle.number.specs.Refusal.{Test, first_refusal, unless_refused}
use Rattle.number.specs.Refused.{numbered}
use Rattle.number.specs.Tests.{too_wide}
use Rattle.number.specs.Options.{image}
use Rattle.number.specs.declared.refusal.Refusal.{Refusal}
use Rattle.walk.specs.Lent.{lent_walk}
use Rattle.walk.specs.Trial.{cannot_run, or_zero}
use Rattle.walk.specs.Values.{Value}
use Rattle.walk.specs.Paths.{heaviest}
use Rattle.walk.specs.MadeRules.{value_making, made_rules}
use Rattle.walk.specs.declared.plan.Head.{Head}

-- an answer in numbers: its refusal, or 0 with the weight
pub record Chain : Type 0 where
  pub refusal : ℕ
  pub weight : ℕ

-- after a refusal zero
abbrev pub no_chain : (refusal : ℕ) → Chain
no_chain refusal = record { refusal = refusal; weight = 0 }

-- what a result says of it
abbrev pub chain_in : Result ℕ Refusal → Chain
chain_in = numbered (λ (weight : ℕ). record { refusal = 0; weight = weight }) no_chain

module _ (head : Head) (coefficients : List ℤ) (bounds steps : List ℕ) (input coeff : ℕ) where
  -- the walk's answer, by what it is made of; which point it is walked at makes no difference
  abbrev pub answer_made : Option Value
  answer_made = lent_walk (made_rules value_making input coeff) head coefficients bounds steps (pos 0)

  -- 10 for either of the two scales, 24
  abbrev pub chain_tests : List Test
  chain_tests = too_wide input ∷ too_wide coeff ∷ cannot_run answer_made ∷ []

  unfoldable pub chain_refusal : ℕ
  chain_refusal = first_refusal chain_tests

  -- the call's answer
  unfoldable pub chain_of : Chain
  chain_of = unless_refused chain_refusal (record { refusal = 0; weight = or_zero (image heaviest answer_made) }) (no_chain chain_refusal)
