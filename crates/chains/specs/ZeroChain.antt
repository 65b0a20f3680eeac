-- The two numbers of a line (docs/RULES.md, "Lines of chains"): of the zero curve of a degree, planned without folding on the interval of lines, at input
-- scale 30 and coefficient scale 20.
use Rattle.std.specs.Prelude.{Bool, false, List, ℕ, suc, Float, ℤ, pos, replicate}
use Rattle.algebra.specs.declared.Basis.{Basis}
use Rattle.algebra.specs.declared.Basis.TheVariants.{Monomial}
use Rattle.algebra.specs.declared.Parity.{Parity}
use Rattle.algebra.specs.declared.Parity.TheVariants.{Full}
use Rattle.counts.specs.Calls.{ConsumedBits, bits_call}
use Rattle.counts.specs.declared.choice.SplitStrategy.{SplitStrategy}
use Rattle.counts.specs.declared.choice.SplitStrategy.TheVariants.{MinDepth}
use Rattle.lines.specs.Letters.{bases, parities, strategies, says}
use Rattle.walk.specs.Chain.{chain_of}
use Rattle.walk.specs.Chain.{Chain}
use Rattle.plan.specs.PlanCall.{plan_answer, plan_coefficients, plan_boundaries, plan_numbers}
use Rattle.answers.specs.Limits.{list_room, step_room}
use Rattle.answers.specs.LineInterval.{minus_one, plus_one}
use Rattle.chains.specs.declared.letters.Letters.{Letters}

-- buffers of zeros, as long as every plan needs them
unfoldable pub no_coefficients : List ℤ
no_coefficients = replicate list_room (pos 0)

unfoldable pub no_bounds : List ℕ
no_bounds = replicate list_room 0

unfoldable pub no_steps : List ℕ
no_steps = replicate step_room 0

-- what the letters say
abbrev pub basis_of : Letters → Basis
basis_of letters = says Monomial bases letters.basis

abbrev pub parity_of : Letters → Parity
parity_of letters = says Full parities letters.parity

abbrev pub strategy_of : Letters → SplitStrategy
strategy_of letters = says MinDepth strategies letters.strategy

-- the zero curve of a degree
abbrev pub zero_curve : (degree : ℕ) → List ℤ
zero_curve degree = replicate (suc degree) (pos 0)

module _ (letters : Letters) (degree : ℕ) where
  -- what a definition says of its plan, made in buffers of zeros
  abbrev of_plan : {X : Type 0} → (SplitStrategy → Parity → Basis → Bool → List ℤ → Float → Float → List ℤ → List ℕ → List ℕ → X) → X
  of_plan of =
      of (strategy_of letters) (parity_of letters) (basis_of letters) false (zero_curve degree) minus_one plus_one no_coefficients no_bounds no_steps

  -- the heaviest chain of the plan
  abbrev pub zero_chain : Chain
  zero_chain = chain_of (of_plan plan_answer).head (of_plan plan_coefficients) (of_plan plan_boundaries) (of_plan plan_numbers) 30 20

  -- the bits of the closed form
  abbrev pub closed_bits : ConsumedBits
  closed_bits = bits_call (strategy_of letters) degree 30 20
