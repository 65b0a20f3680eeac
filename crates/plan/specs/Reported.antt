-- The counts that a plan reports (docs/RULES.md, "Steps and the walk"), read off its steps and lists.
use Rattle.std.specs.Prelude.{cond, List, [], ◌∷◌, ℕ, ◌+◌, ◌-◌, eqb}
use Rattle.algebra.specs.declared.Parity.{Parity}
use Rattle.algebra.specs.declared.PolynomialInputTransform.{PolynomialInputTransform}
use Rattle.algebra.specs.declared.PolynomialInputTransform.TheVariants.{Identity, Square, SquareTimesInput, ChebyshevT2, ChebyshevT2TimesInput}
use Rattle.counts.specs.PlainCount.{allowed_to}
use Rattle.counts.specs.declared.pair.Pair.{Pair}
use Rattle.walk.specs.declared.plan.Step.{Step}

-- how many steps are of a kind
unfoldable pub of_kind : (kind : ℕ) → List Step → ℕ
of_kind kind [] = 0
of_kind kind (step ∷ steps) = cond (eqb step.kind kind) 1 0 + of_kind kind steps

-- the allowed powers from 1 up, over lists of these lengths
unfoldable pub allowed_in : Parity → (lengths : List ℕ) → ℕ
allowed_in parity [] = 0
allowed_in parity (n ∷ lengths) = allowed_to parity (n - 1) + allowed_in parity lengths

-- the multiplications of a transform: 0 without a fold, 2 with TimesInput and else 1. It makes the depth so much greater too.
abbrev pub transform_cost : PolynomialInputTransform → ℕ
transform_cost Identity = 0
transform_cost Square = 1
transform_cost SquareTimesInput = 2
transform_cost ChebyshevT2 = 1
transform_cost ChebyshevT2TimesInput = 2

-- ct-ct: steps of kinds 1 and 3, and the transform's; pt-ct: allowed powers over all lists, and steps of kind 4
unfoldable pub reported : Parity → PolynomialInputTransform → (lengths : List ℕ) → List Step → Pair
reported parity transform lengths steps = record {
  ct = of_kind 1 steps + of_kind 3 steps + transform_cost transform;
  pt = allowed_in parity lengths + of_kind 4 steps;
}
