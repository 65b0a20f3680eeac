-- What is promised of the heaviest chain, for every lent plan that the walk can run, not only the planner's, and scales up to 65,535.
use Rattle.std.specs.Prelude.{◌≡◌, List, ℕ, ◌*◌, ◌≤◌, ℤ}
use Rattle.std.proofs.Math.Option.{some, none}
use Rattle.number.specs.Limits.{scale_limit}
use Rattle.walk.specs.Lent.{exact_walk}
use Rattle.walk.specs.Values.{Value}
use Rattle.walk.specs.Paths.{Greatest}
use Rattle.walk.specs.Chain.{no_chain, answer_made, chain_of}
use Rattle.walk.specs.declared.plan.Head.{Head}

module _ (head : Head) (coefficients : List ℤ) (bounds steps : List ℕ) (input coeff : ℕ) where
  -- w is the greatest weight over all paths that end in the walk's answer
  pub record GreatestOfAnswer (w : ℕ) : Type 0 where
    pub answer : Value
    pub made : answer_made head coefficients bounds steps input coeff ≡ some answer
    pub greatest : Greatest answer w

  pub record Heaviest : Type 0 where
    -- 24 where the walk has no value, at any point
    pub refuses : (point : ℤ) → exact_walk head coefficients bounds steps point ≡ none
        → chain_of head coefficients bounds steps input coeff ≡ no_chain 24
    -- no refusal where it has one
    pub accepts : (point value : ℤ) → exact_walk head coefficients bounds steps point ≡ some value
        → (chain_of head coefficients bounds steps input coeff).refusal ≡ 0
    -- and then the greatest weight
    pub weighs : (point value : ℤ) → exact_walk head coefficients bounds steps point ≡ some value
        → GreatestOfAnswer (chain_of head coefficients bounds steps input coeff).weight
    -- It is at most that of 30 multiplications, however many steps there are, so that 64 bits always hold it: one makes power 1, 12 a power up to
    -- 4,095, one multiplies it by a coefficient, 15 combine the at most 16 values that wait, and one is the output's.
    pub bounded : (s : ℕ) → input ≤ s → coeff ≤ s → (chain_of head coefficients bounds steps input coeff).weight ≤ 30 * s

abbrev pub HeaviestChain : Type 0
HeaviestChain = (head : Head) (coefficients : List ℤ) (bounds steps : List ℕ) (input coeff : ℕ) → input ≤ scale_limit → coeff ≤ scale_limit
    → Heaviest head coefficients bounds steps input coeff
