-- The plan call, the trial walk and the heaviest chain, for C: each is its call's own answer, flat, with its own buffers; or refusal 43 with zeros,
-- and the buffers unchanged.
use Rattle.std.specs.Prelude.{◌≡◌, Bool, List, ℕ, Float, ℤ}
use Rattle.algebra.specs.declared.Basis.{Basis}
use Rattle.algebra.specs.declared.Parity.{Parity}
use Rattle.counts.specs.declared.choice.SplitStrategy.{SplitStrategy}
use Rattle.walk.specs.Trial.{trial_of, no_trial}
use Rattle.walk.specs.Chain.{chain_of, no_chain}
use Rattle.plan.specs.PlanCall.{plan_answer, plan_coefficients, plan_boundaries, plan_numbers}
use Rattle.flat.specs.Kinds.{fold_numbered, strategy_numbered, parity_numbered, basis_numbered, knows_settings}
use Rattle.flat.specs.Unknown.{unknown_kind, when_known}
use Rattle.flat.specs.Flat.{flat_trial, flat_chain}
use Rattle.flat.specs.Heads.{head_meant, knows_head, flat_planned, no_plan}
use Rattle.flat.specs.declared.flat.CTrial.{CTrial}
use Rattle.flat.specs.declared.flat.CChain.{CChain}
use Rattle.flat.specs.declared.head.CHead.{CHead}
use Rattle.flat.specs.declared.head.CPlanned.{CPlanned}

module _ (strategy parity basis fold : ℕ) (c : List ℤ) (a b : Float) (out : List ℤ) (bounds steps : List ℕ) where
  abbrev known : Bool
  known = knows_settings strategy parity basis fold

  -- what a definition says of the settings with these numbers
  abbrev planned : {X : Type 0} → (SplitStrategy → Parity → Basis → Bool → List ℤ → Float → Float → List ℤ → List ℕ → List ℕ → X) → X
  planned of = of (strategy_numbered strategy) (parity_numbered parity) (basis_numbered basis) (fold_numbered fold) c a b out bounds steps

  pub record PlanFlat (r : CPlanned) (out' : List ℤ) (bounds' steps' : List ℕ) : Type 0 where
    pub answer : r ≡ when_known known (flat_planned (planned plan_answer)) no_plan
    pub coefficients : out' ≡ when_known known (planned plan_coefficients) out
    pub boundaries : bounds' ≡ when_known known (planned plan_boundaries) bounds
    pub numbers : steps' ≡ when_known known (planned plan_numbers) steps

-- the walk is of the head that is meant
abbrev pub trial_flat : CHead → (coefficients : List ℤ) → (bounds steps : List ℕ) → (point : ℤ) → (modulus : ℕ) → CTrial
trial_flat head coefficients bounds steps point modulus =
    when_known (knows_head head)
    (flat_trial (trial_of (head_meant head) coefficients bounds steps point modulus))
    (flat_trial (no_trial unknown_kind))

-- the chain is of the head that is meant
abbrev pub chain_flat : CHead → (coefficients : List ℤ) → (bounds steps : List ℕ) → (input coeff : ℕ) → CChain
chain_flat head coefficients bounds steps input coeff =
    when_known (knows_head head)
    (flat_chain (chain_of (head_meant head) coefficients bounds steps input coeff))
    (flat_chain (no_chain unknown_kind))
