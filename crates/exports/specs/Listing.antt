-- The list calls, for C: each is its call's own answer, flat, with its own buffers; or refusal 43 with zeros, and the buffers unchanged.
use Rattle.std.specs.Prelude.{◌≡◌, Bool, List, ℕ}
use Rattle.algebra.specs.declared.Basis.{Basis}
use Rattle.algebra.specs.declared.Parity.{Parity}
use Rattle.number.specs.Numbers.{Numbers}
use Rattle.counts.specs.declared.choice.SplitStrategy.{SplitStrategy}
use Rattle.lists.specs.ListCall.{list_answer, list_coefficients, list_boundaries, no_lists}
use Rattle.flat.specs.Kinds.{strategy_numbered, parity_numbered, basis_numbered, knows_all}
use Rattle.flat.specs.Unknown.{unknown_kind, when_known}
use Rattle.flat.specs.Flat.{flat_listed}
use Rattle.flat.specs.declared.flat.CListed.{CListed}

module _ {A : Type 0} (numbers : Numbers A) (strategy parity basis : ℕ) (c out : List A) (bounds : List ℕ) where
  abbrev known : Bool
  known = knows_all strategy parity basis

  -- what a definition says of the settings with these numbers
  abbrev listed : {X : Type 0} → (Numbers A → SplitStrategy → Parity → Basis → List A → List A → List ℕ → X) → X
  listed of = of numbers (strategy_numbered strategy) (parity_numbered parity) (basis_numbered basis) c out bounds

  pub record ListFlat (r : CListed) (out' : List A) (bounds' : List ℕ) : Type 0 where
    pub answer : r ≡ when_known known (flat_listed (listed list_answer)) (flat_listed (no_lists unknown_kind))
    pub coefficients : out' ≡ when_known known (listed list_coefficients) out
    pub boundaries : bounds' ≡ when_known known (listed list_boundaries) bounds
