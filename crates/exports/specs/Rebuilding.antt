-- The rebuild call, for C: it is the call's own answer, flat, with its own buffer; or refusal 43 with zeros, and the buffer unchanged.
use Rattle.std.specs.Prelude.{◌≡◌, Bool, List, ℕ, ℤ}
use Rattle.algebra.specs.declared.Basis.{Basis}
use Rattle.algebra.specs.declared.Parity.{Parity}
use Rattle.counts.specs.declared.choice.SplitStrategy.{SplitStrategy}
use Rattle.rebuild.specs.RebuildCall.{rebuild_answer, rebuild_coefficients, no_rebuilt}
use Rattle.flat.specs.Kinds.{strategy_numbered, parity_numbered, basis_numbered, knows_all}
use Rattle.flat.specs.Unknown.{unknown_kind, when_known}
use Rattle.flat.specs.Flat.{flat_rebuilt}
use Rattle.flat.specs.declared.flat.CRebuilt.{CRebuilt}

module _ (strategy parity basis degree base : ℕ) (lists : List ℤ) (bounds : List ℕ) (out : List ℤ) where
  abbrev known : Bool
  known = knows_all strategy parity basis

  -- what a definition says of the settings with these numbers
  abbrev rebuilding : {X : Type 0} → (SplitStrategy → Parity → Basis → (degree base : ℕ) → List ℤ → List ℕ → List ℤ → X) → X
  rebuilding of = of (strategy_numbered strategy) (parity_numbered parity) (basis_numbered basis) degree base lists bounds out

  pub record RebuildFlat (r : CRebuilt) (out' : List ℤ) : Type 0 where
    pub answer : r ≡ when_known known (flat_rebuilt (rebuilding rebuild_answer)) (flat_rebuilt (no_rebuilt unknown_kind))
    pub coefficients : out' ≡ when_known known (rebuilding rebuild_coefficients) out
