-- A power that nothing uses adds nothing (docs/RULES.md, "The heaviest chain"): the step that makes it may be left out, over any rules. So what a walk
-- answers is made of the powers that are used, and of no other.
use Rattle.std.specs.Prelude.{◌≡◌, false, List, [], ◌∷◌, ◌++◌, ℕ}
use Rattle.std.proofs.Math.Option.{some}
use Rattle.algebra.specs.declared.Basis.{Basis}
use Rattle.algebra.specs.declared.Parity.{Parity}
use Rattle.walk.specs.Kinds.{make, kind_of}
use Rattle.walk.specs.Rules.{Rules}
use Rattle.walk.specs.State.{Lists}
use Rattle.walk.specs.Walk.{walk_of}
use Rattle.walk.specs.Uses.{uses_of}
use Rattle.walk.specs.UsesMade.{is_among}
use Rattle.walk.specs.declared.plan.Step.{Step}

-- none of some steps uses power n
abbrev pub NoneUses : Parity → Basis → Lists → (n : ℕ) → List Step → Type 0
NoneUses parity basis lists n [] = Unit {0}
NoneUses parity basis lists n (step ∷ steps) = (is_among n (uses_of parity basis lists step) ≡ false) × NoneUses parity basis lists n steps

-- a step that makes a power which none of the later steps uses
abbrev pub UnusedLeftOut : Type 0 → Type 0
UnusedLeftOut A = (𝓡 : Rules A) (parity : Parity) (basis : Basis) (lists : Lists) (before later : List Step) (unused : Step) (y v : A)
    → kind_of unused.kind ≡ make → NoneUses parity basis lists unused.x later
    → walk_of 𝓡 parity basis lists (before ++ (unused ∷ later)) y ≡ some v → walk_of 𝓡 parity basis lists (before ++ later) y ≡ some v
