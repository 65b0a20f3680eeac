-- A walk that has a value uses only powers that earlier steps made, besides powers 0 and 1 (docs/RULES.md, "Steps and the walk").
use Rattle.std.specs.Prelude.{◌≡◌, Bool, true, false, ◌&&◌, ◌||◌, List, [], ◌∷◌, ℕ, eqb}
use Rattle.std.proofs.Math.Option.{some}
use Rattle.algebra.specs.declared.Basis.{Basis}
use Rattle.algebra.specs.declared.Parity.{Parity}
use Rattle.walk.specs.Kinds.{Kind, make, load, combine, unknown, kind_of}
use Rattle.walk.specs.Rules.{Rules}
use Rattle.walk.specs.State.{Lists}
use Rattle.walk.specs.Walk.{walk_of}
use Rattle.walk.specs.Uses.{uses_of}
use Rattle.walk.specs.declared.plan.Step.{Step}

-- whether a number, and whether each of some, is among others
unfoldable pub is_among : ℕ → List ℕ → Bool
is_among n [] = false
is_among n (m ∷ ms) = eqb n m || is_among n ms

unfoldable pub all_among : List ℕ → List ℕ → Bool
all_among [] ms = true
all_among (n ∷ ns) ms = is_among n ms && all_among ns ms

-- the powers made, after one more step
abbrev pub made_by : Kind → (x : ℕ) (made : List ℕ) → List ℕ
made_by make x made = x ∷ made
made_by load x made = made
made_by (combine plain) x made = made
made_by unknown x made = made

abbrev pub made_after : Step → (made : List ℕ) → List ℕ
made_after step made = made_by (kind_of step.kind) step.x made

-- each step uses powers that are made before it
abbrev pub UsesMade : Parity → Basis → Lists → (made : List ℕ) → List Step → Type 0
UsesMade parity basis lists made [] = Unit {0}
UsesMade parity basis lists made (step ∷ steps) =
    (all_among (uses_of parity basis lists step) made ≡ true) × UsesMade parity basis lists (made_after step made) steps

-- so it is with every walk that has a value
abbrev pub WalksUseMade : Type 0 → Type 0
WalksUseMade A = (𝓡 : Rules A) (parity : Parity) (basis : Basis) (lists : Lists) (steps : List Step) (y v : A)
    → walk_of 𝓡 parity basis lists steps y ≡ some v → UsesMade parity basis lists (0 ∷ 1 ∷ []) steps
