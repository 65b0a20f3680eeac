-- Demand 3: "Each step uses only powers that earlier steps made, besides the input (when folded, its transform y) and the constant 1." What a step
-- uses is said in walk/specs/Uses.
use Rattle.std.specs.Prelude.{◌≡◌, Bool, ℕ, Float, ℤ}
use mathlib.Core.List.{List, ◌∷◌, ◌++◌, Memᴰ}
use Rattle.std.proofs.Math.Option.{some}
use Rattle.algebra.specs.declared.Basis.{Basis}
use Rattle.algebra.specs.declared.Parity.{Parity}
use Rattle.counts.specs.declared.choice.SplitStrategy.{SplitStrategy}
use Rattle.walk.specs.Rules.{Rules}
use Rattle.walk.specs.State.{Lists}
use Rattle.walk.specs.Uses.{uses_of}
use Rattle.walk.specs.Lent.{lent_lists, lent_steps, lent_walk}
use Rattle.walk.specs.declared.plan.Head.{Head}
use Rattle.walk.specs.declared.plan.Step.{Step}
use Rattle.plan.specs.PlanCall.{PlanCall, Planned}
use Rattle.demands.specs.Accepts.{BringsPlan}

-- power m can be used after the earlier steps: it is the constant 1; or x, when folded y; or one of them, of kind 1, made it
pub data Usable (earlier : List Step) (m : ℕ) : Type 0 where
  constant : m ≡ 0 → Usable earlier m
  input : m ≡ 1 → Usable earlier m
  made : (step : Step) → Memᴰ step earlier → step.kind ≡ 1 → step.x ≡ m → Usable earlier m

-- each step uses only such powers
abbrev pub MadeBefore : Parity → Basis → Lists → List Step → Type 0
MadeBefore parity basis lists steps = (earlier : List Step) (step : Step) (later : List Step) → steps ≡ earlier ++ (step ∷ later)
    → (m : ℕ) → Memᴰ m (uses_of parity basis lists step) → Usable earlier m

-- so it is with every plan that the call leaves in lent buffers
abbrev pub PlansMadeBefore : Type 0
PlansMadeBefore = (strategy : SplitStrategy) (parity : Parity) (basis : Basis) (folded : Bool) (c : List ℤ) (a b : Float) (out : List ℤ)
    (bounds steps : List ℕ) (r : Planned) (out' : List ℤ) (bounds' steps' : List ℕ) → BringsPlan strategy parity basis folded c a b out bounds steps
    → PlanCall strategy parity basis folded c a b out bounds steps r out' bounds' steps'
    → MadeBefore r.head.parity r.head.basis (lent_lists r.head out' bounds') (lent_steps r.head steps')

-- and with every lent plan that a walk can run, planned by us or not
abbrev pub RunsMadeBefore : Type 0 → Type 0
RunsMadeBefore A = (𝓡 : Rules A) (head : Head) (coefficients : List ℤ) (bounds steps : List ℕ) (point : ℤ) (v : A)
    → lent_walk 𝓡 head coefficients bounds steps point ≡ some v
    → MadeBefore head.parity head.basis (lent_lists head coefficients bounds) (lent_steps head steps)
