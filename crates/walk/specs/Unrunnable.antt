-- The reasons why a walk can't run a lent plan, refusal 24 (docs/RULES.md, "The trial walk"): each a test of the head and its buffers, of a step at
-- the state that the steps before it left, or of the state at the end.
use Rattle.std.specs.Prelude.{◌≡◌, Bool, true, false, not, ◌||◌, List, [], ◌∷◌, ℕ, ◌/◌, eqb, leb, ltb, ℤ, length}
use Rattle.std.proofs.Math.Option.{Option, some, none}
use Rattle.algebra.specs.declared.Basis.{Basis}
use Rattle.algebra.specs.declared.Parity.{Parity}
use Rattle.number.specs.Limits.{plan_limit}
use Rattle.number.specs.Options.{missing}
use Rattle.walk.specs.Limits.{waiting_limit}
use Rattle.walk.specs.Kinds.{Kind, make, load, combine, unknown, kind_of}
use Rattle.walk.specs.Rules.{Rules}
use Rattle.walk.specs.State.{Powers, Lists, State}
use Rattle.walk.specs.Make.{is_split}
use Rattle.walk.specs.Walk.{unused_zero, step_of, first_state}
use Rattle.walk.specs.Lent.{lent_steps, lent_lists, bounds_rise, lent_walk}
use Rattle.walk.specs.Uses.{uses_of}
use Rattle.walk.specs.declared.plan.Step.{Step}
use Rattle.walk.specs.declared.plan.Head.{Head}

-- whether one of some tests holds
unfoldable pub any_holds : List Bool → Bool
any_holds [] = false
any_holds (test ∷ tests) = test || any_holds tests

-- whether one of some powers is not there
unfoldable pub any_missing : {A : Type 0} → Powers A → List ℕ → Bool
any_missing powers [] = false
any_missing powers (n ∷ ns) = missing (powers n) || any_missing powers ns

-- a test of what a step left; where it left nothing, there is nothing to test
abbrev pub fails_at : {X : Type 0} → Option X → (X → Bool) → Bool
fails_at (some v) test = test v
fails_at none test = false

-- a count passes its buffer; the boundaries do not rise from 0 within the coefficients
abbrev pub head_reasons : Head → List ℤ → (bounds steps : List ℕ) → List Bool
head_reasons head coefficients bounds steps =
    ltb (length coefficients) head.coefficients
    ∷ ltb (length bounds) head.lists
    ∷ ltb (length steps / 4) head.steps
    ∷ not (bounds_rise head bounds)
    ∷ []

-- of a step by its kind, where `uses` are the powers that it uses
unfoldable pub reasons_by : {A : Type 0} → Lists → Kind → (x y z : ℕ) → (uses : List ℕ) → State A → List Bool
-- power x is above 4,095, was made before, or has another split; a power that it uses is not there
reasons_by lists make x y z uses state =
    ltb plan_limit x ∷ not (missing (state.powers x)) ∷ not (is_split x y z) ∷ any_missing state.powers uses ∷ []
-- an unused number is not 0; there is no list x; a power that it uses is not there; 16 values already wait
reasons_by lists load x y z uses state =
    not (unused_zero y z) ∷ missing (lists x) ∷ any_missing state.powers uses ∷ leb waiting_limit (length state.waiting) ∷ []
-- an unused number is not 0; power x is not there; fewer than two values wait
reasons_by lists (combine plain) x y z uses state =
    not (unused_zero y z) ∷ any_missing state.powers uses ∷ ltb (length state.waiting) 2 ∷ []
-- a kind other than 1 to 4
reasons_by lists unknown x y z uses state = true ∷ []

abbrev pub step_reasons : {A : Type 0} → Parity → Basis → Lists → Step → State A → List Bool
step_reasons parity basis lists step state =
    reasons_by lists (kind_of step.kind) step.x step.y step.z (uses_of parity basis lists step) state

-- after the last step not exactly one value waits
abbrev pub end_reason : {A : Type 0} → (waiting : List A) → Bool
end_reason waiting = not (eqb (length waiting) 1)

module _ {A : Type 0} (𝓡 : Rules A) (parity : Parity) (basis : Basis) (lists : Lists) where
  -- whether a reason holds at one of the steps, each at the state that those before it left, or at the end
  unfoldable pub stops : List Step → State A → Bool
  stops [] state = end_reason state.waiting
  stops (step ∷ steps) state =
      any_holds (step_reasons parity basis lists step state) || fails_at (step_of 𝓡 parity basis lists step state) (λ next. stops steps next)

-- whether a reason holds for a lent plan
unfoldable pub unrunnable : {A : Type 0} → Rules A → Head → List ℤ → (bounds steps : List ℕ) → (point : ℤ) → Bool
unrunnable 𝓡 head coefficients bounds steps point =
    any_holds (head_reasons head coefficients bounds steps)
    || stops 𝓡 head.parity head.basis (lent_lists head coefficients bounds) (lent_steps head steps)
    (first_state 𝓡 (𝓡.input head.transform (𝓡.point point)))

-- the walk has no value exactly if a reason holds
abbrev pub RefusedForReasons : Type 0 → Type 0
RefusedForReasons A = (𝓡 : Rules A) (head : Head) (coefficients : List ℤ) (bounds steps : List ℕ) (point : ℤ)
    → missing (lent_walk 𝓡 head coefficients bounds steps point) ≡ unrunnable 𝓡 head coefficients bounds steps point
