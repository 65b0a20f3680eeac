-- The walk of lists and steps (docs/RULES.md, "Steps and the walk"), over any rules.
use Rattle.std.specs.Prelude.{Bool, ◌&&◌, List, [], ◌∷◌, ℕ, eqb}
use Rattle.std.proofs.Math.Option.{Option, some, none}
use Rattle.algebra.specs.declared.Basis.{Basis}
use Rattle.algebra.specs.declared.Parity.{Parity}
use Rattle.number.specs.Options.{◌then◌, when}
use Rattle.walk.specs.Kinds.{Kind, make, load, combine, unknown, kind_of}
use Rattle.walk.specs.Rules.{Rules}
use Rattle.walk.specs.State.{Lists, State, with_powers, with_waiting}
use Rattle.walk.specs.Make.{first_powers, make_of}
use Rattle.walk.specs.Load.{load_of}
use Rattle.walk.specs.Combine.{combine_of}
use Rattle.walk.specs.declared.plan.Step.{Step}

-- the one value that is left at the end
unfoldable pub one_left : {A : Type 0} → (waiting : List A) → Option A
one_left [] = none
one_left (v ∷ []) = some v
one_left (v ∷ w ∷ rest) = none

-- a load or a combine leaves its third and fourth number unused: they are 0
abbrev pub unused_zero : (y z : ℕ) → Bool
unused_zero y z = eqb y 0 && eqb z 0

-- at the start powers 0 and 1 are there, and nothing waits
abbrev pub first_state : {A : Type 0} → Rules A → (y : A) → State A
first_state 𝓡 y = record { powers = first_powers 𝓡 y; waiting = [] }

module _ {A : Type 0} (𝓡 : Rules A) (parity : Parity) (basis : Basis) (lists : Lists) where
  -- a step by its kind
  unfoldable pub act_of : Kind → (x y z : ℕ) → State A → Option (State A)
  act_of make x y z state = make_of 𝓡 basis state.powers x y z then λ powers. some (with_powers state powers)
  act_of load x y z state =
      when (unused_zero y z) (load_of 𝓡 parity state.powers lists state.waiting x then λ waiting. some (with_waiting state waiting))
  act_of (combine plain) x y z state =
      when (unused_zero y z) (combine_of 𝓡 plain state.powers state.waiting x then λ waiting. some (with_waiting state waiting))
  act_of unknown x y z state = none

  abbrev pub step_of : Step → State A → Option (State A)
  step_of step state = act_of (kind_of step.kind) step.x step.y step.z state

  -- step after step
  unfoldable pub run_of : List Step → State A → Option (State A)
  run_of [] state = some state
  run_of (step ∷ steps) state = step_of step state then λ next. run_of steps next

  -- the steps from power 1 = y on, to the one value that is left
  unfoldable pub walk_of : List Step → (y : A) → Option A
  walk_of steps y = run_of steps (first_state 𝓡 y) then λ end. one_left end.waiting
