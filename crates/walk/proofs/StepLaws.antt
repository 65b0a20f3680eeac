-- A step by what it does, as the program decodes it: by cases of its kind.
use mathlib.Core.Path.{◌≡◌, refl, ◌∙◌}
use mathlib.Core.List.{List}
use mathlib.Core.Bool.{Bool, true, false}
use mathlib.Core.Option.{Option, some, none}
use Prim.Native.Nat.{ℕ}
use Rattle.algebra.specs.declared.Basis.{Basis}
use Rattle.algebra.specs.declared.Parity.{Parity}
use Rattle.number.specs.Options.{◌then◌, when, image}
use Rattle.walk.specs.Kinds.{Kind, make, load, combine, unknown, kind_of}
use Rattle.walk.specs.Rules.{Rules}
use Rattle.walk.specs.State.{Powers, Lists, State, with_powers, with_waiting}
use Rattle.walk.specs.Make.{make_of}
use Rattle.walk.specs.Load.{load_of}
use Rattle.walk.specs.Combine.{combine_of}
use Rattle.walk.specs.Walk.{unused_zero, act_of, step_of}
use Rattle.walk.specs.inside.Waits.{Stack}
use Rattle.walk.specs.inside.Instructions.{instruction_by, instruction_of}
use Rattle.walk.specs.declared.plan.Step.{Step}
use Rattle.walk.specs.declared.plan.Instruction.{Instruction}
use Rattle.walk.specs.declared.plan.Instruction.TheVariants.{Make, Load, Combine}

-- other waiting values, if there are any, make a state beside the powers
abbrev with : Powers ℕ → List ℕ → State ℕ
with powers waiting = record { powers = powers; waiting = waiting }

pub beside : (powers : Powers ℕ) (waiting wanted : Option (List ℕ)) → waiting ≡ wanted
    → image (with powers) waiting ≡ (wanted then λ ws. some (with powers ws))
beside powers waiting wanted e = rw (← e) (by waiting)
  where
    by : (o : Option (List ℕ)) → image (with powers) o ≡ (o then λ ws. some (with powers ws))
    by (some ws) = refl
    by none = refl

-- and so do those that a stack has
pub beside_stack : (powers : Powers ℕ) (stack : Option Stack) (wanted : Option (List ℕ)) → image (λ (s : Stack). s.list) stack ≡ wanted
    → image (λ (s : Stack). with powers s.list) stack ≡ (wanted then λ ws. some (with powers ws))
beside_stack powers stack wanted e = by stack ∙ beside powers (image (λ (s : Stack). s.list) stack) wanted e
  where
    by : (o : Option Stack) → image (λ (s : Stack). with powers s.list) o ≡ image (with powers) (image (λ (s : Stack). s.list) o)
    by (some s) = refl
    by none = refl

-- a step by what it does
module _ (𝓡 : Rules ℕ) (parity : Parity) (basis : Basis) (lists : Lists) (state : State ℕ) where
  abbrev pub done_by : Instruction → Option (State ℕ)
  done_by (Make n a b) = make_of 𝓡 basis state.powers n a b then λ powers. some (with_powers state powers)
  done_by (Load i) = load_of 𝓡 parity state.powers lists state.waiting i then λ waiting. some (with_waiting state waiting)
  done_by (Combine plain p) = combine_of 𝓡 plain state.powers state.waiting p then λ waiting. some (with_waiting state waiting)

  by_kind : (kind : Kind) (x y z : ℕ) → (instruction_by kind x y z then done_by) ≡ act_of 𝓡 parity basis lists kind x y z state
  unfolding act_of
  by_kind make x y z = refl
  by_kind load x y z = unused (unused_zero y z)
    where
      unused : (t : Bool) → (when t (some (Load x)) then done_by) ≡ when t (done_by (Load x))
      unused true = refl
      unused false = refl
  by_kind (combine plain) x y z = unused (unused_zero y z)
    where
      unused : (t : Bool) → (when t (some (Combine plain x)) then done_by) ≡ when t (done_by (Combine plain x))
      unused true = refl
      unused false = refl
  by_kind unknown x y z = refl

  -- a step that does nothing is refused, and any other does what it says
  pub not_done : (step : Step) → none ≡ instruction_of step → none ≡ step_of 𝓡 parity basis lists step state
  not_done step e = rw (← e) at (by_kind (kind_of step.kind) step.x step.y step.z)

  pub is_done : (step : Step) (instruction : Instruction) → some instruction ≡ instruction_of step
      → done_by instruction ≡ step_of 𝓡 parity basis lists step state
  is_done step instruction e = rw (← e) at (by_kind (kind_of step.kind) step.x step.y step.z)
