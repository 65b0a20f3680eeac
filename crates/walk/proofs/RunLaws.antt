-- A run of steps: of two runs of steps one after the other, and from step i of a buffer on. By recursion on the
-- steps, and by the definition at the next step.
use mathlib.Core.Path.{◌≡◌, refl, sym, ◌∙◌, ap}
use mathlib.Core.List.{List, [], ◌∷◌, ◌++◌}
use mathlib.Core.Option.{Option, some, none}
use Prim.Native.Nat.{ℕ, zero, suc, ◌+◌, ◌-◌, ◌≤◌, ◌<◌}
use native.Mathlib.Numerals.{add-one}
use native.Mathlib.Omega.{arith}
use lib.ListN.{get_or, replicate}
use Rattle.algebra.specs.declared.Basis.{Basis}
use Rattle.algebra.specs.declared.Parity.{Parity}
use Rattle.number.specs.Options.{◌then◌}
use Rattle.number.proofs.Options.{then_alike, then_assoc}
use Rattle.walk.specs.Rules.{Rules}
use Rattle.walk.specs.State.{Powers, Lists, State}
use Rattle.walk.specs.Make.{first_powers}
use Rattle.walk.specs.Walk.{one_left, step_of, run_of, walk_of}
use Rattle.walk.specs.Lent.{step_at, steps_from}
use Rattle.walk.specs.declared.plan.Step.{Step}

-- steps after steps
pub run_then : {A : Type 0} (𝓡 : Rules A) (parity : Parity) (basis : Basis) (lists : Lists) (steps later : List Step) (state : State A)
    → run_of 𝓡 parity basis lists (steps ++ later) state ≡ (run_of 𝓡 parity basis lists steps state then λ next. run_of 𝓡 parity basis lists later next)
unfolding run_of
run_then 𝓡 parity basis lists [] later state = refl
run_then 𝓡 parity basis lists (step ∷ steps) later state =
    then_alike (step_of 𝓡 parity basis lists step state) (λ next. run_then 𝓡 parity basis lists steps later next)
    ∙ sym (then_assoc (step_of 𝓡 parity basis lists step state) _ _)

pub get_d_replicate : {X : Type 0} (d : X) (k n : ℕ) → get_or (replicate k d) n d ≡ d
get_d_replicate d zero n = refl
get_d_replicate d (suc k) zero = refl
get_d_replicate d (suc k) (suc n) = get_d_replicate d k n

module _ (𝓡 : Rules ℕ) (parity : Parity) (basis : Basis) (lists : Lists) (steps : List ℕ) (count : ℕ) where
  -- what is left after the steps from i on
  abbrev pub left_from : ℕ → State ℕ → Option ℕ
  left_from i state = run_of 𝓡 parity basis lists (steps_from steps i (count - i)) state then λ end. one_left end.waiting

  -- from the start it is the walk
  pub left_start : (y : ℕ) (powers : Powers ℕ) (waiting : List ℕ) → powers ≡ first_powers 𝓡 y → waiting ≡ []
      → left_from 0 (record { powers = powers; waiting = waiting }) ≡ walk_of 𝓡 parity basis lists (steps_from steps 0 count) y
  unfolding walk_of
  left_start y powers waiting e f = let all : count - 0 ≡ count = omega arith in rw (e, f, all)

  module _ (i : ℕ) (state : State ℕ) where
    one_more : i < count → steps_from steps i (count - i) ≡ step_at steps i ∷ steps_from steps (i + 1) (count - (i + 1))
    unfolding steps_from
    one_more h = let more : count - i ≡ suc (count - (i + 1)) = omega arith in rw more
        (ap (λ (k : ℕ). step_at steps i ∷ steps_from steps k (count - (i + 1))) (sym (add-one i)))

    pub left_done : count ≤ i → left_from i state ≡ one_left state.waiting
    unfolding run_of steps_from
    left_done h = let none_left : count - i ≡ 0 = omega arith in rw none_left

    -- step i, which is refused or leaves another state
    module _ (h : i < count) where
      stepped : left_from i state ≡ (step_of 𝓡 parity basis lists (step_at steps i) state then λ after. left_from (i + 1) after)
      unfolding run_of
      stepped = rw (one_more h) (then_assoc (step_of 𝓡 parity basis lists (step_at steps i) state) _ _)

      pub left_refused : none ≡ step_of 𝓡 parity basis lists (step_at steps i) state → none ≡ left_from i state
      left_refused e = sym (stepped ∙ rw (← e))

      pub left_next : (after : State ℕ) → some after ≡ step_of 𝓡 parity basis lists (step_at steps i) state
          → left_from (i + 1) after ≡ left_from i state
      left_next after e = sym (stepped ∙ rw (← e))
