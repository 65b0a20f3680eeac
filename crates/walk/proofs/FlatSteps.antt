-- Steps as numbers, four a step, one step after another: what is read back are the steps, however the buffer goes on. By recursion on the steps.
use mathlib.Core.Path.{◌≡◌, refl, ◌∙◌, ap, ap₂}
use mathlib.Core.List.{List, [], ◌∷◌, ◌++◌}
use Prim.Native.Nat.{ℕ, zero, suc, ◌+◌, ◌*◌}
use native.Mathlib.Omega.{arith}
use lib.ListN.{length, get_or}
use Rattle.walk.specs.Lent.{step_at, steps_from}
use Rattle.walk.specs.WalksHeld.{flat}
use Rattle.walk.specs.declared.plan.Step.{Step}

-- each step is four numbers further on
step_later : (k x y z : ℕ) (buffer : List ℕ) (i : ℕ) → step_at (k ∷ x ∷ y ∷ z ∷ buffer) (suc i) ≡ step_at buffer i
step_later k x y z buffer i =
    let place : (j n : ℕ) → n ≡ suc (suc (suc (suc j))) → get_or (k ∷ x ∷ y ∷ z ∷ buffer) n 0 ≡ get_or buffer j 0 = λ j n e. rw e in
    rw (
      place (4 * i) (4 * suc i) (omega arith),
      place (4 * i + 1) (4 * suc i + 1) (omega arith),
      place (4 * i + 2) (4 * suc i + 2) (omega arith),
      place (4 * i + 3) (4 * suc i + 3) (omega arith),
    )

steps_later : (k x y z : ℕ) (buffer : List ℕ) (i n : ℕ) → steps_from (k ∷ x ∷ y ∷ z ∷ buffer) (suc i) n ≡ steps_from buffer i n
unfolding steps_from
steps_later k x y z buffer i zero = refl
steps_later k x y z buffer i (suc n) = ap₂ ◌∷◌ (step_later k x y z buffer i) (steps_later k x y z buffer (suc i) n)

-- what is read back are the steps
pub flat_steps : (steps : List Step) (rest : List ℕ) → steps_from (flat steps ++ rest) 0 (length steps) ≡ steps
unfolding flat steps_from
flat_steps [] rest = refl
flat_steps (step ∷ steps) rest =
    ap (step ∷◌) (steps_later step.kind step.x step.y step.z (flat steps ++ rest) 0 (length steps) ∙ flat_steps steps rest)

pub flat_length : (steps : List Step) → length (flat steps) ≡ 4 * length steps
unfolding flat
flat_length [] = refl
flat_length (step ∷ steps) = let tail = flat_length steps in omega arith

pub flat_append : (xs ys : List Step) → flat (xs ++ ys) ≡ flat xs ++ flat ys
unfolding flat
flat_append [] ys = refl
flat_append (x ∷ xs) ys = ap (λ (l : List ℕ). x.kind ∷ x.x ∷ x.y ∷ x.z ∷ l) (flat_append xs ys)
