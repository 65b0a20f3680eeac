-- The walk of a lent plan: a head and three buffers, at a point. What stands beyond the head's counts is not read.
use Rattle.std.specs.Prelude.{Bool, ◌&&◌, List, [], ◌∷◌, ℕ, zero, suc, ◌+◌, ◌*◌, ◌/◌, leb, ℤ, length, take, get_or}
use Rattle.std.proofs.Math.Option.{Option, some}
use Rattle.number.specs.Options.{◌then◌, when}
use Rattle.walk.specs.Rules.{Rules, exact_rules}
use Rattle.walk.specs.State.{Lists}
use Rattle.walk.specs.Walk.{walk_of}
use Rattle.walk.specs.Boundaries.{rises, list_at}
use Rattle.walk.specs.declared.plan.Step.{Step}
use Rattle.walk.specs.declared.plan.Head.{Head}

-- step i of a buffer stands from place 4·i on
abbrev pub step_at : (buffer : List ℕ) (i : ℕ) → Step
step_at buffer i =
    record { kind = get_or buffer (4 * i) 0; x = get_or buffer (4 * i + 1) 0; y = get_or buffer (4 * i + 2) 0; z = get_or buffer (4 * i + 3) 0 }

-- the steps i, i + 1, .., n of them
unfoldable pub steps_from : (buffer : List ℕ) (i n : ℕ) → List Step
steps_from buffer i zero = []
steps_from buffer i (suc n) = step_at buffer i ∷ steps_from buffer (suc i) n

-- the steps and lists that the head counts
abbrev pub lent_steps : Head → (steps : List ℕ) → List Step
lent_steps head steps = steps_from steps 0 head.steps

abbrev pub lent_lists : Head → (coefficients : List ℤ) (bounds : List ℕ) → Lists
lent_lists head coefficients bounds = list_at (take head.coefficients coefficients) (take head.lists bounds)

-- whether the head's counts are within buffers of c, b and s places, a step taking four
abbrev pub counts_fit : Head → (c b s : ℕ) → Bool
counts_fit head c b s = leb head.coefficients c && (leb head.lists b && leb head.steps (s / 4))

-- whether the boundaries of the head's lists rise from 0 within its coefficients
abbrev pub bounds_rise : Head → (bounds : List ℕ) → Bool
bounds_rise head bounds = rises 0 head.coefficients (take head.lists bounds)

-- the walk, from power 1 to the value that the transform's output makes of the one that is left
unfoldable pub lent_walk : {A : Type 0} → Rules A → Head → List ℤ → (bounds steps : List ℕ) → (point : ℤ) → Option A
lent_walk 𝓡 head coefficients bounds steps point =
    when (counts_fit head (length coefficients) (length bounds) (length steps) && bounds_rise head bounds)
    (walk_of 𝓡 head.parity head.basis (lent_lists head coefficients bounds) (lent_steps head steps)
    (𝓡.input head.transform (𝓡.point point))
    then λ v. some (𝓡.output head.transform (𝓡.point point) v))

-- the exact walk
abbrev pub exact_walk : Head → List ℤ → (bounds steps : List ℕ) → (point : ℤ) → Option ℤ
exact_walk = lent_walk exact_rules
