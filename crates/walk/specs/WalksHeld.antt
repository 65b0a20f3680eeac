-- A plan as it stands in lent buffers: its lists one after another, their boundaries, its steps of four numbers; behind them anything. The walk
-- of such buffers is the walk of the lists and steps.
use Rattle.std.specs.Prelude.{◌≡◌, List, [], ◌∷◌, ◌++◌, ℕ, ◌<◌, ltb, ℤ, length, get_or}
use Rattle.std.proofs.Math.Option.{some}
use Rattle.number.specs.Options.{◌then◌, when}
use Rattle.walk.specs.Rules.{Rules}
use Rattle.walk.specs.State.{Lists}
use Rattle.walk.specs.Walk.{walk_of}
use Rattle.walk.specs.Lent.{lent_walk}
use Rattle.lists.specs.Lists.{joined, ends_from}
use Rattle.walk.specs.declared.plan.Step.{Step}
use Rattle.walk.specs.declared.plan.Head.{Head}

-- the numbers of the steps, one step after another
unfoldable pub flat : List Step → List ℕ
flat [] = []
flat (step ∷ steps) = step.kind ∷ step.x ∷ step.y ∷ step.z ∷ flat steps

-- no list is empty
pub data Filled {A : Type 0} : List (List A) → Type 0 where
  empty : Filled []
  more : {list : List A} {lists : List (List A)} → 0 < length list → Filled lists → Filled (list ∷ lists)

-- list i, if there is one
abbrev pub numbered : List (List ℤ) → Lists
numbered lists i = when (ltb i (length lists)) (some (get_or lists i []))

-- a head and three buffers hold these lists and steps
pub record Holds (head : Head) (coefficients : List ℤ) (bounds steps : List ℕ) (lists : List (List ℤ)) (planned : List Step) : Type 0 where
  pub coefficient_count_lem : head.coefficients ≡ length (joined lists)
  pub list_count_lem : head.lists ≡ length lists
  pub step_count_lem : head.steps ≡ length planned
  pub filled : Filled lists
  -- what stands behind them
  pub more_coefficients : List ℤ
  pub more_bounds : List ℕ
  pub more_steps : List ℕ
  pub coefficients_are : coefficients ≡ joined lists ++ more_coefficients
  pub bounds_are : bounds ≡ ends_from 0 lists ++ more_bounds
  pub steps_are : steps ≡ flat planned ++ more_steps

abbrev pub WalksHeld : Type 0 → Type 0
WalksHeld A = (𝓡 : Rules A) (head : Head) (coefficients : List ℤ) (bounds steps : List ℕ) (lists : List (List ℤ)) (planned : List Step) (point : ℤ)
    → Holds head coefficients bounds steps lists planned
    → lent_walk 𝓡 head coefficients bounds steps point
    ≡ (walk_of 𝓡 head.parity head.basis (numbered lists) planned (𝓡.input head.transform (𝓡.point point))
    then λ v. some (𝓡.output head.transform (𝓡.point point) v))
