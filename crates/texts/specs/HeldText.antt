-- The text of buffers that hold a plan is that of its lists and steps: so what is printed of a planned polynomial is the plan.
use Rattle.std.specs.Prelude.{◌≡◌, List, ℕ, ℤ}
use Rattle.walk.specs.WalksHeld.{Holds}
use Rattle.walk.specs.declared.plan.Head.{Head}
use Rattle.walk.specs.declared.plan.Step.{Step}
use Rattle.texts.specs.PlanText.{lines_of, plan_lines}

abbrev pub HeldText : Type 0
HeldText = (head : Head) (coefficients : List ℤ) (bounds steps : List ℕ) (lists : List (List ℤ)) (planned : List Step)
    → Holds head coefficients bounds steps lists planned → plan_lines head coefficients bounds steps ≡ lines_of head lists planned
