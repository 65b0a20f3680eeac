-- Request Q-7: the interval in the head is not printed, so that the text of a plan is the same on any interval.
use Rattle.std.specs.Prelude.{◌≡◌, List, ℕ, ℤ}
use Rattle.walk.specs.IntervalUnread.{SameButInterval}
use Rattle.walk.specs.declared.plan.Head.{Head}
use Rattle.texts.specs.PlanText.{plan_text}

abbrev pub IntervalUnprinted : Type 0
IntervalUnprinted = (head other : Head) (coefficients : List ℤ) (bounds steps : List ℕ) → SameButInterval head other
    → plan_text head coefficients bounds steps ≡ plan_text other coefficients bounds steps
