-- Of a head the text has degree, base, transform, costs and what the counts say, and these are the same with another interval.
use mathlib.Core.Path.{◌≡◌, refl, ap, ◌∙◌}
use mathlib.Core.List.{List}
use Prim.Native.Nat.{ℕ}
use lib.IntN.{ℤ}
use Rattle.number.specs.declared.interval.Interval.{Interval}
use Rattle.walk.specs.IntervalUnread.{with_interval}
use Rattle.walk.specs.declared.plan.Head.{Head}
use Rattle.texts.specs.PlanText.{lines_of, plan_text}
use Rattle.texts.specs.IntervalUnprinted.{IntervalUnprinted}

unprinted : (interval : Interval) (head : Head) (coefficients : List ℤ) (bounds steps : List ℕ)
    → plan_text head coefficients bounds steps ≡ plan_text (with_interval interval head) coefficients bounds steps
unfolding lines_of
unprinted interval head coefficients bounds steps = refl

pub interval_unprinted : IntervalUnprinted
interval_unprinted head other coefficients bounds steps same =
    unprinted other.interval head coefficients bounds steps ∙ ap (λ (h : Head). plan_text h coefficients bounds steps) same
