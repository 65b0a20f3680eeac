-- Whether a lent plan can be walked is a matter of the plan alone: neither the rules nor the point count.
use Rattle.std.specs.Prelude.{◌≡◌, List, ℕ, ℤ}
use Rattle.number.specs.Options.{missing}
use Rattle.walk.specs.Rules.{Rules}
use Rattle.walk.specs.Lent.{lent_walk}
use Rattle.walk.specs.declared.plan.Head.{Head}

-- two walks of one plan both have a value, or neither has
abbrev pub RunsAlike : (A B : Type 0) → Type 0
RunsAlike A B = (𝓡 : Rules A) (𝓢 : Rules B) (head : Head) (coefficients : List ℤ) (bounds steps : List ℕ) (point other : ℤ)
    → missing (lent_walk 𝓡 head coefficients bounds steps point) ≡ missing (lent_walk 𝓢 head coefficients bounds steps other)
