-- Every number of a step and every boundary of a set is at most 4,096, so that a u16 holds it (docs/RULES.md, "Steps").
use Rattle.std.specs.Prelude.{List}
use Rattle.walk.specs.WalksHeld.{flat}
use Rattle.walk.specs.declared.plan.Head.{Head}
use Rattle.sets.specs.Members.{Curve}
use Rattle.sets.specs.SetPlan.{heads_of, set_steps, set_boundaries}
use Rattle.demands.specs.Fits.{Small}
use Rattle.demands.specs.SetAccepts.{GoodSet}

pub record SetFits (heads : List Head) : Type 0 where
  pub boundaries : Small (set_boundaries heads)
  pub numbers : Small (flat (set_steps heads))

abbrev pub SetsFit : Type 0
SetsFit = (curves : List Curve) → GoodSet curves → SetFits (heads_of curves)
