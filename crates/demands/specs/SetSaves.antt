-- What a set saves: it never reports more multiplications of two encrypted numbers than the plans of its members alone report together. A power that two
-- members need is made once, and so is the y of folded members; of plain multiplications there are as many (specs/SetCounted).
use Rattle.std.specs.Prelude.{List, map, ◌≤◌}
use Rattle.walk.specs.declared.plan.Head.{Head}
use Rattle.sets.specs.Members.{total, Curve}
use Rattle.sets.specs.SetPlan.{heads_of, set_ct}
use Rattle.demands.specs.SetAccepts.{GoodSet}

-- a member's head has the counts of its plan alone
abbrev pub SetsSave : Type 0
SetsSave = (curves : List Curve) → GoodSet curves → set_ct (heads_of curves) ≤ total (map (λ (head : Head). head.ct) (heads_of curves))
