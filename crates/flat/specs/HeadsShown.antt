-- Every head is shown by a head of numbers that is known and means it: what the plan call answers, the trial walk and the heaviest chain take as it
-- was meant.
use Rattle.std.specs.Prelude.{◌≡◌, true}
use Rattle.walk.specs.declared.plan.Head.{Head}
use Rattle.flat.specs.Heads.{flat_head, head_meant, knows_head}

pub record Shown (h : Head) : Type 0 where
  pub accepted : knows_head (flat_head h) ≡ true
  pub same : head_meant (flat_head h) ≡ h

abbrev pub HeadsShown : Type 0
HeadsShown = (h : Head) → Shown h
