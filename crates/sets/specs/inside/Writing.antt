-- What the writers of a set's steps ask for and leave (docs/RULES.md, "Sets of curves").
use Rattle.std.specs.Prelude.{◌≡◌, Bool, List, ℕ, ◌+◌, ◌*◌, ◌≤◌, length, take}
use Rattle.std.proofs.lemmas.List.Edits.{sets}
use Rattle.walk.specs.WalksHeld.{flat}
use Rattle.walk.specs.declared.plan.Head.{Head}
use Rattle.sets.specs.Own.{own_steps}
use Rattle.sets.specs.SetPlan.{member_steps, set_steps}
use Rattle.sets.specs.inside.Heads.{HeadFits, HeadsFit}
use Rattle.sets.specs.inside.Marking.{Common}

-- a member's steps have their places from step `step` on
pub record OwnFits (head : Head) (step : ℕ) (steps : List ℕ) : Type 0 where
  pub head_fits : HeadFits head
  pub places : 4 * (step + length (own_steps head)) ≤ length steps

-- they stand there, and r is the next step
pub record OwnPut (head : Head) (step : ℕ) (steps : List ℕ) (r : ℕ) (steps' : List ℕ) : Type 0 where
  pub numbers : steps' ≡ sets steps (4 * step) (flat (own_steps head))
  pub next : r ≡ step + length (own_steps head)

-- those of the first i members
abbrev pub steps_of : List Head → (i : ℕ) → List ℕ
steps_of heads i = flat (member_steps (take i heads))

abbrev pub steps_in : List Head → (i : ℕ) → ℕ
steps_in heads i = length (member_steps (take i heads))

-- all members' steps have their places from step `step` on
pub record MembersFit (heads : List Head) (step : ℕ) (steps : List ℕ) : Type 0 where
  pub heads_fit : HeadsFit heads
  pub places : 4 * (step + length (member_steps heads)) ≤ length steps

-- those of the first i members stand there, and r is the next step
pub record MembersPut (heads : List Head) (i step : ℕ) (steps : List ℕ) (r : ℕ) (steps' : List ℕ) : Type 0 where
  pub numbers : steps' ≡ sets steps (4 * step) (steps_of heads i)
  pub next : r ≡ step + steps_in heads i

-- ---- all steps

-- the common powers of the members are marked, and all steps of these members have their places
pub record SetStepsFit (heads : List Head) (marks : List Bool) (steps : List ℕ) : Type 0 where
  pub heads_fit : HeadsFit heads
  pub common : Common heads marks
  pub places : 4 * length (set_steps heads) ≤ length steps
