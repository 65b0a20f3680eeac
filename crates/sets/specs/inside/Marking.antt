-- The common powers worked out as marks (docs/RULES.md, "Sets of curves").
use Rattle.std.specs.Prelude.{◌≡◌, ◌⊎◌, ◌↔◌, Bool, true, List, [], ◌∷◌, ℕ, ◌≤◌, ◌<◌, length, take}
use Rattle.algebra.specs.declared.Parity.{Parity}
use Rattle.number.specs.Limits.{count_limit}
use Rattle.needed.specs.Needed.{Target}
use Rattle.needed.specs.NeededList.{is_target}
use Rattle.needed.specs.inside.Marks.{Marked, marked_from}
use Rattle.walk.specs.declared.plan.Head.{Head}
use Rattle.sets.specs.Own.{own_split}
use Rattle.sets.specs.SetPlan.{set_powers}
use Rattle.sets.specs.inside.Heads.{HeadsFit}

-- the powers below n that are needed at once are marked too, and nothing else
pub record PlacesAdded (parity : Parity) (top limit n : ℕ) (marks marks' : List Bool) : Type 0 where
  pub size : length marks' ≡ count_limit
  pub marked : (m : ℕ) → Marked marks' m ↔ (Marked marks m ⊎ ((m < n) × (is_target parity top limit m ≡ true)))

-- a member needs power n at once
abbrev pub OwnTarget : Head → (n : ℕ) → Type 0
OwnTarget head n = Target head.parity head.degree (own_split head) n

-- the powers that a member needs at once are marked too, and nothing else
pub record TargetsAdded (head : Head) (marks marks' : List Bool) : Type 0 where
  pub size : length marks' ≡ count_limit
  pub marked : (n : ℕ) → Marked marks' n ↔ (Marked marks n ⊎ OwnTarget head n)

-- one of some members needs power n at once
abbrev pub TargetIn : List Head → (n : ℕ) → Type 0
TargetIn [] n = ⊥
TargetIn (head ∷ heads) n = OwnTarget head n ⊎ TargetIn heads n

-- the powers that one of the first i members needs at once are marked, and nothing else
pub record TargetsUpto (heads : List Head) (i : ℕ) (marks : List Bool) : Type 0 where
  pub size : length marks ≡ count_limit
  pub marked : (n : ℕ) → Marked marks n ↔ TargetIn (take i heads) n

-- the marked places are the members' common powers
pub record Common (heads : List Head) (marks : List Bool) : Type 0 where
  pub size : length marks ≡ count_limit
  pub powers : marked_from 0 marks ≡ set_powers heads

-- they are counted
pub record PowersCounted (heads : List Head) (powers : ℕ) : Type 0 where
  pub heads_fit : HeadsFit heads
  pub powers_are : powers ≡ length (set_powers heads)
  pub powers_most : powers ≤ count_limit
