-- The set calls, for C: each is its call's own answer for the members that are meant, flat, with its own buffers; or refusal 43 with zeros, and the
-- buffers unchanged.
use Rattle.std.specs.Prelude.{◌≡◌, Bool, List, ℕ, ℤ}
use Rattle.plan.specs.PlanSizes.{no_sizes}
use Rattle.sets.specs.SetCall.{set_answer, set_coefficients_left, set_boundaries_left, set_numbers_left}
use Rattle.sets.specs.SetSizes.{set_sizes_call}
use Rattle.sets.specs.declared.member.Members.{Members}
use Rattle.flat.specs.Unknown.{unknown_kind, when_known}
use Rattle.flat.specs.Flat.{flat_sizes}
use Rattle.flat.specs.Sets.{members_meant, knows_members, flat_set_planned, no_set_planned}
use Rattle.flat.specs.declared.flat.CSizes.{CSizes}
use Rattle.flat.specs.declared.members.CMembers.{CMembers}
use Rattle.flat.specs.declared.planned_set.CSetPlanned.{CSetPlanned}

module _ (members : CMembers) (c out : List ℤ) (bounds steps : List ℕ) where
  abbrev known : Bool
  known = knows_members members

  -- what a definition says of the members that are meant
  abbrev planned : {X : Type 0} → (Members → List ℤ → List ℤ → List ℕ → List ℕ → X) → X
  planned of = of (members_meant members) c out bounds steps

  pub record SetFlat (r : CSetPlanned) (out' : List ℤ) (bounds' steps' : List ℕ) : Type 0 where
    pub answer : r ≡ when_known known (flat_set_planned (planned set_answer)) no_set_planned
    pub coefficients : out' ≡ when_known known (planned set_coefficients_left) out
    pub boundaries : bounds' ≡ when_known known (planned set_boundaries_left) bounds
    pub numbers : steps' ≡ when_known known (planned set_numbers_left) steps

-- the sizes are those of the members that are meant
abbrev pub set_sizes_flat : CMembers → CSizes
set_sizes_flat members = when_known (knows_members members) (flat_sizes (set_sizes_call (members_meant members))) (flat_sizes (no_sizes unknown_kind))
