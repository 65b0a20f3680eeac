-- The sizes of a set before its curves are there: what the totals of members' settings and lengths say of every call that plans these members as a set,
-- and how much room is enough for every set.
use Rattle.std.specs.Prelude.{◌≡◌, ◌↔◌, ℕ, ◌+◌, ◌≤◌, ◌<◌, ℤ, length}
use mathlib.Core.List.{List, ◌∷◌, ◌++◌, map, Memᴰ}
use Rattle.number.specs.Interval.{Ordered}
use Rattle.number.specs.Refusal.{first_refusal}
use Rattle.lists.specs.Lists.{joined}
use Rattle.plan.specs.PlanCall.{Accepted, buffer_tests}
use Rattle.plan.specs.PlanSizes.{no_sizes, HasSizes, PlanSizes}
use Rattle.sets.specs.Members.{members_in, Curve, handed_count}
use Rattle.sets.specs.Own.{head_by}
use Rattle.sets.specs.SetPlan.{coefficient_count, list_count, own_step_count}
use Rattle.sets.specs.SetCall.{curves, ahead_tests, SetAccepted, SetCall, SetPlanned}
use Rattle.sets.specs.SetSizes.{member_settings_tests, set_sizes_tests, set_sizes_of, set_sizes_call}
use Rattle.sets.specs.declared.member.Member.{Member}
use Rattle.sets.specs.declared.member.Members.{Members}
use Rattle.sets.specs.declared.set.CurveSet.{CurveSet}
use Rattle.demands.specs.Total.{Ends, numbers_of}

-- the totals that a set's record tells; the zero heads beyond the members add nothing
abbrev pub set_sizes_in : CurveSet → PlanSizes
set_sizes_in set = record {
  refusal = 0;
  coefficients = coefficient_count set.heads;
  lists = list_count set.heads;
  steps = set.powers + own_step_count set.heads;
}

-- the sizes of members, held against a call that plans them: its buffers and its answer r
pub record SetSized (handed : Members) (c out : List ℤ) (bounds steps : List ℕ) (sizes : PlanSizes) (r : SetPlanned) : Type 0 where
  -- the record of a planned set tells these sizes
  pub record_sizes : r.refusal ≡ 0 → set_sizes_in r.set ≡ sizes
  -- a set that passes every test ahead of 21 is planned exactly if the three buffers are at least as long
  pub planned_if_long : SetAccepted handed c → (r.refusal ≡ 0) ↔ HasSizes sizes (length out) (length bounds) (length steps)
  -- else the first buffer that is shorter is refused
  pub short_refused : SetAccepted handed c → r.refusal
      ≡ first_refusal (buffer_tests sizes.coefficients sizes.lists sizes.steps (length out) (length bounds) (length steps))
  -- and buffers as long are never refused, whatever curves and intervals: the tests ahead of 21 decide
  pub long_decides : HasSizes sizes (length out) (length bounds) (length steps) → r.refusal ≡ first_refusal (ahead_tests handed c)
  -- lengths that pass the slice are refused with 35, whatever the sizes say
  pub past_slice : length c < handed_count (members_in handed) → r.refusal ≡ 35
  -- members that are refused here are refused there
  pub refused_too : 0 < sizes.refusal → 0 < r.refusal
  -- within the slice 35 and 36 are the same number there
  pub same_set_refusal : handed_count (members_in handed) ≤ length c → 35 ≤ sizes.refusal → r.refusal ≡ sizes.refusal
  -- and so are 2, 1, 5 and 6 of a member's settings, unless there a member before it is refused for its coefficients or its interval
  pub same_refusal : handed_count (members_in handed) ≤ length c → (before after : List Curve) (curve : Curve) → curves handed c ≡ before ++ (curve ∷ after)
      → ((one : Curve) → Memᴰ one before
      → Accepted one.member.fold one.member.parity one.coefficients × Ordered one.member.a one.member.b)
      → 0 < first_refusal (member_settings_tests curve.member) → r.refusal ≡ sizes.refusal

abbrev pub SetsSized : Type 0
SetsSized = (handed : Members) (c out : List ℤ) (bounds steps : List ℕ) (r : SetPlanned) (out' : List ℤ) (bounds' steps' : List ℕ)
    → SetCall handed c out bounds steps r out' bounds' steps' → SetSized handed c out bounds steps (set_sizes_call handed) r

-- on any members the sizes call ends with the totals, or with a refusal and zeros
abbrev pub SetSizesTotal : Type 0
SetSizesTotal = (handed : Members)
    → Ends (set_sizes_tests handed) (set_sizes_call handed).refusal (set_sizes_call handed ≡ set_sizes_of (map head_by (members_in handed)))
    (set_sizes_call handed ≡ no_sizes (set_sizes_call handed).refusal)

-- its refusal numbers, in order: 35, 36, then 2, 1, with folding 5, 6 of each member in member order
abbrev pub SetSizesOrder : Type 0
SetSizesOrder = (handed : Members)
    → numbers_of (set_sizes_tests handed)
    ≡ 35 ∷ 36 ∷ joined (map (λ (member : Member). numbers_of (member_settings_tests member)) (members_in handed))

-- ---- the room of the largest set

-- places for the coefficients, the boundaries and the numbers of the steps: 16 times as many as are kept for one plan
abbrev pub set_coefficient_room : ℕ
set_coefficient_room = 65536

abbrev pub set_boundary_room : ℕ
set_boundary_room = 65536

abbrev pub set_step_room : ℕ
set_step_room = 786432

pub record SetRoom : Type 0 where
  -- they hold every set
  pub enough : (handed : Members) → HasSizes (set_sizes_call handed) set_coefficient_room set_boundary_room set_step_room
  -- so a call that is lent so much never refuses with 21, 22 or 23: the tests ahead of them decide
  pub never_short : (handed : Members) (c out : List ℤ) (bounds steps : List ℕ) (r : SetPlanned) (out' : List ℤ) (bounds' steps' : List ℕ)
      → SetCall handed c out bounds steps r out' bounds' steps'
      → set_coefficient_room ≤ length out → set_boundary_room ≤ length bounds → set_step_room ≤ length steps
      → r.refusal ≡ first_refusal (ahead_tests handed c)
