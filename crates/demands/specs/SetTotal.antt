-- Request Q-10: how the call ends on any arguments, and its refusals. "It refuses with 35 for no member, more than 16, or lengths that pass the one slice
-- in which the members stand, then with 36 if one of those settings differs, ahead of the members' own refusals in member order; 21, 22 and 23 come last,
-- against the set's totals."
use Rattle.std.specs.Prelude.{◌≡◌, ◌↔◌, ℕ, ◌<◌, ℤ, length, replicate}
use mathlib.Core.List.{List, [], ◌∷◌, ◌++◌, map, Memᴰ}
use Rattle.number.specs.Interval.{Ordered}
use Rattle.number.specs.Refusal.{first_refusal}
use Rattle.lists.specs.Lists.{joined}
use Rattle.walk.specs.declared.plan.Head.{Head}
use Rattle.plan.specs.PlanHead.{no_head}
use Rattle.plan.specs.PlanCall.{Accepted, PlanCall, Planned}
use Rattle.sets.specs.Members.{members_in, Curve, handed_count}
use Rattle.sets.specs.SetPlan.{member_limit, heads_of}
use Rattle.sets.specs.SetCall.{curves, own_tests, room_tests, set_tests, SetAccepted, SetCall, SetPlanned}
use Rattle.sets.specs.declared.member.Member.{Member}
use Rattle.sets.specs.declared.member.Members.{Members}
use Rattle.sets.specs.declared.set.CurveSet.{CurveSet}
use Rattle.demands.specs.Total.{Ends, numbers_of, ZeroHead}
use Rattle.demands.specs.SetAccepts.{SameSettings, BringsSet}
use Rattle.demands.specs.SetRight.{SetRight}

-- ---- any arguments

-- a set that is all zero, in its 16 heads, too
pub record ZeroSet (set : CurveSet) : Type 0 where
  pub ct : set.ct ≡ 0
  pub pt : set.pt ≡ 0
  pub powers : set.powers ≡ 0
  pub heads : set.heads ≡ replicate member_limit no_head
  pub zero_heads : (head : Head) → Memᴰ head set.heads → ZeroHead head

pub record SetRefused (set : CurveSet) (out out' : List ℤ) (bounds bounds' steps steps' : List ℕ) : Type 0 where
  pub zero_set : ZeroSet set
  pub coefficients : out' ≡ out
  pub boundaries : bounds' ≡ bounds
  pub numbers : steps' ≡ steps

-- a plan of the set, which is right (specs/SetRight), or a refusal
abbrev pub SetsTotal : Type 0
SetsTotal = (handed : Members) (c out : List ℤ) (bounds steps : List ℕ) (r : SetPlanned) (out' : List ℤ) (bounds' steps' : List ℕ)
    → SetCall handed c out bounds steps r out' bounds' steps'
    → Ends (set_tests handed c out bounds steps) r.refusal (SetRight handed c out bounds steps r out' bounds' steps')
    (SetRefused r.set out out' bounds bounds' steps steps')

-- an accepted set with long enough buffers gets a plan, and nothing else does
abbrev pub SetsMade : Type 0
SetsMade = (handed : Members) (c out : List ℤ) (bounds steps : List ℕ) (r : SetPlanned) (out' : List ℤ) (bounds' steps' : List ℕ)
    → SetCall handed c out bounds steps r out' bounds' steps' → (r.refusal ≡ 0) ↔ BringsSet handed c out bounds steps

-- ---- the refusals

-- the numbers in order: 35, 36, "ahead of the members' own refusals in member order; 21, 22 and 23 come last"
abbrev pub SetOrder : Type 0
SetOrder = (handed : Members) (c out : List ℤ) (bounds steps : List ℕ)
    → numbers_of (set_tests handed c out bounds steps)
    ≡ 35 ∷ 36 ∷ (joined (map (λ (curve : Curve). numbers_of (own_tests curve)) (curves handed c)) ++ (21 ∷ 22 ∷ 23 ∷ []))

-- "no member, more than 16, or lengths that pass the one slice in which the members stand"
pub data BadSet (handed : Members) (c : List ℤ) : Type 0 where
  no_member_lem : handed.count ≡ 0 → BadSet handed c
  too_many : member_limit < handed.count → BadSet handed c
  past_slice : length c < handed_count (members_in handed) → BadSet handed c

-- "if one of those settings differs"
pub record Unlike (handed : Members) : Type 0 where
  pub one : Member
  pub other : Member
  pub one_in : Memᴰ one (members_in handed)
  pub other_in : Memᴰ other (members_in handed)
  pub differ : SameSettings one other → ⊥

-- a call's refusal r, told from its arguments
pub record RefusalsTold (handed : Members) (c out : List ℤ) (bounds steps : List ℕ) (r : ℕ) : Type 0 where
  pub bad_set_lem : (r ≡ 35) ↔ BadSet handed c
  pub unlike : (r ≡ 36) ↔ ((BadSet handed c → ⊥) × Unlike handed)
  -- the first member that a plan call refuses ahead of 21, whatever buffers that call is lent, is refused with the same number
  pub own : (BadSet handed c → ⊥) → (Unlike handed → ⊥) → (before after : List Curve) (curve : Curve) → curves handed c ≡ before ++ (curve ∷ after)
      → ((one : Curve) → Memᴰ one before
      → Accepted one.member.fold one.member.parity one.coefficients × Ordered one.member.a one.member.b)
      → (out₁ : List ℤ) (bounds₁ steps₁ : List ℕ) (alone : Planned) (out₂ : List ℤ) (bounds₂ steps₂ : List ℕ)
      → PlanCall curve.member.strategy curve.member.parity curve.member.basis curve.member.fold curve.coefficients
      curve.member.a curve.member.b out₁ bounds₁ steps₁ alone out₂ bounds₂ steps₂
      → 0 < alone.refusal → alone.refusal < 21 → r ≡ alone.refusal
  -- an accepted set is refused only for its buffers, by the set's totals
  pub late : SetAccepted handed c → r ≡ first_refusal (room_tests (heads_of (curves handed c)) (length out) (length bounds) (length steps))

abbrev pub SetRefusalsTold : Type 0
SetRefusalsTold = (handed : Members) (c out : List ℤ) (bounds steps : List ℕ) (r : SetPlanned) (out' : List ℤ) (bounds' steps' : List ℕ)
    → SetCall handed c out bounds steps r out' bounds' steps' → RefusalsTold handed c out bounds steps r.refusal
