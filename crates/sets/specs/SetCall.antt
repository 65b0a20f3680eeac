-- The call that plans a set (docs/RULES.md, "Sets of curves" and "Refusals"): its tests in order, its answer, and what it leaves in the buffers.
use Rattle.std.specs.Prelude.{◌≡◌, not, ◌||◌, Result, List, [], ◌∷◌, ◌++◌, map, ℕ, ltb, eqb, ℤ, length}
use Rattle.std.proofs.lemmas.List.Edits.{sets}
use Rattle.number.specs.Refusal.{Test, first_refusal, unless_refused}
use Rattle.number.specs.Refused.{numbered}
use Rattle.number.specs.declared.refusal.Refusal.{Refusal}
use Rattle.lists.specs.Lists.{joined}
use Rattle.walk.specs.WalksHeld.{flat}
use Rattle.walk.specs.declared.plan.Head.{Head}
use Rattle.plan.specs.PlanCall.{early_tests, buffer_tests}
use Rattle.sets.specs.Members.{members_in, Curve, curves_in, handed_count, all_alike}
use Rattle.sets.specs.SetPlan.{heads_of, set_coefficients, set_steps, set_boundaries, member_limit, set_of, coefficient_count, list_count, set_step_count}
use Rattle.sets.specs.declared.member.Members.{Members}
use Rattle.sets.specs.declared.set.CurveSet.{CurveSet}

-- 35: "no member, more than 16, or lengths that pass the one slice in which the members stand"
abbrev pub bad_set : (members handed slice : ℕ) → Test
bad_set members handed slice = (eqb members 0 || (ltb member_limit members || ltb slice handed), 35)

-- 36: "if one of those settings differs"
abbrev pub unlike_members : Members → Test
unlike_members handed = (not (all_alike (members_in handed)), 36)

-- "the members' own refusals": those of a plan ahead of 21
abbrev pub own_tests : Curve → List Test
own_tests curve = early_tests curve.member.fold curve.member.parity curve.coefficients curve.member.a curve.member.b

-- "21, 22 and 23 come last, against the set's totals"
abbrev pub room_tests : List Head → (room boundaries numbers : ℕ) → List Test
room_tests heads = buffer_tests (coefficient_count heads) (list_count heads) (set_step_count heads)

-- an empty set: "its record all zero"
abbrev pub no_set : CurveSet
no_set = set_of []

-- ---- the answer

-- 0 or the number of the refusal, and the set, which is all zero after a refusal
pub record SetPlanned : Type 0 where
  pub refusal : ℕ
  pub set : CurveSet

-- the answer that a call's result is
abbrev pub set_in : Result CurveSet Refusal → SetPlanned
set_in = numbered (λ (set : CurveSet). record { refusal = 0; set = set }) (λ (refusal : ℕ). record { refusal = refusal; set = no_set })

module _ (handed : Members) (c : List ℤ) where
  -- the curves, and their heads
  abbrev pub curves : List Curve
  curves = curves_in (members_in handed) c

  abbrev pub heads : List Head
  heads = heads_of curves

  -- 35, 36, the members' own in member order
  abbrev pub ahead_tests : List Test
  ahead_tests =
      bad_set handed.count (handed_count (members_in handed)) (length c) ∷ unlike_members handed ∷ joined (map own_tests curves)

  -- a set is accepted if it passes them all
  abbrev pub SetAccepted : Type 0
  SetAccepted = first_refusal ahead_tests ≡ 0

  module _ (out : List ℤ) (bounds steps : List ℕ) where
    -- those, then 21, 22, 23
    abbrev pub set_tests : List Test
    set_tests = ahead_tests ++ room_tests heads (length out) (length bounds) (length steps)

    unfoldable pub set_refusal : ℕ
    set_refusal = first_refusal set_tests

    -- the answer
    unfoldable pub set_answer : SetPlanned
    set_answer = unless_refused set_refusal (record { refusal = 0; set = set_of heads }) (record { refusal = set_refusal; set = no_set })

    -- the buffers: the set in their first places, and the places beyond unchanged; after a refusal all of them unchanged
    unfoldable pub set_coefficients_left : List ℤ
    set_coefficients_left = unless_refused set_refusal (sets out 0 (set_coefficients curves)) out

    unfoldable pub set_boundaries_left : List ℕ
    set_boundaries_left = unless_refused set_refusal (sets bounds 0 (set_boundaries heads)) bounds

    unfoldable pub set_numbers_left : List ℕ
    set_numbers_left = unless_refused set_refusal (sets steps 0 (flat (set_steps heads))) steps

    -- what a call says, and what it leaves in the three buffers
    pub record SetCall (r : SetPlanned) (out' : List ℤ) (bounds' steps' : List ℕ) : Type 0 where
      pub answer : r ≡ set_answer
      pub coefficients : out' ≡ set_coefficients_left
      pub boundaries : bounds' ≡ set_boundaries_left
      pub numbers : steps' ≡ set_numbers_left
