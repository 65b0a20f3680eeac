-- Request Q-10: "At every whole number, each member's walk after the common powers gives that member's value." It is said of the steps, of every buffer
-- that holds a set, and of the call.
use Rattle.std.specs.Prelude.{◌≡◌, cond, ℕ, zero, suc, ◌+◌, ◌*◌, eqb, ℤ, take, drop}
use mathlib.Core.List.{List, [], ◌∷◌, ◌++◌, map, Memᴰ}
use Rattle.std.proofs.Math.Option.{some}
use Rattle.algebra.specs.Operations.{whole_ops}
use Rattle.algebra.specs.Value.{value}
use Rattle.algebra.specs.Transform.{input_of, output_of}
use Rattle.number.specs.Options.{◌then◌}
use Rattle.lists.specs.Lists.{ends_from}
use Rattle.walk.specs.Rules.{exact_rules}
use Rattle.walk.specs.Walk.{walk_of}
use Rattle.walk.specs.Lent.{lent_lists, lent_steps}
use Rattle.walk.specs.WalksHeld.{flat, numbered}
use Rattle.walk.specs.declared.plan.Head.{Head}
use Rattle.walk.specs.declared.plan.Step.{Step}
use Rattle.plan.specs.PlanSteps.{make_step}
use Rattle.plan.specs.Reported.{of_kind}
use Rattle.plan.specs.PlanCall.{Accepted, boundaries_for}
use Rattle.sets.specs.Members.{Curve}
use Rattle.sets.specs.Own.{own_powers, own_steps, own_boundaries, with_steps, member_head}
use Rattle.sets.specs.SetPlan.{heads_of, set_coefficients, common_steps, set_steps, set_boundaries, set_of, coefficient_count, list_count, own_step_count}
use Rattle.sets.specs.SetPlan.{set_step_count}
use Rattle.sets.specs.SetCall.{curves, SetCall, SetPlanned}
use Rattle.sets.specs.declared.member.Members.{Members}
use Rattle.demands.specs.Right.{lists_for, steps_for, WalksRight}
use Rattle.demands.specs.MadeBefore.{MadeBefore}
use Rattle.demands.specs.SetAccepts.{GoodSet, BringsSet}

-- ---- what a member has of its own

-- its lists are those of its plan alone
abbrev pub member_lists : Curve → List (List ℤ)
member_lists curve =
    lists_for curve.member.strategy curve.member.parity curve.member.basis curve.member.fold curve.coefficients

-- the numbers of the lists that steps load, in order
unfoldable pub loaded_in : List Step → List ℕ
loaded_in [] = []
loaded_in (step ∷ steps) = cond (eqb step.kind 2) (step.x ∷ loaded_in steps) (loaded_in steps)

-- n, n + 1, .., as many as the last argument says
unfoldable pub counted_from : (n count : ℕ) → List ℕ
counted_from n zero = []
counted_from n (suc count) = n ∷ counted_from (suc n) count

-- a member's steps and boundaries are those of its plan alone, power steps apart
pub record AsAlone (curve : Curve) : Type 0 where
  pub steps : steps_for curve.member.strategy curve.member.parity curve.member.basis curve.member.fold curve.coefficients
      ≡ map make_step (own_powers (member_head curve)) ++ own_steps (member_head curve)
  pub no_powers : of_kind 1 (own_steps (member_head curve)) ≡ 0
  pub boundaries : own_boundaries (member_head curve)
      ≡ boundaries_for curve.member.strategy curve.member.parity curve.member.basis curve.member.fold curve.coefficients
  -- "Each member's boundaries and list numbers begin afresh at 0."
  pub boundaries_afresh : own_boundaries (member_head curve) ≡ ends_from 0 (member_lists curve)
  pub numbers_afresh : loaded_in (own_steps (member_head curve)) ≡ counted_from 0 (member_head curve).lists

abbrev pub MembersAsAlone : Type 0
MembersAsAlone = (curve : Curve) → Accepted curve.member.fold curve.member.parity curve.coefficients → AsAlone curve

-- ---- the steps

-- the common power steps, and behind them a member's loads and combines
abbrev pub steps_with_powers : List Curve → Curve → List Step
steps_with_powers curves curve = common_steps (heads_of curves) ++ own_steps (member_head curve)

-- the walk starts from the transform's y, and the transform's output is made of what it leaves
abbrev pub MembersRight : Type 0
MembersRight = (curves : List Curve) (curve : Curve) (x : ℤ) → GoodSet curves → Memᴰ curve curves
    → (walk_of exact_rules (member_head curve).parity (member_head curve).basis (numbered (member_lists curve)) (steps_with_powers curves curve)
    (input_of whole_ops (member_head curve).transform x)
    then λ v. some (output_of whole_ops (member_head curve).transform x v))
    ≡ some (value whole_ops curve.member.basis x curve.coefficients)

-- ---- the buffers of a set

-- buffers with a set in their first places, and behind it anything
pub record SetStored (curves : List Curve) (coefficients : List ℤ) (bounds steps : List ℕ) : Type 0 where
  pub more_coefficients : List ℤ
  pub more_bounds : List ℕ
  pub more_steps : List ℕ
  pub coefficients_are : coefficients ≡ set_coefficients curves ++ more_coefficients
  pub bounds_are : bounds ≡ set_boundaries (heads_of curves) ++ more_bounds
  pub steps_are : steps ≡ flat (set_steps (heads_of curves)) ++ more_steps

-- ---- the plan of one member, put together from what a set has: the number of power steps, the heads of the members before it, and its own head

-- its head, with the power steps counted
abbrev pub composed_head : (powers : ℕ) → Head → Head
composed_head powers head = with_steps (powers + head.steps) head

-- its part of the coefficients and of the boundaries
abbrev pub own_coefficients : (before : List Head) → Head → List ℤ → List ℤ
own_coefficients before head coefficients = take head.coefficients (drop (coefficient_count before) coefficients)

abbrev pub own_bounds : (before : List Head) → Head → List ℕ → List ℕ
own_bounds before head bounds = take head.lists (drop (list_count before) bounds)

-- the power steps, followed by its part of the other steps
abbrev pub composed_steps : (powers : ℕ) → (before : List Head) → Head → List ℕ → List ℕ
composed_steps powers before head steps = take (4 * powers) steps ++ take (4 * head.steps) (drop (4 * (powers + own_step_count before)) steps)

-- such a plan of a curve, put together from buffers, is right
module _ (powers : ℕ) (before : List Head) (curve : Curve) (coefficients : List ℤ) (bounds steps : List ℕ) where
  abbrev composed : Head
  composed = composed_head powers (member_head curve)

  abbrev lists : List ℤ
  lists = own_coefficients before (member_head curve) coefficients

  abbrev ends : List ℕ
  ends = own_bounds before (member_head curve) bounds

  abbrev numbers : List ℕ
  numbers = composed_steps powers before (member_head curve) steps

  pub record ComposedRight : Type 0 where
    -- whatever stands behind it in its buffers, its walk gives the curve's value, the trial walk at every modulus its remainder, and 24 is never said
    pub walks : (x : ℤ) (more : List ℤ) (more_bounds more_steps : List ℕ)
        → WalksRight composed (lists ++ more) (ends ++ more_bounds) (numbers ++ more_steps) curve.member.basis curve.coefficients x
    -- each of its steps uses only powers that earlier steps made
    pub made_before : MadeBefore composed.parity composed.basis (lent_lists composed lists ends) (lent_steps composed numbers)

-- so it is with each member of a set, wherever the set is stored
abbrev pub SetStoredRight : Type 0
SetStoredRight = (curves before after : List Curve) (curve : Curve) (coefficients : List ℤ) (bounds steps : List ℕ) → GoodSet curves
    → curves ≡ before ++ (curve ∷ after) → SetStored curves coefficients bounds steps
    → ComposedRight (set_of (heads_of curves)).powers (heads_of before) curve coefficients bounds steps

-- ---- the call

-- of an accepted set the call leaves the plan in long enough buffers, and the places beyond are as they were
pub record SetRight (handed : Members) (c out : List ℤ) (bounds steps : List ℕ) (r : SetPlanned) (out' : List ℤ) (bounds' steps' : List ℕ)
    : Type 0 where
  pub answer : r ≡ record { refusal = 0; set = set_of (heads_of (curves handed c)) }
  pub stored : SetStored (curves handed c) out' bounds' steps'
  pub coefficients_beyond : stored.more_coefficients ≡ drop (coefficient_count (heads_of (curves handed c))) out
  pub bounds_beyond : stored.more_bounds ≡ drop (list_count (heads_of (curves handed c))) bounds
  pub steps_beyond : stored.more_steps ≡ drop (4 * set_step_count (heads_of (curves handed c))) steps
  pub members : (before after : List Curve) (curve : Curve) → curves handed c ≡ before ++ (curve ∷ after)
      → ComposedRight r.set.powers (heads_of before) curve out' bounds' steps'

abbrev pub SetsRight : Type 0
SetsRight = (handed : Members) (c out : List ℤ) (bounds steps : List ℕ) (r : SetPlanned) (out' : List ℤ) (bounds' steps' : List ℕ)
    → BringsSet handed c out bounds steps → SetCall handed c out bounds steps r out' bounds' steps'
    → SetRight handed c out bounds steps r out' bounds' steps'
