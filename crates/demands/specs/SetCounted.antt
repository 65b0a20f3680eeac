-- Request Q-10: "Reported ct-ct is the size of the union plus all kind 3 steps, plus one when folded and, with TimesInput, one more for each member;
-- pt-ct is as in document 01, over all members."
use Rattle.std.specs.Prelude.{◌≡◌, true, false, ℕ, ◌+◌, ℤ, length, take, drop}
use mathlib.Core.List.{List, [], ◌∷◌, map, Memᴰ}
use Rattle.algebra.specs.declared.Parity.TheVariants.{Even, Odd}
use Rattle.walk.specs.Lent.{steps_from}
use Rattle.walk.specs.declared.plan.Head.{Head}
use Rattle.walk.specs.declared.plan.Step.{Step}
use Rattle.plan.specs.Reported.{of_kind, allowed_in}
use Rattle.sets.specs.Members.{total, Curve}
use Rattle.sets.specs.SetPlan.{heads_of, set_coefficients, set_powers, set_steps, set_boundaries, set_cost, coefficient_count, list_count, set_step_count}
use Rattle.sets.specs.SetCall.{curves, SetCall, SetPlanned}
use Rattle.sets.specs.declared.member.Members.{Members}
use Rattle.sets.specs.declared.set.CurveSet.{CurveSet}
use Rattle.demands.specs.Counted.{lengths_from}
use Rattle.demands.specs.SetAccepts.{GoodSet, BringsSet}

-- the allowed powers from 1 up over all lists of all members, whose boundaries stand one member's after another's, each member's from 0
unfoldable pub allowed_over : List Head → (bounds : List ℕ) → ℕ
allowed_over [] bounds = 0
allowed_over (head ∷ heads) bounds = allowed_in head.parity (lengths_from 0 (take head.lists bounds)) + allowed_over heads (drop head.lists bounds)

-- the counts of a set of members with these heads, by its boundaries and steps
pub record SetReports (set : CurveSet) (heads : List Head) (bounds : List ℕ) (steps : List Step) : Type 0 where
  -- the power steps are those of kind 1, one for each power of the union
  pub power_steps_lem : of_kind 1 steps ≡ length (set_powers heads)
  -- "the size of the union plus all kind 3 steps", and what the transform costs, of which `SharedCosts` tells
  pub encrypted : set.ct ≡ length (set_powers heads) + of_kind 3 steps + set_cost heads
  -- "as in document 01, over all members": the allowed powers from 1 up over all lists, and the steps of kind 4
  pub plain : set.pt ≡ allowed_over heads bounds + of_kind 4 steps
  -- so it is the sum of what the members' plans alone report
  pub plains_add : set.pt ≡ total (map (λ (head : Head). head.pt) heads)

-- the steps and boundaries are those that the call left in the lent buffers
abbrev pub SetsReport : Type 0
SetsReport = (handed : Members) (c out : List ℤ) (bounds steps : List ℕ) (r : SetPlanned) (out' : List ℤ) (bounds' steps' : List ℕ)
    → BringsSet handed c out bounds steps → SetCall handed c out bounds steps r out' bounds' steps'
    → SetReports r.set (heads_of (curves handed c)) bounds' (steps_from steps' 0 (set_step_count (heads_of (curves handed c))))

-- "plus one when folded and, with TimesInput, one more for each member": the transform is one with TimesInput for Odd, and one without for Even. The
-- settings are those of any member, since all have them in common.
pub record SharedCosts (curves : List Curve) (curve : Curve) : Type 0 where
  pub unfolded : curve.member.fold ≡ false → set_cost (heads_of curves) ≡ 0
  pub even : curve.member.fold ≡ true → curve.member.parity ≡ Even → set_cost (heads_of curves) ≡ 1
  pub odd : curve.member.fold ≡ true → curve.member.parity ≡ Odd → set_cost (heads_of curves) ≡ 1 + length curves

abbrev pub SharedCostsTold : Type 0
SharedCostsTold = (curves : List Curve) (curve : Curve) → GoodSet curves → Memᴰ curve curves → SharedCosts curves curve

-- the totals, against which 21, 22 and 23 are tested, are those of what is written
pub record WrittenCounts (curves : List Curve) : Type 0 where
  pub coefficients : length (set_coefficients curves) ≡ coefficient_count (heads_of curves)
  pub boundaries : length (set_boundaries (heads_of curves)) ≡ list_count (heads_of curves)
  pub steps : length (set_steps (heads_of curves)) ≡ set_step_count (heads_of curves)

abbrev pub SetsWritten : Type 0
SetsWritten = (curves : List Curve) → GoodSet curves → WrittenCounts curves
