-- The plan of a set (docs/RULES.md, "Sets of curves"), by its members' heads: one set of powers, then each member's loads and combines.
use Rattle.std.specs.Prelude.{List, [], ◌∷◌, ◌++◌, map, ℕ, ◌+◌, ◌-◌, ℤ, length, replicate}
use Rattle.algebra.specs.declared.PolynomialInputTransform.{PolynomialInputTransform}
use Rattle.algebra.specs.declared.PolynomialInputTransform.TheVariants.{Identity, Square, SquareTimesInput, ChebyshevT2, ChebyshevT2TimesInput}
use Rattle.lists.specs.Lists.{joined}
use Rattle.walk.specs.declared.plan.Head.{Head}
use Rattle.walk.specs.declared.plan.Step.{Step}
use Rattle.plan.specs.PlanSteps.{make_step}
use Rattle.plan.specs.PlanHead.{no_head}
use Rattle.plan.specs.Reported.{of_kind, allowed_in}
use Rattle.sets.specs.Members.{total, Curve}
use Rattle.sets.specs.Union.{union_of}
use Rattle.sets.specs.Own.{own_powers, own_steps, own_boundaries, own_lengths, member_head, member_coefficients}
use Rattle.sets.specs.declared.set.CurveSet.{CurveSet}

-- ---- heads, coefficients

-- the members' heads
abbrev pub heads_of : List Curve → List Head
heads_of curves = map member_head curves

-- their lists, one member's after another's
unfoldable pub set_coefficients : List Curve → List ℤ
set_coefficients curves = joined (map member_coefficients curves)

-- ---- steps and boundaries

-- the union of the needed powers, rising
unfoldable pub set_powers : List Head → List ℕ
set_powers heads = union_of (map own_powers heads)

-- "power steps once, for the union of needed powers"
unfoldable pub common_steps : List Head → List Step
common_steps heads = map make_step (set_powers heads)

-- "then each member's lists and combines"
unfoldable pub member_steps : List Head → List Step
member_steps heads = joined (map own_steps heads)

unfoldable pub set_steps : List Head → List Step
set_steps heads = common_steps heads ++ member_steps heads

-- "Each member's boundaries and list numbers begin afresh at 0."
unfoldable pub set_boundaries : List Head → List ℕ
set_boundaries heads = joined (map own_boundaries heads)

-- ---- counts

-- "plus one when folded and, with TimesInput, one more for each member"
abbrev pub shared_cost : PolynomialInputTransform → (members : ℕ) → ℕ
shared_cost Identity members = 0
shared_cost Square members = 1
shared_cost SquareTimesInput members = 1 + members
shared_cost ChebyshevT2 members = 1
shared_cost ChebyshevT2TimesInput members = 1 + members

-- the members have one transform, so that of the first
abbrev pub set_cost : List Head → ℕ
set_cost [] = 0
set_cost (head ∷ heads) = shared_cost head.transform (length (head ∷ heads))

-- "the size of the union plus all kind 3 steps", plus these
unfoldable pub set_ct : List Head → ℕ
set_ct heads = length (set_powers heads) + of_kind 3 (set_steps heads) + set_cost heads

-- "pt-ct is as in document 01, over all members": allowed powers from 1 up over all lists, and steps of kind 4
unfoldable pub set_pt : List Head → ℕ
set_pt heads = total (map (λ (head : Head). allowed_in head.parity (own_lengths head)) heads) + of_kind 4 (set_steps heads)

-- ---- the record

-- the most members
abbrev pub member_limit : ℕ
member_limit = 16

-- "heads beyond the members are zero"
abbrev pub with_zero_heads : List Head → List Head
with_zero_heads heads = heads ++ replicate (member_limit - length heads) no_head

-- both counts, the number of power steps, and the heads
unfoldable pub set_of : List Head → CurveSet
set_of heads = record {
  ct = set_ct heads;
  pt = set_pt heads;
  powers = length (set_powers heads);
  heads = with_zero_heads heads;
}

-- how many coefficients and lists members have, and how many loads and combines
abbrev pub coefficient_count : List Head → ℕ
coefficient_count heads = total (map (λ (head : Head). head.coefficients) heads)

abbrev pub list_count : List Head → ℕ
list_count heads = total (map (λ (head : Head). head.lists) heads)

abbrev pub own_step_count : List Head → ℕ
own_step_count heads = total (map (λ (head : Head). head.steps) heads)

-- with the power steps
abbrev pub set_step_count : List Head → ℕ
set_step_count heads = length (set_powers heads) + own_step_count heads
