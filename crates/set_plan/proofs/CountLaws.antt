-- What members cost, and the record of a set: sums over heads, one head after another.
use mathlib.Core.Path.{◌≡◌, refl, sym, ◌∙◌, ap, ap₂}
use mathlib.Core.Bool.{Bool, cond, ◌&&◌}
use mathlib.Core.List.{List, [], ◌∷◌, map}
use Prim.Native.Nat.{ℕ, suc, ◌+◌, ◌-◌, ◌≤◌, ◌<◌}
use native.Mathlib.Omega.{arith}
use lib.Dec.{leb, eqb}
use lib.ListN.{length, get_or, take, drop}
use Rattle.algebra.specs.declared.PolynomialInputTransform.{PolynomialInputTransform}
use Rattle.algebra.specs.declared.PolynomialInputTransform.TheVariants.{Identity, Square, SquareTimesInput, ChebyshevT2, ChebyshevT2TimesInput}
use Rattle.number.specs.Limits.{count_limit}
use Rattle.lists.specs.Tree.{relists}
use Rattle.lists.specs.Lists.{joined}
use Rattle.lists.specs.Arrange.{leaves_of}
use Rattle.walk.specs.declared.plan.Head.{Head}
use Rattle.plan.specs.PlanSteps.{make_step, last_plain, list_steps}
use Rattle.plan.specs.Reported.{of_kind, allowed_in}
use Rattle.plan.specs.inside.Outlines.{totals_of, costs_of, cost_for}
use Rattle.plan.specs.declared.outline.Totals.{Totals}
use Rattle.plan.proofs.HeadCounts.{four_most}
use Rattle.plan.proofs.ListTotals.{TotalsRange, totals_range}
use Rattle.plan.proofs.StepCounts.{kinds_append, makes, combines}
use Rattle.sets.specs.Members.{total}
use Rattle.sets.specs.Own.{own_split, own_tree, own_steps, own_lengths}
use Rattle.sets.specs.SetPlan.{member_steps, common_steps, set_steps, set_powers, shared_cost, set_cost, set_ct, set_pt, set_of}
use Rattle.sets.specs.SetPlan.{coefficient_count, list_count, own_step_count}
use Rattle.sets.specs.SetSizes.{set_sizes_of}
use Rattle.sets.specs.inside.Heads.{HeadFits, HeadsFit}
use Rattle.sets.specs.inside.Marking.{PowersCounted}
use Rattle.sets.specs.declared.set.CurveSet.{CurveSet}
use Rattle.sets.proofs.Arrays.{any_head, from_place, each_at}
use Rattle.set_plan.specs.inside.Counting.{own_costs, threes_of, plains_of, CostsAre, RecordAsked}
use Rattle.plan.specs.declared.head.Costs.{Costs}

-- ---- one member

module _ {head : Head} (fits : HeadFits head) {totals : Totals} (totals_own : totals ≡ totals_of head.parity (own_tree head) (suc head.degree)) where
  known : TotalsRange (suc head.degree) totals
  known = totals_range (relists head.strategy) head.parity head.degree head.degree (own_split head) totals_own

  pub costs_fit : (1 ≤ totals.lists) × (totals.lists + totals.pt ≤ count_limit)
  costs_fit = (omega (arith, known.nonempty), omega (arith, known.at_most, fits.degrees.to))

  module _ {plain : Bool} (plain_is : plain ≡ eqb totals.last 1) where
    abbrev four : ℕ
    four = cond (plain && leb 2 totals.lists) 1 0

    fours_are : four ≡ of_kind 4 (own_steps head)
    unfolding own_steps list_steps last_plain totals_of
    fours_are =
        ap (λ (p : Bool). cond (p && leb 2 totals.lists) 1 0) plain_is
        ∙ ap (λ (t : Totals). cond (eqb t.last 1 && leb 2 t.lists) 1 0) totals_own
        ∙ sym (combines (last_plain head.degree (own_tree head)) (own_tree head) 0).fours

    threes_are : totals.lists - 1 - four ≡ of_kind 3 (own_steps head)
    unfolding own_steps list_steps totals_of
    threes_are =
        let all = (combines (last_plain head.degree (own_tree head)) (own_tree head) 0).combines in
        let lists : totals.lists ≡ leaves_of (own_tree head) = ap (λ (t : Totals). t.lists) totals_own in
        omega (arith, all, lists, fours_are)

    pub costs_are : costs_of plain totals.lists totals.pt ≡ own_costs head
    unfolding own_costs own_lengths totals_of
    costs_are =
        let pt : totals.pt ≡ allowed_in head.parity (own_lengths head) = ap (λ (t : Totals). t.pt) totals_own in
        ap₂ (λ (t p : ℕ). record { threes = t; plains = p }) threes_are (ap₂ ◌+◌ pt fours_are)

    plains_within : totals.pt + four ≤ count_limit
    plains_within = omega (arith, costs_fit, four_most plain totals.lists known.nonempty)

-- how much at most
pub own_most : {head : Head} → HeadFits head → ((own_costs head).threes ≤ count_limit) × ((own_costs head).plains ≤ count_limit)
own_most {head} fits =
    let totals = totals_of head.parity (own_tree head) (suc head.degree) in
    let is = costs_are fits {totals = totals} refl refl in
    let plains = plains_within fits {totals = totals} refl refl in
    let fit = costs_fit fits {totals = totals} refl in
    (omega (arith, ap (λ (k : Costs). k.threes) is, fit), omega (arith, ap (λ (k : Costs). k.plains) is, plains))

-- ---- one after another

threes_next : (head : Head) (heads : List Head) → threes_of (head ∷ heads) ≡ (own_costs head).threes + threes_of heads
unfolding threes_of member_steps joined own_costs
threes_next head heads = kinds_append 3 (own_steps head) (joined (map own_steps heads))

plains_next : (head : Head) (heads : List Head) → plains_of (head ∷ heads) ≡ (own_costs head).plains + plains_of heads
unfolding plains_of member_steps joined own_costs total
plains_next head heads = omega (arith, kinds_append 4 (own_steps head) (joined (map own_steps heads)))

-- from place i on
module _ {heads : List Head} (fit : HeadsFit heads) (i : ℕ) (inside : i < length heads) where
  abbrev here : Head
  here = get_or heads i any_head

  next : drop i heads ≡ here ∷ drop (i + 1) heads
  next = from_place any_head i heads inside

  pub fits_here : HeadFits here
  fits_here = each_at any_head HeadFits i heads inside fit.each

  pub threes_from : threes_of (drop i heads) ≡ (own_costs here).threes + threes_of (drop (i + 1) heads)
  threes_from = ap threes_of next ∙ threes_next here (drop (i + 1) heads)

  pub plains_from : plains_of (drop i heads) ≡ (own_costs here).plains + plains_of (drop (i + 1) heads)
  plains_from = ap plains_of next ∙ plains_next here (drop (i + 1) heads)

  pub coefficients_from_lem : coefficient_count (drop i heads) ≡ here.coefficients + coefficient_count (drop (i + 1) heads)
  unfolding total
  coefficients_from_lem = ap coefficient_count next

  pub lists_from : list_count (drop i heads) ≡ here.lists + list_count (drop (i + 1) heads)
  unfolding total
  lists_from = ap list_count next

  pub steps_from_lem : own_step_count (drop i heads) ≡ here.steps + own_step_count (drop (i + 1) heads)
  unfolding total
  steps_from_lem = ap own_step_count next

-- at the end none
pub threes_none : threes_of [] ≡ 0
unfolding threes_of member_steps joined of_kind
threes_none = refl

pub plains_none : plains_of [] ≡ 0
unfolding plains_of member_steps joined of_kind total
plains_none = refl

pub counts_none : (coefficient_count [] ≡ 0) × (list_count [] ≡ 0) × (own_step_count [] ≡ 0)
unfolding total
counts_none = (refl, refl, refl)

-- ---- the transform

pub cost_shared : (transform : PolynomialInputTransform) (n : ℕ) → cost_for transform n ≡ shared_cost transform n
cost_shared Identity n = refl
cost_shared Square n = refl
cost_shared SquareTimesInput n = refl
cost_shared ChebyshevT2 n = refl
cost_shared ChebyshevT2TimesInput n = refl

shared_most : (transform : PolynomialInputTransform) (n : ℕ) → shared_cost transform n ≤ 1 + n
shared_most Identity n = omega arith
shared_most Square n = omega arith
shared_most SquareTimesInput n = omega arith
shared_most ChebyshevT2 n = omega arith
shared_most ChebyshevT2TimesInput n = omega arith

pub cost_most : (heads : List Head) → set_cost heads ≤ 1 + length heads
cost_most [] = omega arith
cost_most (head ∷ heads) = shared_most head.transform (length (head ∷ heads))

-- ---- the record

-- no power step is of kind 3 or 4
threes_set : (heads : List Head) → of_kind 3 (set_steps heads) ≡ of_kind 3 (member_steps heads)
unfolding set_steps common_steps
threes_set heads = omega (arith, kinds_append 3 (map make_step (set_powers heads)) (member_steps heads), (makes (set_powers heads)).threes)

fours_set : (heads : List Head) → of_kind 4 (set_steps heads) ≡ of_kind 4 (member_steps heads)
unfolding set_steps common_steps
fours_set heads = omega (arith, kinds_append 4 (map make_step (set_powers heads)) (member_steps heads), (makes (set_powers heads)).fours)

pub record_is : {heads : List Head} {count powers cost : ℕ} {costs : Costs} → RecordAsked heads count powers → CostsAre (take count heads) costs
    → cost ≡ set_cost (take count heads)
    → record { ct = powers + costs.threes + cost; pt = costs.plains; powers = powers; heads = heads } ≡ set_of (take count heads)
unfolding set_of set_ct set_pt threes_of plains_of
record_is {heads} {count} {powers} {cost} {costs} asked sum cost_is =
    let members = take count heads in
    let same = asked.counted.powers_are in
    let ct : powers + costs.threes + cost ≡ set_ct members =
    ap₂ ◌+◌ (ap₂ ◌+◌ same (sum.threes_are ∙ sym (threes_set members))) cost_is in
    let pt : costs.plains ≡ set_pt members =
    sum.plains_are
    ∙ ap (total (map (λ (head : Head). allowed_in head.parity (own_lengths head)) members) +◌) (sym (fours_set members)) in
    of_parts ct pt same asked.zeros
  where
    of_parts : {ct ct' pt pt' n n' : ℕ} {hs hs' : List Head} → ct ≡ ct' → pt ≡ pt' → n ≡ n' → hs ≡ hs'
        → ◌≡◌ {A = CurveSet} (record { ct = ct; pt = pt; powers = n; heads = hs }) (record { ct = ct'; pt = pt'; powers = n'; heads = hs' })
    of_parts c p n h = rw (c, p, n, h)

pub sizes_summed : {heads : List Head} {powers a b n : ℕ} → PowersCounted heads powers → a ≡ coefficient_count heads
    → b ≡ list_count heads → n ≡ powers + own_step_count heads
    → record { refusal = 0; coefficients = a; lists = b; steps = n } ≡ set_sizes_of heads
unfolding set_sizes_of
sizes_summed counted coefficients_are lists_are steps_are = rw (coefficients_are, lists_are, steps_are, counted.powers_are)
