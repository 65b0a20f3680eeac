-- The head from the outline of its degree, the ranges of an outline's numbers, and the sizes: a head has those of its degree.
use mathlib.Core.Path.{◌≡◌, refl, ap, ap₂, sym, ◌∙◌}
use mathlib.Core.Bool.{Bool, true, false, cond, ◌&&◌}
use Prim.Native.Nat.{ℕ, suc, ◌+◌, ◌-◌, ◌^◌, ◌≤◌, ◌<◌}
use native.Mathlib.Omega.{arith}
use native.Mathlib.Decide.{dec_lt}
use borrow.Author.Tests.{lt-leb}
use lib.Dec.{eqb, leb}
use lib.ListN.{length}
use Rattle.algebra.specs.declared.Basis.{Basis}
use Rattle.algebra.specs.declared.Parity.{Parity}
use Rattle.algebra.specs.declared.PolynomialInputTransform.{PolynomialInputTransform}
use Rattle.algebra.specs.declared.PolynomialInputTransform.TheVariants.{Identity, Square, SquareTimesInput, ChebyshevT2, ChebyshevT2TimesInput}
use Rattle.number.specs.Limits.{plan_limit, count_limit}
use Rattle.number.specs.declared.interval.Interval.{Interval}
use Rattle.number.specs.inside.Between.{Between}
use Rattle.needed.specs.NeededList.{needed_count}
use Rattle.needed.specs.inside.Planned.{Planned}
use Rattle.needed.proofs.MarkedPowers.{count_needed_small}
use Rattle.counts.specs.Choice.{split_for}
use Rattle.counts.specs.Depth.{depth_of}
use Rattle.counts.specs.declared.choice.SplitStrategy.{SplitStrategy}
use Rattle.counts.proofs.ChoiceLaws.{split_range}
use Rattle.lists.specs.Tree.{tree_of, relists, plan_tree}
use Rattle.lists.specs.Arrange.{leaves_of, lengths_of}
use Rattle.lists.specs.inside.Listing.{Ranges}
use Rattle.lists.proofs.Arranging.{some_leaves}
use Rattle.plan.specs.PlanSteps.{last_plain, steps_at, plan_steps}
use Rattle.plan.specs.Reported.{allowed_in, of_kind, transform_cost, reported}
use Rattle.plan.specs.PlanHead.{head_of}
use Rattle.plan.specs.PlanSizes.{step_count, sizes_of, sizes_in}
use Rattle.plan.specs.inside.Outlines.{totals_of, outline_for, costs_of, cost_for}
use Rattle.plan.specs.declared.head.Costs.{Costs}
use Rattle.plan.specs.declared.outline.Totals.{Totals}
use Rattle.plan.specs.declared.outline.Outline.{Outline}
use Rattle.plan.proofs.ListTotals.{totals_range}
use Rattle.plan.proofs.StepCounts.{steps_counted}

-- ---- the outline

-- a split from 1 to 12, at least one list, and no more powers, nor lists with allowed powers, than there are marks
pub record OutlineRange (outline : Outline) : Type 0 where
  pub split : Between 1 outline.split 12
  pub powers : outline.powers ≤ count_limit
  pub nonempty : 0 < outline.lists
  pub at_most : outline.lists + outline.pt ≤ count_limit

module _ (strategy : SplitStrategy) (parity : Parity) (basis : Basis) (degree : ℕ) (range : Between 1 degree plan_limit) where
  pub planned_at : {split : ℕ} → split ≡ split_for strategy parity basis degree → Planned degree split
  planned_at is =
      let chosen = split_range strategy parity basis degree range in
      record { degrees = range; splits = record { from = omega arith; to = omega arith } }

  pub ranges_at : {split : ℕ} → split ≡ split_for strategy parity basis degree → Ranges degree degree split
  ranges_at is =
      let chosen = split_range strategy parity basis degree range in
      record { positive = omega arith; whole_limit = omega arith; part_limit = omega arith; split_limit = omega arith }

  -- the outline, number by number
  pub outline_is : {split powers steps : ℕ} {leading plain : Bool} {totals : Totals} → split ≡ split_for strategy parity basis degree
      → leading ≡ relists strategy → totals ≡ totals_of parity (tree_of leading degree degree split) (suc degree)
      → powers ≡ needed_count parity basis degree split → plain ≡ eqb totals.last 1 → steps ≡ step_count powers totals.lists
      → record {
        split = split;
        plain = plain;
        powers = powers;
        pt = totals.pt;
        coefficients = degree + 1;
        lists = totals.lists;
        steps = steps;
      }
      ≡ outline_for strategy parity basis degree
  unfolding totals_of last_plain
  outline_is split_is leading_is totals_are powers_are plain_is steps_are =
      let more : degree + 1 ≡ suc degree = omega arith in
      rw (steps_are, plain_is, powers_are, totals_are, leading_is, split_is, more)

  -- the ranges of its counts, as they are worked out
  pub counts_range : (leading : Bool) (split : ℕ) {powers : ℕ} {totals : Totals}
      → totals ≡ totals_of parity (tree_of leading degree degree split) (suc degree) → powers ≡ needed_count parity basis degree split
      → (powers ≤ count_limit) × Between 1 totals.lists count_limit
  unfolding totals_of
  counts_range leading split totals_are powers_are =
      let totals = totals_range leading parity degree degree split refl in
      let lists_are = ap (λ (t : Totals). t.lists) totals_are in (
        omega (arith, count_needed_small parity basis degree split range, powers_are),
        record { from = omega (arith, lists_are, totals.nonempty); to = omega (arith, lists_are, totals.at_most, range.to) },
      )

  -- its ranges
  pub outline_range : {outline : Outline} → outline ≡ outline_for strategy parity basis degree → OutlineRange outline
  unfolding totals_of
  outline_range is =
      let split = split_for strategy parity basis degree in
      let totals = totals_range (relists strategy) parity degree degree split refl in
      rw is (record {
        split = split_range strategy parity basis degree range;
        powers = count_needed_small parity basis degree split range;
        nonempty = totals.nonempty;
        at_most = omega (arith, totals.at_most);
      })

-- ---- the sizes

-- the steps, counted by powers and lists
step_count_lem : (strategy : SplitStrategy) (parity : Parity) (basis : Basis) (degree : ℕ)
    → step_count (needed_count parity basis degree (split_for strategy parity basis degree)) (leaves_of (plan_tree strategy parity basis degree))
    ≡ length (plan_steps strategy parity basis degree)
step_count_lem strategy parity basis degree =
    let split = split_for strategy parity basis degree in
    let counted = steps_counted (relists strategy) parity basis degree split in
    let one = some_leaves (plan_tree strategy parity basis degree) in
    omega (arith, counted.steps)

-- those of a degree are in its outline
pub outline_sizes : (strategy : SplitStrategy) (parity : Parity) (basis : Basis) (degree : ℕ) {outline : Outline}
    → outline ≡ outline_for strategy parity basis degree
    → record { refusal = 0; coefficients = outline.coefficients; lists = outline.lists; steps = outline.steps } ≡ sizes_of strategy parity basis degree
unfolding sizes_of
outline_sizes strategy parity basis degree is =
    ap (λ (o : Outline). record { refusal = 0; coefficients = o.coefficients; lists = o.lists; steps = o.steps }) is

-- those of a degree are in its head
pub head_sizes : (strategy : SplitStrategy) (parity : Parity) (basis : Basis) (transform : PolynomialInputTransform) (interval : Interval) (degree : ℕ)
    → sizes_in (head_of strategy parity basis transform interval degree) ≡ sizes_of strategy parity basis degree
unfolding head_of sizes_of
head_sizes strategy parity basis transform interval degree = rw (step_count_lem strategy parity basis degree)

-- ---- the head

pub four_most : (plain : Bool) (lists : ℕ) → 0 < lists → cond (plain && leb 2 lists) 1 0 ≤ lists - 1
four_most false lists positive = omega arith
four_most true lists positive = by_count (dec_lt lists 2)
  where
    most : (test : Bool) → 2 ≤ lists → cond test 1 0 ≤ lists - 1
    most true two = omega arith
    most false two = omega arith

    by_count : Dec (lists < 2) → cond (leb 2 lists) 1 0 ≤ lists - 1
    by_count (yes one) = rw (lt-leb 2 lists one) (omega arith)
    by_count (no more) = most (leb 2 lists) (omega arith)

-- for one curve they are those of its plan
pub cost_once : (transform : PolynomialInputTransform) → cost_for transform 1 ≡ transform_cost transform
cost_once Identity = refl
cost_once Square = refl
cost_once SquareTimesInput = refl
cost_once ChebyshevT2 = refl
cost_once ChebyshevT2TimesInput = refl

pub cost_most : (transform : PolynomialInputTransform) → transform_cost transform ≤ 2
cost_most Identity = omega arith
cost_most Square = omega arith
cost_most SquareTimesInput = omega arith
cost_most ChebyshevT2 = omega arith
cost_most ChebyshevT2TimesInput = omega arith

module _ (strategy : SplitStrategy) (parity : Parity) (basis : Basis) (transform : PolynomialInputTransform) (interval : Interval) (degree : ℕ)
    {outline : Outline} {costs : Costs} {cost depth base : ℕ} (range : Between 1 degree plan_limit)
    (outline_for_lem : outline ≡ outline_for strategy parity basis degree)
    (costs_are : costs ≡ costs_of outline.plain outline.lists outline.pt) (cost_is : cost ≡ cost_for transform 1)
    (depth_is : depth ≡ depth_of strategy degree) (base_is : base ≡ 2 ^ outline.split) where
  pub head_is : record {
    basis = basis;
    parity = parity;
    strategy = strategy;
    transform = transform;
    degree = degree;
    base = base;
    ct = outline.powers + costs.threes + cost;
    pt = costs.plains;
    depth = depth + cost;
    coefficients = outline.coefficients;
    lists = outline.lists;
    steps = outline.steps;
    interval = interval;
  }
      ≡ head_of strategy parity basis transform interval degree
  unfolding head_of reported
  head_is =
      let split = split_for strategy parity basis degree in
      let steps = steps_at (relists strategy) parity basis degree split in
      let known = outline_range strategy parity basis degree range outline_for_lem in
      let counted = steps_counted (relists strategy) parity basis degree split in
      let powers_are : outline.powers ≡ needed_count parity basis degree split = ap (λ (o : Outline). o.powers) outline_for_lem in
      let lists_are : outline.lists ≡ leaves_of (tree_of (relists strategy) degree degree split) = ap (λ (o : Outline). o.lists) outline_for_lem in
      let pt_is : outline.pt ≡ allowed_in parity (lengths_of (tree_of (relists strategy) degree degree split) (suc degree)) =
      ap (λ (o : Outline). o.pt) outline_for_lem in
      let four : ℕ = cond (outline.plain && leb 2 outline.lists) 1 0 in
      let same_four : four ≡ of_kind 4 steps =
      ap (λ (o : Outline). cond (o.plain && leb 2 o.lists) 1 0) outline_for_lem ∙ sym counted.plain_ones in
      let most = four_most outline.plain outline.lists known.nonempty in
      let threes : costs.threes ≡ outline.lists - 1 - four = ap (λ (c : Costs). c.threes) costs_are in
      let once : cost ≡ transform_cost transform = cost_is ∙ cost_once transform in
      let ct : outline.powers + costs.threes + cost ≡ of_kind 1 steps + of_kind 3 steps + transform_cost transform =
      omega (arith, counted.encrypted, known.nonempty) in
      let pt : costs.plains ≡ allowed_in parity (lengths_of (tree_of (relists strategy) degree degree split) (suc degree)) + of_kind 4 steps =
      ap (λ (c : Costs). c.plains) costs_are ∙ ap₂ ◌+◌ pt_is same_four in
      let all : outline.steps ≡ length steps = ap (λ (o : Outline). o.steps) outline_for_lem ∙ step_count_lem strategy parity basis degree in
      let deep : depth + cost ≡ depth_of strategy degree + transform_cost transform = ap₂ ◌+◌ depth_is once in
      let low : base ≡ 2 ^ split = base_is ∙ ap (λ (o : Outline). 2 ^ o.split) outline_for_lem in
      let more : outline.coefficients ≡ suc degree = ap (λ (o : Outline). o.coefficients) outline_for_lem in
      rw (ct, pt, all, deep, low, more, lists_are)
