-- What a MinMult plan reports is the estimate of its split with at most one multiplication moved (request Q-2): MinMult lists nothing again, so that
-- proofs/Pairs has the counts of its steps. The split is the one that MinMult chooses by the estimate, so that no other split has a smaller one.
use mathlib.Core.Path.{◌≡◌, refl, ap}
use mathlib.Core.Logic.{inr}
use Prim.Native.Nat.{ℕ, suc, ◌≤◌, ◌<◌}
use native.Mathlib.Decide.{dec_lt}
use native.Mathlib.Omega.{arith}
use borrow.Author.Tests.{le-ltb}
use Rattle.algebra.specs.Allowed.{allows}
use Rattle.algebra.specs.declared.Basis.{Basis}
use Rattle.algebra.specs.declared.Parity.{Parity}
use Rattle.algebra.specs.declared.PolynomialInputTransform.{PolynomialInputTransform}
use Rattle.number.specs.Bits.{digits, bit_len, top_power, power_below, is_power_of_two}
use Rattle.number.specs.Interval.{change_of_basis}
use Rattle.number.specs.Limits.{plan_limit}
use Rattle.number.specs.Refusal.{unless_refused}
use Rattle.number.specs.Split.{parts_of}
use Rattle.number.specs.declared.interval.Interval.{Interval}
use Rattle.number.specs.inside.Between.{Between}
use Rattle.number.proofs.Bits.{some_digit}
use Rattle.needed.specs.NeededList.{is_target, is_part, is_part_of_one, listed_down, needed_list, needed_count}
use Rattle.counts.specs.Slices.{slices_in, slices_of, last_of}
use Rattle.counts.specs.PlainCount.{allowed_to, plain_count}
use Rattle.counts.specs.Pair.{last_is_plain, pair_of, pair_at}
use Rattle.counts.specs.MinMult.{AtMost, better, best_of, min_mult}
use Rattle.counts.specs.Choice.{split_for}
use Rattle.counts.specs.Calls.{counts_call}
use Rattle.counts.specs.declared.pair.Pair.{Pair}
use Rattle.counts.specs.declared.choice.SplitStrategy.TheVariants.{MinMult}
use Rattle.counts.proofs.ChoiceLaws.{counts_from_one}
use Rattle.counts.proofs.MinMultLaws.{mult_low}
use Rattle.counts.proofs.Promises.{chosen}
use Rattle.lists.specs.Tree.{tree_in, tree_of, plan_tree}
use Rattle.lists.specs.Arrange.{leaves_of, lengths_of}
use Rattle.plan.specs.PlanSteps.{power_steps, last_length, last_plain, combine_kind, tree_steps, list_steps, steps_at}
use Rattle.plan.specs.Reported.{of_kind, allowed_in, reported}
use Rattle.plan.specs.PlanHead.{head_of}
use Rattle.plan.specs.PlanCall.{planned_parity, planned_transform, planned_degree}
use Rattle.demands.specs.Estimated.{Estimated, PlansEstimated, CheaperReported}
use Rattle.demands.proofs.Accepts.{plannable}
use Rattle.demands.proofs.Counted.{lent_lengths}
use Rattle.demands.proofs.Pairs.{pair_moved}
use Rattle.demands.proofs.Right.{plans_right}

-- ---- the split

module _ (parity : Parity) (basis : Basis) (degree : ℕ) (positive : 1 ≤ degree) where
  -- the estimate of MinMult's split is the least; below degree 2 there is one split
  least_pair : (other : ℕ) → 1 ≤ other → other ≤ bit_len degree
      → AtMost (pair_at parity basis degree (min_mult parity basis degree)) (pair_at parity basis degree other)
  least_pair other from to = by (dec_lt 1 (bit_len degree))
    where
      by : Dec (1 < bit_len degree) → AtMost (pair_at parity basis degree (min_mult parity basis degree)) (pair_at parity basis degree other)
      by (yes more) = ((chosen parity basis degree).least_pair more).least other from to
      by (no few) =
          let one : other ≡ 1 = omega arith in
          rw (mult_low parity basis degree (omega arith), one) (inr (refl, omega arith))

  split_to : min_mult parity basis degree ≤ bit_len degree
  split_to = by (dec_lt 1 (bit_len degree))
    where
      by : Dec (1 < bit_len degree) → min_mult parity basis degree ≤ bit_len degree
      by (yes more) = ((chosen parity basis degree).least_pair more).to
      by (no few) = rw (mult_low parity basis degree (omega arith)) (some_digit degree positive)

-- ---- the head

estimated : (parity : Parity) (basis : Basis) (transform : PolynomialInputTransform) (interval : Interval) (degree : ℕ)
    → Between 1 degree plan_limit
    → Estimated (head_of MinMult parity basis transform interval degree) (lengths_of (plan_tree MinMult parity basis degree) (suc degree))
unfolding head_of counts_call split_for unless_refused reported
estimated parity basis transform interval degree range =
    let split = min_mult parity basis degree in
    let told = pair_moved parity basis degree split in
    record {
      split = split;
      base = refl;
      split_is = refl;
      from_one = (chosen parity basis degree).from_one MinMult range.from range.to;
      to_length = split_to parity basis degree range.from;
      estimate = pair_at parity basis degree split;
      estimate_is = refl;
      counts = rw (le-ltb plan_limit degree range.to)
          (ap (λ (p : Pair). record { refusal = 0; ct = p.ct; pt = p.pt }) (counts_from_one MinMult parity basis degree range.from));
      least = least_pair parity basis degree range.from;
      encrypted = omega (arith, told.ct_moved);
      plain = told.pt_moved;
    }

pub plans_estimated : PlansEstimated
plans_estimated parity basis folded c a b out bounds steps r out' bounds' steps' brings call =
    let right = plans_right MinMult parity basis folded c a b out bounds steps r out' bounds' steps' brings call in
    let accepted = brings.accepted in
    let facts = plannable folded parity basis c accepted in
    rw (right.answer, lent_lengths MinMult parity basis folded c a b out' bounds' steps' accepted right.stored)
    (estimated (planned_parity folded parity) basis (planned_transform folded parity basis) (change_of_basis basis a b)
    (planned_degree MinMult parity basis folded c) (record { from = omega (arith, facts.several); to = facts.few }))

-- ---- the example

pub cheaper_reported : CheaperReported
unfolding min_mult best_of better pair_at pair_of last_is_plain slices_of slices_in last_of plain_count allowed_to split_for reported allowed_in of_kind
    steps_at
    list_steps tree_steps combine_kind last_plain last_length power_steps leaves_of lengths_of tree_of tree_in needed_count needed_list listed_down
    is_part_of_one
    is_part is_target allows top_power parts_of power_below is_power_of_two bit_len digits
cheaper_reported = record {
  chosen = refl;
  estimate_chosen = refl;
  estimate_other = refl;
  reported_chosen = refl;
  reported_other = refl;
}
