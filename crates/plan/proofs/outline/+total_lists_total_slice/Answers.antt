-- `plan::outline::total_lists` and `total_slice` meet their contracts: a cut has the sums of its parts' totals and the last list of high, where the low
-- part is cut in halves down to the base; a slice has the totals of one list, or those at the smaller split. Degree and split in one weighted
-- number fall at each call.
use mathlib.Core.Bool.{true, false}
use mathlib.Core.Path.{◌≡◌, sym, ◌∙◌}
use Prim.Native.Nat.{ℕ, suc, ◌+◌, ◌-◌, ◌^◌, ◌≤◌}
use native.Mathlib.Omega.{arith}
use lib.Pow.{pow_pos}
use Rattle.number.proofs.Bits.{Top, top_power_lem}
use Rattle.number.specs.Bits.{top_power}
use Rattle.lists.specs.Tree.{tree_of}
use Rattle.lists.proofs.TreeRule.{Again, leading_again}
use Rattle.plan.specs.inside.Outlines.{totals_of}
use Rattle.plan.proofs.ListTotals.{totals_cut, totals_again, totals_one, totals_range, low_totals_lem}
use Rattle.plan.proofs.outline.+total_lists_total_slice.Goals as goal
use Rattle.plan.proofs.outline.+total_lists_total_slice.Goals.{total_lists-After-total_lists-high, total_lists-Else-degree-base}
use Rattle.plan.proofs.outline.+total_lists_total_slice.Goals.{total_slice-After-listed_again}

-- from the base on
from_base : {t : ℕ} (c : total_lists-Else-degree-base t)
    → 2 ^ c.args.split ≤ c.args.degree
from_base c = omega (arith, c.power_of_two-base.ensures, c.if-degree-base.false)

bounds : (degree split : ℕ) → 2 ^ split ≤ degree → Top degree (top_power degree)
bounds degree split from = top_power_lem degree (omega (arith, from, pow_pos split))

-- a slice that the test says is listed again
again : {t : ℕ} (c : total_slice-After-listed_again t) → c.listed_again.result ≡ true
    → Again c.args.whole c.args.degree c.args.split
again c told =
    leading_again c.args.leading c.args.whole c.args.degree c.args.split
    (sym c.listed_again.ensures ∙ told)

pub total_lists-top_power-p-requires : goal.total_lists-top_power-p-requires
total_lists-top_power-p-requires t c =
    omega (arith, from_base (goal.at.total_lists-top_power-p-requires t c).Else-degree-base, pow_pos c.args.split)

pub total_lists-total_low-low-requires : goal.total_lists-total_low-low-requires
total_lists-total_low-low-requires t c = (from_base (goal.at.total_lists-total_low-low-requires t c).Else-degree-base, c.requires.part_limit)

pub total_lists-overflow_sub-degree : goal.total_lists-overflow_sub-degree
total_lists-overflow_sub-degree t c =
    omega (arith, bounds c.args.degree c.args.split (from_base (goal.at.total_lists-overflow_sub-degree t c).Else-degree-base))

pub total_lists-total_lists-high-requires : goal.total_lists-total_lists-high-requires
total_lists-total_lists-high-requires t c =
    let below = bounds c.args.degree c.args.split (from_base (goal.at.total_lists-total_lists-high-requires t c).Else-degree-base) in
    (omega arith, record { positive = omega arith; whole_limit = omega arith; part_limit = omega arith; split_limit = omega arith })

-- the totals of the low part
low_part : {t : ℕ} (c : total_lists-After-total_lists-high t)
    → c.total_low-low.result
    ≡ totals_of c.args.parity
    (tree_of false c.args.whole (c.top_power-p.result - 1)
    c.args.split)
    (suc (c.top_power-p.result - 1))
low_part c =
    low_totals_lem c.args.parity c.args.whole c.args.degree c.args.split
    (omega (arith, c.power_of_two-base.ensures, c.if-degree-base.false)) c.top_power-p.ensures c.total_low-low.ensures

-- lists and allowed powers of both parts together are at most the coefficients
both_most : {t : ℕ} (c : total_lists-After-total_lists-high t)
    → c.total_low-low.result.lists + c.total_low-low.result.pt + c.total_lists-high.result.lists + c.total_lists-high.result.pt
    ≤ suc c.args.degree
both_most c =
    let p = c.top_power-p.result in
    let from : 2 ^ c.args.split ≤ c.args.degree = omega (arith, c.power_of_two-base.ensures, c.if-degree-base.false) in
    let low = totals_range false c.args.parity c.args.whole (p - 1) c.args.split (low_part c) in
    let high = totals_range c.args.leading c.args.parity c.args.whole (c.args.degree - p) c.args.split c.total_lists-high.ensures in
    omega (arith, bounds c.args.degree c.args.split from, c.top_power-p.ensures, low.at_most, high.at_most)

pub total_lists-overflow_add-result : goal.total_lists-overflow_add-result
total_lists-overflow_add-result t c =
    omega (arith, both_most (goal.at.total_lists-overflow_add-result t c).After-total_lists-high, c.requires.part_limit)

pub total_lists-overflow_add-result-2 : goal.total_lists-overflow_add-result-2
total_lists-overflow_add-result-2 t c =
    omega (arith, both_most (goal.at.total_lists-overflow_add-result-2 t c).After-total_lists-high, c.requires.part_limit)

pub total_lists-returns : goal.total_lists-returns
total_lists-returns t c =
    totals_cut c.args.leading c.args.parity c.args.whole c.args.degree c.args.split (from_base (goal.at.total_lists-returns t c).Else-degree-base)
    c.top_power-p.ensures (low_part (goal.at.total_lists-returns t c).After-total_lists-high) c.total_lists-high.ensures

pub total_slice-smaller_split-requires : goal.total_slice-smaller_split-requires
total_slice-smaller_split-requires t c =
    let facts = again (goal.at.total_slice-smaller_split-requires t c).After-listed_again c.if-listed_again.true in
    record { from = facts.positive; to = c.requires.0.part_limit }

pub total_slice-total_lists-requires : goal.total_slice-total_lists-requires
total_slice-total_lists-requires t c =
    let facts = again (goal.at.total_slice-total_lists-requires t c).After-listed_again c.if-listed_again.true in
    let is = c.smaller_split.ensures in
    (omega arith, record { positive = omega arith; whole_limit = omega arith; part_limit = omega arith; split_limit = omega arith })

pub total_slice-returns-then-listed_again : goal.total_slice-returns-then-listed_again
total_slice-returns-then-listed_again t c =
    totals_again c.args.leading c.args.parity c.args.whole c.args.degree c.args.split c.requires.1
    (sym c.listed_again.ensures ∙ c.if-listed_again.true) c.smaller_split.ensures c.total_lists.ensures

pub total_slice-allowed_to-pt-requires : goal.total_slice-allowed_to-pt-requires
total_slice-allowed_to-pt-requires t c = omega (arith, c.requires.0.part_limit)

pub total_slice-overflow_add-result : goal.total_slice-overflow_add-result
total_slice-overflow_add-result t c = omega (arith, c.requires.0.part_limit)

pub total_slice-returns : goal.total_slice-returns
total_slice-returns t c =
    totals_one c.args.leading c.args.parity c.args.whole c.args.degree c.args.split c.requires.1
    (sym c.listed_again.ensures ∙ c.if-listed_again.false) c.allowed_to-pt.ensures
