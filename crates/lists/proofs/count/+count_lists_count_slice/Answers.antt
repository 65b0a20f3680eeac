-- `lists::count::count_lists` and `count_slice` meet their contracts: the number of lists of a cut is the sum of its parts', where the low part is
-- cut in halves down to the base; and a slice has one, or those at the smaller split. Degree and split in one weighted number fall at each call.
use mathlib.Core.Path.{◌≡◌, sym, ◌∙◌}
use mathlib.Core.Bool.{true, false}
use Prim.Native.Nat.{ℕ, ◌-◌, ◌^◌, ◌≤◌}
use native.Mathlib.Omega.{arith}
use lib.Pow.{pow_pos}
use Rattle.number.specs.Bits.{top_power}
use Rattle.number.proofs.Bits.{Top, top_power_lem}
use Rattle.lists.specs.Tree.{tree_of}
use Rattle.lists.specs.Arrange.{leaves_of}
use Rattle.lists.proofs.TreeRule.{Again, leading_again}
use Rattle.lists.proofs.Arranging.{leaves_most}
use Rattle.lists.proofs.FullTrees.{low_leaves}
use Rattle.lists.proofs.Counting.{counted_cut, counted_again, counted_one}
use Rattle.lists.proofs.count.+count_lists_count_slice.Goals as goal
use Rattle.lists.proofs.count.+count_lists_count_slice.Goals.{count_lists-After-count_lists-high, count_lists-Else-degree-base, count_slice-After-listed_again}

-- from the base on
from_base : {t : ℕ} (c : count_lists-Else-degree-base t)
    → 2 ^ c.args.split ≤ c.args.degree
from_base c = omega arith

bounds : {t : ℕ} (c : count_lists-Else-degree-base t)
    → Top c.args.degree (top_power c.args.degree)
bounds c = top_power_lem c.args.degree (omega (arith, from_base c, pow_pos c.args.split))

-- a slice that the test says is listed again
again : {t : ℕ} (c : count_slice-After-listed_again t) → c.listed_again.result ≡ true
    → Again c.args.whole c.args.degree c.args.split
again c told =
    leading_again c.args.leading c.args.whole c.args.degree c.args.split
    (sym c.listed_again.ensures ∙ told)

pub count_lists-top_power-p-requires : goal.count_lists-top_power-p-requires
count_lists-top_power-p-requires t c =
    omega (arith, pow_pos c.args.split)

pub count_lists-low_lists-low-requires : goal.count_lists-low_lists-low-requires
count_lists-low_lists-low-requires t c = (from_base (goal.at.count_lists-low_lists-low-requires t c).Else-degree-base, c.requires.part_limit)

pub count_lists-overflow_sub-degree : goal.count_lists-overflow_sub-degree
count_lists-overflow_sub-degree t c = omega (arith, bounds (goal.at.count_lists-overflow_sub-degree t c).Else-degree-base)

pub count_lists-count_lists-high-requires : goal.count_lists-count_lists-high-requires
count_lists-count_lists-high-requires t c =
    let below = bounds (goal.at.count_lists-count_lists-high-requires t c).Else-degree-base in
    (omega arith, record { positive = omega arith; whole_limit = omega arith; part_limit = omega arith; split_limit = omega arith })

-- the lists of the low part
low_part : {t : ℕ} (c : count_lists-After-count_lists-high t)
    → c.low_lists-low.result
    ≡ leaves_of (tree_of false c.args.whole (c.top_power-p.result - 1)
    c.args.split)
low_part c =
    low_leaves c.args.whole c.args.degree c.args.split (omega arith) c.top_power-p.ensures
    c.low_lists-low.ensures

pub count_lists-overflow_add-result : goal.count_lists-overflow_add-result
count_lists-overflow_add-result t c =
    let here = goal.at.count_lists-overflow_add-result t c in
    let p = c.top_power-p.result in
    let low = leaves_most false c.args.whole (p - 1) c.args.split in
    let high = leaves_most c.args.leading c.args.whole (c.args.degree - p) c.args.split in
    omega (arith, bounds here.Else-degree-base, low_part here.After-count_lists-high)

pub count_lists-returns : goal.count_lists-returns
count_lists-returns t c =
    let here = goal.at.count_lists-returns t c in
    counted_cut c.args.leading c.args.whole c.args.degree c.args.split c.top_power-p.result
    (from_base here.Else-degree-base) c.top_power-p.ensures (low_part here.After-count_lists-high) c.count_lists-high.ensures

pub count_slice-smaller_split-requires : goal.count_slice-smaller_split-requires
count_slice-smaller_split-requires t c =
    let facts = again (goal.at.count_slice-smaller_split-requires t c).After-listed_again c.if-listed_again.true in
    record { from = facts.positive; to = c.requires.0.part_limit }

pub count_slice-count_lists-requires : goal.count_slice-count_lists-requires
count_slice-count_lists-requires t c =
    let facts = again (goal.at.count_slice-count_lists-requires t c).After-listed_again c.if-listed_again.true in
    let is = c.smaller_split.ensures in
    (omega arith, record { positive = omega arith; whole_limit = omega arith; part_limit = omega arith; split_limit = omega arith })

pub count_slice-returns-then-listed_again : goal.count_slice-returns-then-listed_again
count_slice-returns-then-listed_again t c =
    counted_again c.args.leading c.args.whole c.args.degree c.args.split c.requires.1
    (sym c.listed_again.ensures ∙ c.if-listed_again.true) c.smaller_split.ensures c.count_lists.ensures

pub count_slice-returns : goal.count_slice-returns
count_slice-returns t c =
    counted_one c.args.leading c.args.whole c.args.degree c.args.split c.requires.1
    (sym c.listed_again.ensures ∙ c.if-listed_again.false)
