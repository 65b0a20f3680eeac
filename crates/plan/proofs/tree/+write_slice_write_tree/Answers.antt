-- `plan::tree::write_tree` and `write_slice` meet their contracts: the steps of a cut are those of low, of high, and the combine; a slice has one
-- load, or the steps at the smaller split. Degree and split in one weighted number fall at each call.
use mathlib.Core.Path.{sym, ◌∙◌}
use Prim.Native.Nat.{ℕ, ◌^◌, ◌≤◌}
use native.Mathlib.Omega.{arith}
use lib.Pow.{pow_pos}
use Rattle.plan.proofs.TreeSteps as tree
use borrow.Author.Rules.{rules}
use Rattle.plan.proofs.tree.+write_slice_write_tree.Goals as goal
use Rattle.plan.proofs.tree.+write_slice_write_tree.Goals.{write_tree-Else-degree-base}

-- from the base on
from_base : {t : ℕ} (c : write_tree-Else-degree-base t)
    → 2 ^ c.args.split ≤ c.args.degree
from_base c = omega (arith, c.power_of_two-base.ensures, c.if-degree-base.false)

pub write_slice-listed_again-requires : goal.write_slice-listed_again-requires
write_slice-listed_again-requires t c = c.requires.0.ranges

pub write_slice-smaller_split-smaller-requires : goal.write_slice-smaller_split-smaller-requires
write_slice-smaller_split-smaller-requires t c =
    record {
      from = tree.positive c.requires.0 c.requires.1 (sym c.listed_again.ensures ∙ c.if-listed_again.true);
      to = c.requires.0.ranges.part_limit;
    }

pub write_slice-write_tree-requires : goal.write_slice-write_tree-requires
write_slice-write_tree-requires t c =
    let is = c.smaller_split-smaller.ensures in
    let less = tree.smaller c.requires.0 c.requires.1 (sym c.listed_again.ensures ∙ c.if-listed_again.true) in (
      omega (arith, c.decreases),
      rw is (tree.fits_again c.requires.0 c.requires.1
          (sym c.listed_again.ensures ∙ c.if-listed_again.true)),
    )

pub write_slice-returns-then-listed_again : goal.write_slice-returns-then-listed_again
write_slice-returns-then-listed_again t c =
    tree.put_again c.requires.0 c.requires.1 (sym c.listed_again.ensures ∙ c.if-listed_again.true)
    (rw c.smaller_split-smaller.ensures at c.write_tree.ensures)

pub write_slice-put_instruction-requires : goal.write_slice-put_instruction-requires
write_slice-put_instruction-requires t c =
    tree.load_fits c.requires.0 c.requires.1

pub write_slice-overflow_add-result : goal.write_slice-overflow_add-result
write_slice-overflow_add-result t c =
    omega (arith, c.requires.0.list_limit)

pub write_slice-overflow_add-result-2 : goal.write_slice-overflow_add-result-2
write_slice-overflow_add-result-2 t c =
    let fits = tree.load_fits c.requires.0 c.requires.1 in
    let places = fits.places in
    search rules

pub write_slice-returns : goal.write_slice-returns
write_slice-returns t c =
    tree.put_load c.requires.0 c.requires.1 (sym c.listed_again.ensures ∙ c.if-listed_again.false)
    c.put_instruction.ensures

pub write_tree-write_slice-requires : goal.write_tree-write_slice-requires
write_tree-write_slice-requires t c =
    (omega (arith, c.decreases), (c.requires, omega (arith, c.power_of_two-base.ensures, c.if-degree-base.true)))

pub write_tree-returns-then-degree-base : goal.write_tree-returns-then-degree-base
write_tree-returns-then-degree-base t c = c.write_slice.ensures

pub write_tree-top_power-p-requires : goal.write_tree-top_power-p-requires
write_tree-top_power-p-requires t c = omega (arith, from_base (goal.at.write_tree-top_power-p-requires t c).Else-degree-base, pow_pos c.args.split)

pub write_tree-overflow_sub-p : goal.write_tree-overflow_sub-p
write_tree-overflow_sub-p t c =
    omega (arith, tree.top c.requires (from_base (goal.at.write_tree-overflow_sub-p t c).Else-degree-base) c.top_power-p.ensures)

pub write_tree-write_tree-low-requires : goal.write_tree-write_tree-low-requires
write_tree-write_tree-low-requires t c =
    let top = tree.top c.requires (from_base (goal.at.write_tree-write_tree-low-requires t c).Else-degree-base) c.top_power-p.ensures in
    (omega (arith, c.decreases), tree.low_fits c.requires (from_base (goal.at.write_tree-write_tree-low-requires t c).Else-degree-base) c.top_power-p.ensures)

pub write_tree-overflow_sub-degree : goal.write_tree-overflow_sub-degree
write_tree-overflow_sub-degree t c =
    omega (arith, tree.top c.requires (from_base (goal.at.write_tree-overflow_sub-degree t c).Else-degree-base) c.top_power-p.ensures)

pub write_tree-write_tree-high-requires : goal.write_tree-write_tree-high-requires
write_tree-write_tree-high-requires t c =
    let top = tree.top c.requires (from_base (goal.at.write_tree-write_tree-high-requires t c).Else-degree-base) c.top_power-p.ensures in (
      omega (arith, c.decreases),
      tree.high_fits c.requires (from_base (goal.at.write_tree-write_tree-high-requires t c).Else-degree-base) c.top_power-p.ensures
          c.write_tree-low.ensures c.write_tree-low.auto.steps,
    )

pub write_tree-overflow_sub-high : goal.write_tree-overflow_sub-high
write_tree-overflow_sub-high t c =
    tree.lists_rise c.requires (from_base (goal.at.write_tree-overflow_sub-high t c).Else-degree-base) c.top_power-p.ensures c.write_tree-low.ensures
    c.write_tree-low.auto.steps c.write_tree-high.ensures
    c.write_tree-high.auto.steps

pub write_tree-put_instruction-requires : goal.write_tree-put_instruction-requires
write_tree-put_instruction-requires t c =
    tree.combine_fits c.requires (from_base (goal.at.write_tree-put_instruction-requires t c).Else-degree-base) c.top_power-p.ensures c.write_tree-low.ensures
    c.write_tree-low.auto.steps c.write_tree-high.ensures
    c.write_tree-high.auto.steps
    c.combine_of-combine.ensures

pub write_tree-overflow_add-result : goal.write_tree-overflow_add-result
write_tree-overflow_add-result t c =
    let fits = tree.combine_fits c.requires (from_base (goal.at.write_tree-overflow_add-result t c).Else-degree-base)
    c.top_power-p.ensures c.write_tree-low.ensures c.write_tree-low.auto.steps c.write_tree-high.ensures
    c.write_tree-high.auto.steps c.combine_of-combine.ensures in
    let places = fits.places in
    let low_length = c.write_tree-low.auto.steps in
    let high_length = c.write_tree-high.auto.steps in
    search rules

pub write_tree-returns : goal.write_tree-returns
write_tree-returns t c =
    tree.put_both c.requires (from_base (goal.at.write_tree-returns t c).Else-degree-base) c.top_power-p.ensures c.write_tree-low.ensures
    c.write_tree-low.auto.steps c.write_tree-high.ensures
    c.write_tree-high.auto.steps
    c.combine_of-combine.ensures c.put_instruction.ensures
