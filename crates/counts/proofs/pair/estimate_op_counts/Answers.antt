-- `counts::pair::estimate_op_counts` meets its contract: slices, needed powers and the test of the last combine are the definition's. Where that is
-- plain there are two slices or more, so the ct-ct count is at least 1.
use mathlib.Core.Path.{sym, ◌∙◌}
use native.Mathlib.Omega.{arith}
use Rattle.needed.proofs.MarkedPowers.{count_needed_small}
use Rattle.counts.proofs.PairLaws.{plain_two, pair_plain, pair_whole}
use Rattle.counts.proofs.TallyLaws.{tally_range}
use Rattle.counts.proofs.pair.estimate_op_counts.Goals as goal

pub overflow_sub-ct : goal.overflow_sub-ct
overflow_sub-ct c =
    omega (arith, tally_range _ _ _ c.count_slices-tally.ensures)

pub overflow_add-ct : goal.overflow_add-ct
overflow_add-ct c =
    let args = c.args in
    let powers = count_needed_small args.parity args.basis args.slicing.degree args.slicing.split args.slicing.planned.degrees in
    let range = tally_range _ _ _ c.count_slices-tally.ensures in
    omega (arith, c.count_needed-powers.ensures, args.slicing.planned.degrees.to)

pub overflow_sub-result : goal.overflow_sub-result
overflow_sub-result c =
    let two = plain_two _ _ _ (sym c.last_is_plain.ensures ∙ c.if-last_is_plain.true) in
    omega arith

pub overflow_add-result : goal.overflow_add-result
overflow_add-result c =
    omega (arith, tally_range _ _ _ c.count_slices-tally.ensures, c.args.slicing.planned.degrees.to)

pub returns-then-last_is_plain : goal.returns-then-last_is_plain
returns-then-last_is_plain c =
    let args = c.args in
    pair_plain args.parity args.basis args.slicing.degree args.slicing.split
    c.count_slices-tally.ensures c.count_needed-powers.ensures c.last_is_plain.ensures
    c.if-last_is_plain.true

pub returns-else-last_is_plain : goal.returns-else-last_is_plain
returns-else-last_is_plain c =
    let args = c.args in
    pair_whole args.parity args.basis args.slicing.degree args.slicing.split
    c.count_slices-tally.ensures c.count_needed-powers.ensures c.last_is_plain.ensures
    c.if-last_is_plain.false
