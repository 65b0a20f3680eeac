-- `counts::slices::count_slices` meets its contract. Below the base there is one slice; otherwise the tallies of both sides add up, as the
-- slices of the low side and then of the high side are those of the degree. Both sides have fewer binary digits: the measure.
use Prim.Native.Nat.{◌≤◌, ◌<◌, ◌^◌}
use native.Mathlib.Omega.{arith}
use Rattle.number.proofs.Bits.{from_base, cut_at}
use Rattle.counts.proofs.TallyLaws.{tally_range, tally_one, tally_cut}
use Rattle.counts.proofs.slices.+count_slices.Goals as goal

pub returns-then-degree-base : goal.returns-then-degree-base
returns-then-degree-base t c =
    let args = c.args in
    let under : args.degree < 2 ^ args.split = rw c.power_of_two-base.ensures at c.if-degree-base.true in
    tally_one args.parity args.degree args.split under c.allowed_to-n.ensures

pub top_power-p-requires : goal.top_power-p-requires
top_power-p-requires t c =
    from_base _ c.power_of_two-base.ensures c.if-degree-base.false

pub overflow_sub-p : goal.overflow_sub-p
overflow_sub-p t c =
    let cut = cut_at (from_base _ c.power_of_two-base.ensures c.if-degree-base.false) c.top_power-p.ensures in
    omega arith

pub count_slices-low-requires : goal.count_slices-low-requires
count_slices-low-requires t c =
    let cut = cut_at (from_base _ c.power_of_two-base.ensures c.if-degree-base.false) c.top_power-p.ensures in
    (omega arith, (omega (arith, c.requires.0), c.requires.1))

pub overflow_sub-degree : goal.overflow_sub-degree
overflow_sub-degree t c =
    let cut = cut_at (from_base _ c.power_of_two-base.ensures c.if-degree-base.false) c.top_power-p.ensures in
    omega arith

pub count_slices-high-requires : goal.count_slices-high-requires
count_slices-high-requires t c =
    let cut = cut_at (from_base _ c.power_of_two-base.ensures c.if-degree-base.false) c.top_power-p.ensures in
    (omega arith, (omega (arith, c.requires.0), c.requires.1))

pub overflow_add-result : goal.overflow_add-result
overflow_add-result t c =
    let cut = cut_at (from_base _ c.power_of_two-base.ensures c.if-degree-base.false) c.top_power-p.ensures in
    let low_range = tally_range _ _ _ c.count_slices-low.ensures in
    let high_range = tally_range _ _ _ c.count_slices-high.ensures in
    omega (arith, c.requires.0)

pub overflow_add-result-2 : goal.overflow_add-result-2
overflow_add-result-2 t c =
    let cut = cut_at (from_base _ c.power_of_two-base.ensures c.if-degree-base.false) c.top_power-p.ensures in
    let low_range = tally_range _ _ _ c.count_slices-low.ensures in
    let high_range = tally_range _ _ _ c.count_slices-high.ensures in
    omega (arith, c.requires.0)

pub returns : goal.returns
returns t c =
    let args = c.args in
    let reached : 2 ^ args.split ≤ args.degree = rw c.power_of_two-base.ensures at c.if-degree-base.false in
    tally_cut args.parity args.degree args.split reached c.top_power-p.ensures
    c.count_slices-low.ensures c.count_slices-high.ensures
