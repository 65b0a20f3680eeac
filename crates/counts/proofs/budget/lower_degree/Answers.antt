-- `counts::budget::lower_degree` meets its contract. One degree lower leaves none between. Else the degree is above 8 and no power of two,
-- and down to its top power, or for MinMult from the threshold on down to the degree below that, all degrees have the same bits.
use native.Mathlib.Omega.{arith}
use Rattle.number.proofs.Bits.{digits_range}
use Rattle.counts.proofs.SameBits.{one_lower, least_to_power, mult_to_power, mult_to_threshold}
use Rattle.counts.proofs.budget.lower_degree.Goals as goal

pub overflow_sub-result : goal.overflow_sub-result
overflow_sub-result c = omega (arith, c.requires)

pub returns-then-degree-le8 : goal.returns-then-degree-le8
returns-then-degree-le8 c = one_lower c.args.strategy c.args.degree c.requires.from

pub returns-then-degree-power : goal.returns-then-degree-power
returns-then-degree-power c =
    one_lower c.args.strategy c.args.degree c.requires.from

pub depth_threshold-threshold-requires : goal.depth_threshold-threshold-requires
depth_threshold-threshold-requires c =
    rw c.bit_len.ensures (digits_range c.args.degree c.requires)

pub returns-in-MinDepth : goal.returns-in-MinDepth
returns-in-MinDepth c =
    rw c.in-MinDepth.is
    (least_to_power c.args.degree c.requires.from c.top_power-power.ensures c.if-degree-power.false)

pub returns-then-threshold-degree : goal.returns-then-threshold-degree
returns-then-threshold-degree c =
    let reached = rw (c.depth_threshold-threshold.ensures, c.bit_len.ensures) at c.if-threshold-degree.true in
    rw (c.in-MinMult.is, c.depth_threshold-threshold.ensures, c.bit_len.ensures)
    (mult_to_threshold c.args.degree c.requires.from c.if-degree-le8.false reached)

pub returns-else-threshold-degree : goal.returns-else-threshold-degree
returns-else-threshold-degree c =
    let low = rw (c.depth_threshold-threshold.ensures, c.bit_len.ensures) at c.if-threshold-degree.false in
    rw c.in-MinMult.is
    (mult_to_power c.args.degree c.requires.from c.top_power-power.ensures c.if-degree-power.false c.if-degree-le8.false low)
