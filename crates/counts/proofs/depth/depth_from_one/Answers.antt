-- `counts::depth::depth_from_one` meets its contract. A degree has 1 to 32 binary digits, which the threshold asks for, and one more does not
-- overflow. The test against the threshold is the definition's.
use native.Mathlib.Omega.{arith}
use Rattle.number.proofs.Bits.{digits_range}
use Rattle.counts.proofs.DepthLaws.{depth_least, depth_more, depth_same}
use Rattle.counts.proofs.depth.depth_from_one.Goals as goal

pub depth_threshold-requires : goal.depth_threshold-requires
depth_threshold-requires c =
    rw c.bit_len-bits.ensures (digits_range c.args.degree c.requires)

pub overflow_add-result : goal.overflow_add-result
overflow_add-result c =
    omega (arith, c.bit_len-bits.ensures, digits_range c.args.degree c.requires)

pub returns-in-MinDepth : goal.returns-in-MinDepth
returns-in-MinDepth c =
    rw c.in-MinDepth.is (depth_least c.args.degree c.requires.from c.bit_len-bits.ensures)

pub returns-then-depth_threshold-degree : goal.returns-then-depth_threshold-degree
returns-then-depth_threshold-degree c =
    rw c.in-MinMult.is
    (depth_more c.args.degree c.requires.from c.bit_len-bits.ensures
    (rw c.depth_threshold.ensures at c.if-depth_threshold-degree.true))

pub returns-else-depth_threshold-degree : goal.returns-else-depth_threshold-degree
returns-else-depth_threshold-degree c =
    rw c.in-MinMult.is
    (depth_same c.args.degree c.requires.from c.bit_len-bits.ensures
    (rw c.depth_threshold.ensures at c.if-depth_threshold-degree.false))
