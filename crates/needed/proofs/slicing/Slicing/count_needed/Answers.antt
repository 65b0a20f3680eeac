-- `needed::Slicing::count_needed` meets its contract. Below the base all marks are counted. From the base on base − 1 is such a degree, and the
-- degree needs besides its powers the powers of two from the base on, one for each binary digit above the split.
use Prim.Native.Nat.{◌-◌, ◌^◌, ◌≤◌}
use native.Mathlib.Omega.{arith}
use Rattle.number.proofs.Bits.{few_digits}
use Rattle.needed.proofs.MarkedPowers.{count_needed_small}
use Rattle.needed.proofs.BaseLaws.{split_under, small_planned, needed_from_base}
use Rattle.needed.proofs.slicing.Slicing.count_needed.Goals as goal

pub overflow_sub-below : goal.overflow_sub-below
overflow_sub-below c =
    let planned = small_planned c.args.self.planned.splits c.power_of_two-base.ensures in
    omega arith

pub invariant_of-below : goal.invariant_of-below
invariant_of-below c =
    record { planned = small_planned c.args.self.planned.splits c.power_of_two-base.ensures }

pub overflow_sub-result : goal.overflow_sub-result
overflow_sub-result c =
    let args = c.args in
    let reached : 2 ^ args.self.split ≤ args.self.degree = omega arith in
    omega (arith, c.bit_len.ensures, split_under args.self.degree args.self.split reached)

pub overflow_add-result : goal.overflow_add-result
overflow_add-result c =
    let args = c.args in
    let planned = small_planned c.args.self.planned.splits c.power_of_two-base.ensures in
    let below = count_needed_small args.parity args.basis (c.power_of_two-base.result - 1) args.self.split planned.degrees in
    omega (arith, c.count_swept-2.ensures, c.bit_len.ensures, few_digits args.self.degree c.args.self.planned.degrees.to)

pub returns : goal.returns
returns c =
    let args = c.args in
    let reached : 2 ^ args.self.split ≤ args.self.degree = omega arith in
    let law = needed_from_base args.parity args.basis args.self.degree args.self.split c.args.self.planned.splits.from reached in
    let below = rw c.power_of_two-base.ensures at c.count_swept-2.ensures in
    omega (arith, c.bit_len.ensures)
