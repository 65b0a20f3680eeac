-- `lists::count::low_lists` meets its contract: a degree from the base on has more binary digits than the split says, and at most 12.
use native.Mathlib.Omega.{arith}
use Rattle.number.proofs.Bits.{few_digits}
use Rattle.needed.proofs.BaseLaws.{split_under}
use Rattle.lists.proofs.count.low_lists.Goals as goal

pub overflow_sub-bit_len : goal.overflow_sub-bit_len
overflow_sub-bit_len c = omega (arith, split_under c.args.degree c.args.split c.requires.0)

pub overflow_sub-bit_len-2 : goal.overflow_sub-bit_len-2
overflow_sub-bit_len-2 c = omega (arith, split_under c.args.degree c.args.split c.requires.0)

pub power_of_two-requires : goal.power_of_two-requires
power_of_two-requires c = omega (arith, few_digits c.args.degree c.requires.1)
