-- `counts::choice::min_mult` meets its contract. Up to one binary digit the split is 1, by definition.
-- Otherwise the degree is not 0 and has 2 to 12 digits, which is what the search for the best split asks, and there is only one such split.
use Prim.Native.Nat.{◌<◌}
use native.Mathlib.Omega.{arith}
use Rattle.number.specs.Bits.{bit_len}
use Rattle.counts.proofs.MinMultLaws.{mult_only}
use Rattle.counts.proofs.choice.min_mult.Goals as goal

pub returns : goal.returns
returns c =
    let args = c.args in
    let two_digits : 1 < bit_len args.degree = omega (arith, c.bit_len-bits.ensures, c.if-bits-le1.false) in
    let smallest = rw c.bit_len-bits.ensures at c.best_split.ensures in
    mult_only args.parity args.basis args.degree two_digits _ smallest
