-- `number::split::parts_of` meets its contract. The index is twice the greatest power of two below it exactly where it is a power of two, so the test
-- chooses the definition's case. Two halves have no distance; that of other parts is taken from them.
use mathlib.Core.Path.{sym, ◌∙◌}
use native.Mathlib.Omega.{arith}
use Rattle.number.proofs.Bits.{power_below_lem}
use Rattle.number.proofs.SplitParts.{split_accepted, parts_doubled, parts_other}
use Rattle.number.proofs.split.parts_of.Goals as goal

pub overflow_add-p : goal.overflow_add-p
overflow_add-p c = omega (arith, power_below_lem c.args.n c.requires.0)

pub returns-then-n-p : goal.returns-then-n-p
returns-then-n-p c =
    let n = c.args.n in
    let p_is = c.power_below-p.ensures in
    sym (split_accepted n c.requires.0 c.requires.1 ∙ parts_doubled n (omega arith))

pub overflow_sub-a : goal.overflow_sub-a
overflow_sub-a c = omega (arith, power_below_lem c.args.n c.requires.0)

pub overflow_sub-b : goal.overflow_sub-b
overflow_sub-b c = omega (arith, power_below_lem c.args.n c.requires.0)

pub returns : goal.returns
returns c =
    let n = c.args.n in
    let p_is = c.power_below-p.ensures in
    rw (c.abs_diff.ensures, p_is)
    (sym (split_accepted n c.requires.0 c.requires.1 ∙ parts_other n c.requires.0 (λ doubled. c.if-n-p.false (omega arith))))
