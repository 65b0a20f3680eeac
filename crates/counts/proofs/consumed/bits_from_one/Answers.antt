-- `counts::consumed::bits_from_one` meets its contract: both chains are the definition's. They have at most 32 ct-ct multiplications of at most
-- 65,535 bits each, so that no product or sum overflows.
use mathlib.Core.Path.{sym, ◌∙◌}
use native.Mathlib.Omega.{arith}
use Rattle.counts.proofs.ConsumedLaws.{bits_from_one, pure_range, before_range, weight_small}
use Rattle.counts.proofs.consumed.bits_from_one.Goals as goal

pub overflow_mul-pure : goal.overflow_mul-pure
overflow_mul-pure c =
    let chain = pure_range c.args.degree c.requires.0 in
    omega (arith, weight_small c.pure_chain.ensures chain c.requires.1)

pub overflow_mul-before : goal.overflow_mul-before
overflow_mul-before c =
    let chain = before_range c.args.strategy c.args.degree c.requires.0 in
    omega (arith, weight_small c.chain_before.ensures chain c.requires.1)

pub overflow_add-before : goal.overflow_add-before
overflow_add-before c =
    let chain = before_range c.args.strategy c.args.degree c.requires.0 in
    omega (arith, weight_small c.chain_before.ensures chain c.requires.1, c.requires.2)

pub returns : goal.returns
returns c =
    let args = c.args in
    c.max.ensures
    ∙ rw (c.chain_before.ensures, c.pure_chain.ensures)
    (sym (bits_from_one args.strategy args.degree args.input args.coeff c.requires.0.from))
