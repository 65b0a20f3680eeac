-- `number::transform::transform_of` meets its contract. Each arm is the clause of `transform_of` for its parity and basis.
use Rattle.algebra.specs.Transform.{transform_of}
use Rattle.number.proofs.transform.transform_of.Goals as goal

pub returns-in-Full-default : goal.returns-in-Full-default
unfolding transform_of
returns-in-Full-default c = rw c.in-Full-default.is-0

pub returns-in-Even-Monomial : goal.returns-in-Even-Monomial
unfolding transform_of
returns-in-Even-Monomial c = rw (c.in-Even-Monomial.is-0, c.in-Even-Monomial.is-1)

pub returns-in-Even-Chebyshev : goal.returns-in-Even-Chebyshev
unfolding transform_of
returns-in-Even-Chebyshev c = rw (c.in-Even-Chebyshev.is-0, c.in-Even-Chebyshev.is-1)

pub returns-in-Odd-Monomial : goal.returns-in-Odd-Monomial
unfolding transform_of
returns-in-Odd-Monomial c = rw (c.in-Odd-Monomial.is-0, c.in-Odd-Monomial.is-1)

pub returns-in-Odd-Chebyshev : goal.returns-in-Odd-Chebyshev
unfolding transform_of
returns-in-Odd-Chebyshev c = rw (c.in-Odd-Chebyshev.is-0, c.in-Odd-Chebyshev.is-1)
