-- `lists::list::cut_coeffs` meets its contract. A Monomial cut leaves the coefficients as they are; a Chebyshev cut is the factorisation, whose
-- contract says the same of that basis.
use mathlib.Core.Path.{ap, sym}
use Rattle.algebra.specs.Cut.{cut_at}
use Rattle.algebra.specs.declared.Basis.{Basis}
use Rattle.lists.proofs.list.cut_coeffs.Goals as goal

pub returns-in-Monomial : goal.returns-in-Monomial
unfolding cut_at
returns-in-Monomial g c =
    sym (ap (λ (b : Basis). cut_at g.C.Coefficient.numbers.ops b c.args.p c.args.c.now) c.in-Monomial.is)
