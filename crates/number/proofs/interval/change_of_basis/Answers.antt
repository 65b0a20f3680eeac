-- `number::interval::change_of_basis` meets its contract. Each arm makes the record that the definition has for its basis; in the last, 2.0 is read as
-- the sum of 1 and 1.
use mathlib.Core.Path.{sym, ap}
use Rattle.algebra.specs.declared.Basis.{Basis}
use Rattle.number.specs.Interval.{change_of_basis}
use Rattle.number.proofs.Literals.{double_is}
use Rattle.number.proofs.interval.change_of_basis.Goals as goal

pub returns-in-Chebyshev : goal.returns-in-Chebyshev
returns-in-Chebyshev c =
    let args = c.args in
    rw double_is (sym (ap (λ (basis : Basis). change_of_basis basis args.a args.b) c.in-Chebyshev.is))
