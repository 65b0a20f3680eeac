-- `rebuild::undo::undo_cut` meets its contract. In the Monomial basis the two parts side by side are the coefficients, and every number fits as it came.
-- In the Chebyshev basis `undo_chebyshev` undoes the cut.
use mathlib.Core.Path.{ap, ◌∙◌}
use lib.ListN.{take, drop}
use Rattle.algebra.specs.declared.Basis.{Basis}
use Rattle.rebuild.specs.Undo.{undone}
use Rattle.rebuild.proofs.UndoLaws.{undo_monomial}
use Rattle.rebuild.proofs.undo.undo_cut.Goals as goal

pub returns-in-Monomial : goal.returns-in-Monomial
returns-in-Monomial c =
    ap (λ (b : Basis). undone b (take c.args.p c.args.c.now) (drop c.args.p c.args.c.now)) c.in-Monomial.is
    ∙ undo_monomial c.args.p c.args.c.now c.requires.1.1
