-- `plan::write::place_coeffs` meets its contract: with folding the fold is written, without it the coefficients are copied.
use mathlib.Core.Path.{sym, ap, ◌∙◌}
use mathlib.Core.Bool.{Bool}
use borrow.Author.Tests.{le-leb}
use lib.Seq.{sets}
use Rattle.algebra.specs.Magnitude.{sum_abs}
use Rattle.number.specs.Limits.{sum_limit}
use Rattle.plan.specs.PlanCall.{planned_coefficients}
use Rattle.plan.proofs.write.place_coeffs.Goals as goal

pub fold_into-requires : goal.fold_into-requires
fold_into-requires c = (c.requires.foldable c.if-fold.true, le-leb (sum_abs c.args.c.now) sum_limit c.requires.sum_limit_lem)

pub returns-then-fold : goal.returns-then-fold
returns-then-fold c =
    c.fold_into.ensures
    ∙ ap (λ (t : Bool). sets c.args.out.now 0 (planned_coefficients t c.args.parity c.args.basis c.args.c.now))
    (sym c.if-fold.true)

pub returns-else-fold : goal.returns-else-fold
returns-else-fold c =
    c.copy_coeffs.ensures
    ∙ ap (λ (t : Bool). sets c.args.out.now 0 (planned_coefficients t c.args.parity c.args.basis c.args.c.now))
    (sym c.if-fold.false)

pub copy_coeffs-requires : goal.copy_coeffs-requires
copy_coeffs-requires c = c.requires.copy_room c.if-fold.false
