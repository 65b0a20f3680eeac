-- `set_plan::sizes::set_sizes` meets its contract: past the tests the heads are those of the members by their settings, and the totals are theirs.
use mathlib.Core.Path.{refl, sym}
use Rattle.std.proofs.lemmas.Result.{err_from_is_err_and}
use Rattle.number.proofs.Refused.{refused}
use Rattle.set_plan.proofs.SizesLaws.{settings_alike, settings_pass, sizes_refused, sizes_told}
use Rattle.set_plan.proofs.sizes.set_sizes.Goals as goal

pub returns-in_err-check_sizes : goal.returns-in_err-check_sizes
returns-in_err-check_sizes c =
    let p = err_from_is_err_and c.from_residual.result c.from_residual.ensures.1 in
    rw (p.1, p.2) (sizes_refused c.args.members c.in_err-check_sizes.ensures (refused c.in_err-check_sizes.field-0.0) refl)

pub set_outline-requires : goal.set_outline-requires
set_outline-requires c =
    let passed = sym c.in_ok-check_sizes.ensures in
    rw c.list.ensures (settings_pass c.args.members passed, settings_alike c.args.members passed)

pub returns : goal.returns
returns c = sizes_told c.args.members (sym c.in_ok-check_sizes.ensures) (rw c.list.ensures at c.set_outline.ensures)
