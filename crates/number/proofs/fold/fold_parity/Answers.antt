-- `number::fold::fold_parity` meets its contract. The tests accept or refuse, and a call that they accept has what the writer asks for.
-- A refused call writes nothing.
use mathlib.Core.Path.{◌≡◌, refl}
use Rattle.std.proofs.Common.{rules, Err}
use Rattle.number.proofs.FoldCall.{foldable, small_enough, fold_refused, fold_done}
use Rattle.number.proofs.Refused.{refused}
use Rattle.number.proofs.fold.fold_parity.Goals as goal

pub returns-in_err-check_fold : goal.returns-in_err-check_fold
returns-in_err-check_fold g c =
    let refusal = c.in_err-check_fold.field-0.0 in
    let is : c.from_residual.result ≡ Err refusal = search rules in
    rw is
    (fold_refused g.C.Coefficient.numbers _ _ _ _ c.fold_count-count.ensures c.has_parity-fits.ensures c.sum_fits-small.ensures
    c.in_err-check_fold.ensures (refused refusal))

pub fold_into-requires : goal.fold_into-requires
fold_into-requires g c = (
  foldable g.C.Coefficient.numbers _ c.args.basis _ _ c.fold_count-count.ensures c.has_parity-fits.ensures c.sum_fits-small.ensures
      c.in_ok-check_fold.ensures refl,
  small_enough g.C.Coefficient.numbers _ c.args.basis _ _ c.fold_count-count.ensures c.has_parity-fits.ensures c.sum_fits-small.ensures
      c.in_ok-check_fold.ensures refl,
)

pub returns : goal.returns
returns g c =
    rw c.transform_of.ensures
    (fold_done g.C.Coefficient.numbers _ _ _ _ c.fold_count-count.ensures c.has_parity-fits.ensures c.sum_fits-small.ensures
    c.in_ok-check_fold.ensures refl c.fold_into.ensures)
