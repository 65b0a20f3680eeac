-- `interpolation::chebyshev_interpolate` meets its contract. Where no test holds, they give what `fill` asks for, and the first places of the buffer get the
-- coefficients; after a refusal nothing is written, and the answer has zero in every other field.
use mathlib.Core.Path.{◌≡◌, refl, sym, ◌∙◌}
use Rattle.std.proofs.Common.{rules, Err}
use Rattle.number.proofs.Refused.{refused}
use Rattle.interpolation.proofs.InterpolateCall.{room, fillable, interpolate_refused, interpolate_done}
use Rattle.interpolation.proofs.chebyshev_interpolate.Goals as goal

pub returns-in_err-check_lent : goal.returns-in_err-check_lent
returns-in_err-check_lent c =
    let refusal = c.in_err-check_lent.field-0.0 in
    let is : c.from_residual.result ≡ Err refusal = search rules in
    rw is (interpolate_refused _ _ _ _ _ c.in_err-check_lent.ensures (refused refusal) refl)

pub slice_bounds-fill-end : goal.slice_bounds-fill-end
slice_bounds-fill-end c = room _ _ _ _ _ c.in_ok-check_lent.ensures refl

pub slice_bounds-fill-end-2 : goal.slice_bounds-fill-end-2
slice_bounds-fill-end-2 c = sym (fillable _ _ _ _ _ c.in_ok-check_lent.ensures refl).places

pub fill-parity-requires : goal.fill-parity-requires
fill-parity-requires c = fillable _ _ _ _ _ c.in_ok-check_lent.ensures refl

pub returns : goal.returns
returns c =
    let passed = c.in_ok-check_lent.ensures in
    let size = c.fill-parity.auto.out ∙ (fillable _ _ _ _ _ passed refl).places in
    let filled = c.fill-parity.ensures in
    interpolate_done _ _ _ _ _ passed refl size filled.0 filled.1 c.change_of_basis.ensures
