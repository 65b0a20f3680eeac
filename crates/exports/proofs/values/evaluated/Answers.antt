-- With a known basis it is the call's own value for it, and else refusal 43 with +0.
use mathlib.Core.Path.{refl}
use Rattle.flat.specs.Unknown.{when_known}
use Rattle.flat.proofs.Reading.{basis_read, no_basis, refused_told}
use Rattle.flat.specs.Flat.{value_refused}
use Rattle.flat.specs.declared.flat.CValue.{CValue}
use Rattle.exports.proofs.values.evaluated.Goals as goal

pub returns-in_err-try_from : goal.returns-in_err-try_from
returns-in_err-try_from c =
    refused_told (λ (value : CValue). value) _ value_refused _ _ c.from_residual.ensures.1 refl (no_basis c.in_err-try_from.ensures.1)

pub returns : goal.returns
unfolding when_known
returns c =
    let basis = basis_read _ c.in_ok-try_from.ensures in
    rw (basis.0, c.evaluate_coeffs.ensures, basis.1)
