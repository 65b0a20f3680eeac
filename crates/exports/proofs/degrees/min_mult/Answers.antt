-- With two known kinds the answer is the call's own answer for them, and else refusal 43.
use mathlib.Core.Path.{refl}
use Rattle.counts.specs.Calls.{no_split}
use Rattle.flat.specs.Unknown.{when_known}
use Rattle.flat.specs.Flat.{flat_split}
use Rattle.flat.proofs.Reading.{basis_read, parity_read, no_basis, no_parity, pair_read, pair_without_parity, pair_without_basis, refused_told}
use Rattle.exports.proofs.degrees.min_mult.Goals as goal

pub returns-in_err-try_from : goal.returns-in_err-try_from
returns-in_err-try_from c =
    refused_told flat_split _ no_split _ _ c.from_residual.ensures.1 refl (pair_without_parity _ _ (no_parity c.in_err-try_from.ensures.1))

pub returns-in_err-try_from-2 : goal.returns-in_err-try_from-2
returns-in_err-try_from-2 c =
    let parity = parity_read _ c.in_ok-try_from.ensures in
    refused_told flat_split _ no_split _ _ c.from_residual-in_err-try_from-2.ensures.1 refl
    (pair_without_basis _ _ parity.0 (no_basis c.in_err-try_from-2.ensures.1))

pub returns : goal.returns
unfolding when_known
returns c =
    let parity = parity_read _ c.in_ok-try_from.ensures in
    let basis = basis_read _ c.in_ok-try_from-2.ensures in
    rw (pair_read _ _ parity.0 basis.0, c.min_mult_split.ensures, parity.1, basis.1)
