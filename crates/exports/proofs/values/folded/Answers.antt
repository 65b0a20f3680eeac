-- With two known kinds the answer is the call's own answer for them, with the call's own buffer, and else refusal 43 with the buffer unchanged.
use mathlib.Core.Path.{refl}
use Rattle.number.specs.FoldCall.{no_fold}
use Rattle.flat.specs.Unknown.{when_known}
use Rattle.flat.specs.Flat.{flat_folded}
use Rattle.flat.proofs.Reading.{basis_read, parity_read, no_basis, no_parity, pair_read, pair_without_parity, pair_without_basis, refused_told, left_told}
use Rattle.exports.proofs.values.folded.Goals as goal

pub returns-in_err-try_from : goal.returns-in_err-try_from
returns-in_err-try_from g c =
    let unknown = pair_without_parity _ _ (no_parity c.in_err-try_from.ensures.1) in
    record {
      answer = refused_told flat_folded _ no_fold _ _ c.from_residual.ensures.1 refl unknown;
      buffer = left_told _ _ unknown;
    }

pub returns-in_err-try_from-2 : goal.returns-in_err-try_from-2
returns-in_err-try_from-2 g c =
    let parity = parity_read _ c.in_ok-try_from.ensures in
    let unknown = pair_without_basis _ _ parity.0 (no_basis c.in_err-try_from-2.ensures.1) in
    record {
      answer = refused_told flat_folded _ no_fold _ _ c.from_residual-in_err-try_from-2.ensures.1 refl unknown;
      buffer = left_told _ _ unknown;
    }

pub returns : goal.returns
unfolding when_known
returns g c =
    let parity = parity_read _ c.in_ok-try_from.ensures in
    let basis = basis_read _ c.in_ok-try_from-2.ensures in
    let sure = pair_read _ _ parity.0 basis.0 in
    record {
      answer = rw (sure, c.fold_parity.ensures.answer, parity.1, basis.1);
      buffer = rw (sure, c.fold_parity.ensures.buffer, parity.1, basis.1);
    }
