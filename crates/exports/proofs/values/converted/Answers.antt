-- With a known basis the answer is the call's own answer for it, with the call's own buffer, and else refusal 43 with the buffer unchanged.
use mathlib.Core.Path.{refl}
use Prim.Native.Nat.{ℕ}
use Rattle.conversion.specs.ConvertCall.{Converted}
use Rattle.flat.specs.Unknown.{when_known}
use Rattle.flat.specs.Flat.{flat_converted}
use Rattle.flat.proofs.Reading.{basis_read, no_basis, refused_told, left_told}
use Rattle.exports.proofs.values.converted.Goals as goal

abbrev no_converted : (refusal : ℕ) → Converted
no_converted refusal = record { refusal = refusal; count = 0 }

pub returns-in_err-try_from : goal.returns-in_err-try_from
returns-in_err-try_from c =
    let unknown = no_basis c.in_err-try_from.ensures.1 in
    record {
      answer = refused_told flat_converted _ no_converted _ _ c.from_residual.ensures.1 refl unknown;
      buffer = left_told _ _ unknown;
    }

pub returns : goal.returns
unfolding when_known
returns c =
    let basis = basis_read _ c.in_ok-try_from.ensures in
    record {
      answer = rw (basis.0, c.convert_coeffs.ensures.answer, basis.1);
      buffer = rw (basis.0, c.convert_coeffs.ensures.buffer, basis.1);
    }
