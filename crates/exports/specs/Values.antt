-- The calls on coefficients below planning, for C: each is its call's own answer, flat, with its own buffer; or refusal 43 with zeros, and the
-- buffer unchanged.
use Rattle.std.specs.Prelude.{◌≡◌, List, ℕ, Float, ℤ}
use Rattle.number.specs.Numbers.{Numbers, float_ops}
use Rattle.number.specs.Evaluate.{evaluate}
use Rattle.number.specs.FoldCall.{fold_answer, fold_buffer, no_fold}
use Rattle.number.specs.Interval.{change_of_basis, no_interval}
use Rattle.interpolation.specs.InterpolateCall.{interpolate_answer, interpolate_buffer}
use Rattle.conversion.specs.ConvertCall.{convert_answer, convert_buffer}
use Rattle.flat.specs.Kinds.{is_basis, basis_numbered, parity_numbered, knows_pair}
use Rattle.flat.specs.Unknown.{unknown_kind, when_known}
use Rattle.flat.specs.Flat.{flat_folded, flat_converted, flat_interval, flat_interpolated}
use Rattle.flat.specs.declared.flat.CFolded.{CFolded}
use Rattle.flat.specs.declared.flat.CConverted.{CConverted}
use Rattle.flat.specs.declared.flat.CValue.{CValue}
use Rattle.flat.specs.declared.flat.CInterval.{CInterval}
use Rattle.flat.specs.declared.flat.CInterpolated.{CInterpolated}

pub record FoldFlat {A : Type 0} (numbers : Numbers A) (parity basis : ℕ) (c out : List A) (r : CFolded) (left : List A) : Type 0 where
  pub answer : r
      ≡ when_known (knows_pair parity basis) (flat_folded (fold_answer numbers (parity_numbered parity) (basis_numbered basis) c out))
      (flat_folded (no_fold unknown_kind))
  pub buffer : left ≡ when_known (knows_pair parity basis) (fold_buffer numbers (parity_numbered parity) (basis_numbered basis) c out) out

pub record ConvertFlat (to : ℕ) (c out : List ℤ) (r : CConverted) (left : List ℤ) : Type 0 where
  pub answer : r ≡ when_known (is_basis to) (flat_converted (convert_answer (basis_numbered to) c out)) (record { refusal = unknown_kind; count = 0 })
  pub buffer : left ≡ when_known (is_basis to) (convert_buffer (basis_numbered to) c out) out

-- a value, or +0 after a refusal
abbrev pub evaluate_flat : (basis : ℕ) → List Float → Float → CValue
evaluate_flat basis c x =
    when_known (is_basis basis)
    (record { refusal = 0; value = evaluate float_ops (basis_numbered basis) c x })
    (record { refusal = unknown_kind; value = float_ops.zero })

abbrev pub change_flat : (basis : ℕ) → Float → Float → CInterval
change_flat basis a b = when_known (is_basis basis) (flat_interval 0 (change_of_basis (basis_numbered basis) a b)) (flat_interval unknown_kind no_interval)

pub record InterpolateFlat (nodes values : List Float) (a b : Float) (out : List Float) (r : CInterpolated) (left : List Float) : Type 0 where
  pub answer : r ≡ flat_interpolated (interpolate_answer nodes values a b out)
  pub buffer : left ≡ interpolate_buffer nodes values a b out
