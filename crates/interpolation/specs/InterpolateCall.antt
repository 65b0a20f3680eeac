-- The interpolation call ("Interpolation" and "Refusals"): its tests in order, its answer, and what it leaves in the buffer.
use Rattle.std.specs.Prelude.{◌≡◌, List, [], ◌∷◌, ℕ, length, Float, Result}
use Rattle.std.proofs.lemmas.List.Edits.{sets}
use Rattle.algebra.specs.declared.Basis.TheVariants.{Chebyshev}
use Rattle.algebra.specs.declared.Parity.{Parity}
use Rattle.algebra.specs.declared.Parity.TheVariants.{Full}
use Rattle.number.specs.Interval.{change_of_basis, no_interval}
use Rattle.number.specs.Numbers.{float_numbers}
use Rattle.number.specs.Parity.{parity_of}
use Rattle.number.specs.Refusal.{first_refusal, unless_refused}
use Rattle.number.specs.Refused.{numbered}
use Rattle.number.specs.declared.interval.Interval.{Interval}
use Rattle.number.specs.declared.refusal.Refusal.{Refusal}
use Rattle.number.specs.Tests.{unordered, miscounted, no_room}
use Rattle.interpolation.specs.Interpolate.{coefficients_of}
use Rattle.interpolation.specs.declared.Interpolation.{Interpolation}

-- the call's answer in numbers: its refusal, or 0 with how many coefficients there are, their parity, and the interval with its change pair
pub record Interpolated : Type 0 where
  pub refusal : ℕ
  pub count : ℕ
  pub parity : Parity
  pub interval : Interval

-- after a refusal zero in every other field, and the first parity
abbrev pub no_interpolation : (refusal : ℕ) → Interpolated
no_interpolation refusal = record { refusal = refusal; count = 0; parity = Full; interval = no_interval }

-- what a result says of the answer
abbrev pub interpolated_in : Result Interpolation Refusal → Interpolated
interpolated_in =
    numbered (λ (i : Interpolation). record { refusal = 0; count = i.count; parity = i.parity; interval = i.interval }) no_interpolation

module _ (nodes values : List Float) (a b : Float) (out : List Float) where
  -- 8, 7, and 21 for a buffer without a place for each coefficient
  unfoldable pub interpolate_refusal : ℕ
  interpolate_refusal =
      first_refusal (miscounted (length nodes) (length values) ∷ unordered a b ∷ no_room (length out) (length nodes) ∷ [])

  -- the answer: how many coefficients, their parity, and the interval with its change pair
  unfoldable pub interpolate_answer : Interpolated
  interpolate_answer =
      unless_refused interpolate_refusal (record {
        refusal = 0;
        count = length nodes;
        parity = parity_of float_numbers (coefficients_of nodes values);
        interval = change_of_basis Chebyshev a b;
      }) (no_interpolation interpolate_refusal)

  -- the buffer: the coefficients in its first places, and the places beyond unchanged; after a refusal all of it unchanged
  unfoldable pub interpolate_buffer : List Float
  interpolate_buffer = unless_refused interpolate_refusal (sets out 0 (coefficients_of nodes values)) out

  -- what the call says, and what it leaves in the buffer
  pub record InterpolateCall (r : Interpolated) (left : List Float) : Type 0 where
    pub answer : r ≡ interpolate_answer
    pub buffer : left ≡ interpolate_buffer
