-- The interpolation call over plain values: what a call that every test passes has, and what a call answers and leaves.
use mathlib.Core.Path.{◌≡◌, refl, sym, ap, ◌∙◌}
use mathlib.Core.Bool.{Bool, true, false, not, ◌||◌, true≢false}
use mathlib.Core.List.{List, [], ◌∷◌, ◌++◌}
use Prim.Native.Nat.{ℕ, ◌+◌, ◌<◌, ◌≤◌}
use native.Mathlib.Omega.{arith}
use borrow.Author.Tests.{ltb-false, eqb-true, eqb-false}
use lib.Dec.{ltb, eqb}
use lib.Ieee.{Float}
use lib.ListN.{length, take, drop}
use lib.Seq.{sets-eq, length-take-le}
use Rattle.algebra.specs.declared.Basis.TheVariants.{Chebyshev}
use Rattle.algebra.specs.declared.Parity.{Parity}
use Rattle.algebra.specs.declared.Parity.TheVariants.{Full}
use Rattle.number.specs.Interval.{change_of_basis, no_interval}
use Rattle.number.specs.Limits.{count_limit}
use Rattle.number.specs.Numbers.{float_numbers}
use Rattle.number.specs.Parity.{parity_of}
use Rattle.number.specs.Refusal.{Test, Numbered}
use Rattle.number.specs.Tests.{miscounted, unordered, no_room}
use Rattle.number.specs.declared.interval.Interval.{Interval}
use Rattle.number.proofs.FirstRefusal.{none_holds, when_refused, when_accepted}
use Rattle.interpolation.specs.Interpolate.{coefficients_of}
use Rattle.interpolation.specs.InterpolateCall.{no_interpolation, interpolate_refusal, interpolate_answer, interpolate_buffer, InterpolateCall}
use Rattle.interpolation.specs.inside.Filling.{Fillable}

-- ---- a call that every test passes

none_wrong : (even none many : Bool) → (not even || (none || many)) ≡ false → (even ≡ true) × (none ≡ false) × (many ≡ false)
none_wrong false none many e = absurd (true≢false e)
none_wrong true true many e = absurd (true≢false e)
none_wrong true false true e = absurd (true≢false e)
none_wrong true false false e = (refl, refl, refl)

module _ (nodes values : List Float) (a b : Float) (out : List Float) {k : ℕ} (k_is : k ≡ interpolate_refusal nodes values a b out) where
  -- neither 8 nor 21 holds
  passed : k ≡ 0 → ((miscounted (length nodes) (length values)).0 ≡ false) × (ltb (length out) (length nodes) ≡ false)
  unfolding interpolate_refusal
  passed none =
      let tests : List Test = miscounted (length nodes) (length values) ∷ unordered a b ∷ no_room (length out) (length nodes) ∷ [] in
      let numbered : Numbered tests = (omega arith, (omega arith, (omega arith, tt))) in
      let all = none_holds tests numbered (sym k_is ∙ none) in
      (all.0, all.1.1.0)

  pub room : k ≡ 0 → length nodes ≤ length out
  room none = ltb-false (length out) (length nodes) (passed none).1

  pub fillable : k ≡ 0 → Fillable nodes values (take (length nodes) out)
  fillable none =
      let n = length nodes in
      let counted = none_wrong (eqb n (length values)) (eqb n 0) (ltb count_limit n) (passed none).0 in
      record {
        even = eqb-true n (length values) counted.0;
        some = omega (arith, eqb-false n 0 counted.1);
        few = ltb-false count_limit n counted.2;
        places = length-take-le n out (room none);
      }

  -- ---- what a call answers and leaves

  -- refused: zero in every other field, and the buffer as it was
  pub interpolate_refused : {interval : Interval} → 0 < k → interval ≡ no_interval
      → InterpolateCall nodes values a b out (record { refusal = k; count = 0; parity = Full; interval = interval }) out
  unfolding interpolate_answer interpolate_buffer
  interpolate_refused some interval_is =
      let refusal = interpolate_refusal nodes values a b out in
      let refuses : 0 < refusal = omega (arith, k_is) in
      record { answer = rw (k_is, interval_is) (when_refused refusal _ (no_interpolation refusal) refuses); buffer = when_refused refusal _ out refuses }

  -- accepted: the coefficients stand in the first places, the others are as they were
  pub interpolate_done : {filled : List Float} {parity : Parity} {interval : Interval} → k ≡ 0 → length filled ≡ length nodes
      → parity ≡ parity_of float_numbers (coefficients_of nodes values)
      → filled ≡ coefficients_of nodes values
      → interval ≡ change_of_basis Chebyshev a b
      → InterpolateCall nodes values a b out (record { refusal = 0; count = length nodes; parity = parity; interval = interval })
      (filled ++ drop (length nodes) out)
  unfolding interpolate_answer interpolate_buffer
  interpolate_done none size parity_is Filled-is interval_is =
      let written = coefficients_of nodes values in
      let same : length written ≡ length nodes = ap length (sym Filled-is) ∙ size in
      let enough : 0 + length written ≤ length out = omega (arith, room none) in
      let last : 0 + length written ≡ length nodes = omega arith in
      let accepts = sym k_is ∙ none in
      record {
        answer = rw (parity_is, interval_is) (when_accepted _ _ accepts);
        buffer = rw Filled-is (sym (sets-eq written out 0 enough ∙ rw last) ∙ when_accepted _ _ accepts);
      }
