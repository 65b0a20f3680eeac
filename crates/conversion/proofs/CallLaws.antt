-- The conversion call over plain values: each way out of its tests, what a call that they pass knows, and what its answer tells.
use mathlib.Core.Path.{◌≡◌, refl, sym, ◌∙◌, ap}
use mathlib.Core.Bool.{true, false, not}
use mathlib.Core.List.{List}
use Prim.Native.Nat.{ℕ, ◌-◌, ◌≤◌, ◌<◌}
use native.Mathlib.Omega.{arith}
use borrow.Author.Tests.{ltb-false, leb-true, not-false}
use lib.Dec.{ltb}
use lib.IntN.{ℤ}
use lib.ListN.{length}
use lib.Seq.{sets}
use Rattle.algebra.specs.Magnitude.{sum_abs}
use Rattle.algebra.specs.declared.Basis.{Basis}
use Rattle.number.specs.Limits.{sum_limit}
use Rattle.number.specs.Numbers.{whole_numbers}
use Rattle.number.specs.Refusal.{Numbered, NoneHolds}
use Rattle.number.proofs.FirstRefusal.{none_holds, refusal_of, when_refused, when_accepted}
use Rattle.bases.specs.Convert.{is_whole, converted}
use Rattle.conversion.specs.ConvertCall.{Converted, convert_tests, refusal_for, convert_answer, convert_buffer, ConvertCall}

-- ---- the ways out

module _ (to : Basis) (c : List ℤ) (room : ℕ) where
  pub too_high_lem : ltb 20 (length c - 1) ≡ true → 37 ≡ refusal_for to c room
  unfolding refusal_for
  too_high_lem h = rw h

  module _ (low : ltb 20 (length c - 1) ≡ false) where
    pub too_large_lem : not (whole_numbers.small c) ≡ true → 3 ≡ refusal_for to c room
    unfolding refusal_for
    too_large_lem s = rw (low, s)

    module _ (small : not (whole_numbers.small c) ≡ false) where
      pub not_whole_lem : not (is_whole to c) ≡ true → 38 ≡ refusal_for to c room
      unfolding refusal_for
      not_whole_lem w = rw (low, small, w)

      module _ (whole : not (is_whole to c) ≡ false) where
        pub new_too_large : not (whole_numbers.small (converted to c)) ≡ true → 3 ≡ refusal_for to c room
        unfolding refusal_for
        new_too_large f = rw (low, small, whole, f)

        module _ (fits : not (whole_numbers.small (converted to c)) ≡ false) where
          pub no_room_lem : ltb room (length c) ≡ true → 21 ≡ refusal_for to c room
          unfolding refusal_for
          no_room_lem o = rw (low, small, whole, fits, o)

          pub passed : ltb room (length c) ≡ false → 0 ≡ refusal_for to c room
          unfolding refusal_for
          passed o = rw (low, small, whole, fits, o)

-- ---- what a call that every test passes knows

pub tests_numbered : (to : Basis) (c : List ℤ) (room : ℕ) → Numbered (convert_tests to c room)
tests_numbered to c room = (omega arith, (omega arith, (omega arith, (omega arith, (omega arith, tt)))))

module _ (to : Basis) (c : List ℤ) (room : ℕ) (none : refusal_for to c room ≡ 0) where
  tests : NoneHolds (convert_tests to c room)
  unfolding refusal_for
  tests = none_holds (convert_tests to c room) (tests_numbered to c room) none

  pub none_whole : is_whole to c ≡ true
  none_whole = not-false (is_whole to c) tests.1.1.0

  pub none_fits : sum_abs (converted to c) ≤ sum_limit
  none_fits = leb-true (sum_abs (converted to c)) sum_limit (not-false (whole_numbers.small (converted to c)) tests.1.1.1.0)

  pub none_room : length c ≤ room
  none_room = ltb-false room (length c) tests.1.1.1.1.0

-- ---- what is known of a call by its answer

module _ {to : Basis} {c out : List ℤ} {r : Converted} {left : List ℤ} (call : ConvertCall to c out r left) where
  pub refusal_is : r.refusal ≡ refusal_for to c (length out)
  unfolding convert_answer
  refusal_is =
      ap (λ (f : Converted). f.refusal) call.answer ∙ refusal_of (refusal_for to c (length out)) _ _ (λ (f : Converted). f.refusal) refl refl

  -- refused
  module _ (refused : 0 < r.refusal) where
    some_test : 0 < refusal_for to c (length out)
    some_test = omega (arith, refusal_is)

    pub refused_count : r.count ≡ 0
    unfolding convert_answer
    refused_count = ap (λ (f : Converted). f.count) (call.answer ∙ sym (when_refused (refusal_for to c (length out)) _ _ some_test))

    pub refused_buffer : left ≡ out
    unfolding convert_buffer
    refused_buffer = call.buffer ∙ sym (when_refused (refusal_for to c (length out)) _ out some_test)

  -- accepted
  module _ (accepted : r.refusal ≡ 0) where
    pub call_passes : refusal_for to c (length out) ≡ 0
    call_passes = sym refusal_is ∙ accepted

    pub accepted_answer : r ≡ record { refusal = 0; count = length c }
    unfolding convert_answer
    accepted_answer = call.answer ∙ sym (when_accepted _ _ call_passes)

    pub accepted_count : r.count ≡ length c
    accepted_count = ap (λ (f : Converted). f.count) accepted_answer

    pub accepted_buffer : left ≡ sets out 0 (converted to c)
    unfolding convert_buffer
    accepted_buffer = call.buffer ∙ sym (when_accepted _ out call_passes)
