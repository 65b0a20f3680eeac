-- The tests of the conversion call in two parts, over plain values: each way out of them, what a call that they pass knows, and what it answers and leaves.
use mathlib.Core.Path.{◌≡◌, sym, ◌∙◌, ap}
use mathlib.Core.Bool.{true, false, not}
use mathlib.Core.List.{List, [], ◌∷◌, ◌++◌}
use Prim.Native.Nat.{ℕ, zero, suc, ◌+◌, ◌-◌, ◌≤◌, ◌<◌}
use native.Mathlib.Omega.{arith}
use borrow.Author.Tests.{ltb-false, leb-true, not-false}
use lib.Dec.{ltb}
use lib.IntN.{ℤ}
use lib.ListN.{length, drop}
use lib.Seq.{sets, sets-eq}
use Rattle.algebra.specs.Magnitude.{sum_abs}
use Rattle.algebra.specs.declared.Basis.{Basis}
use Rattle.number.specs.Limits.{sum_limit}
use Rattle.number.specs.Numbers.{whole_numbers}
use Rattle.number.specs.Refusal.{first_refusal, unless_refused}
use Rattle.number.specs.Tests.{too_large, no_room}
use Rattle.number.proofs.FirstRefusal.{none_holds, first_kept, first_of_more}
use Rattle.bases.specs.Convert.{is_whole, new_coefficient, converted}
use Rattle.bases.proofs.Convert.{length_tabulate}
use Rattle.conversion.specs.ConvertCall.{refusal_for, convert_answer, convert_buffer, ConvertCall}
use Rattle.conversion.specs.inside.Converting.{Convertible}
use Rattle.conversion.specs.inside.Tested.{input_tests, input_refusal, output_tests, output_refusal}

-- ---- the ways out

module _ (to : Basis) (c : List ℤ) where
  pub too_high_lem : ltb 20 (length c - 1) ≡ true → 37 ≡ input_refusal to c
  unfolding input_refusal
  too_high_lem h = rw h

  module _ (low : ltb 20 (length c - 1) ≡ false) where
    pub too_large_lem : not (whole_numbers.small c) ≡ true → 3 ≡ input_refusal to c
    unfolding input_refusal
    too_large_lem s = rw (low, s)

    module _ (small : not (whole_numbers.small c) ≡ false) where
      pub not_whole_lem : is_whole to c ≡ false → 38 ≡ input_refusal to c
      unfolding input_refusal
      not_whole_lem w = rw (low, small, w)

      pub whole : is_whole to c ≡ true → 0 ≡ input_refusal to c
      unfolding input_refusal
      whole w = rw (low, small, w)

module _ (new : List ℤ) (room : ℕ) where
  pub new_too_large : not (whole_numbers.small new) ≡ true → 3 ≡ output_refusal new room
  unfolding output_refusal
  new_too_large s = rw s

  module _ (small : not (whole_numbers.small new) ≡ false) where
    pub no_room_lem : ltb room (length new) ≡ true → 21 ≡ output_refusal new room
    unfolding output_refusal
    no_room_lem o = rw (small, o)

    pub enough_room : ltb room (length new) ≡ false → 0 ≡ output_refusal new room
    unfolding output_refusal
    enough_room o = rw (small, o)

-- ---- the two parts are all tests

module _ (to : Basis) (c : List ℤ) (room : ℕ) where
  pub refused_early : 0 < input_refusal to c → refusal_for to c room ≡ input_refusal to c
  unfolding input_refusal refusal_for
  refused_early some = first_kept (input_tests to c) (too_large whole_numbers (converted to c) ∷ no_room room (length c) ∷ []) some

  pub tested_late : input_refusal to c ≡ 0 → refusal_for to c room ≡ output_refusal (converted to c) room
  unfolding input_refusal output_refusal refusal_for
  tested_late none =
      first_of_more (input_tests to c) (too_large whole_numbers (converted to c) ∷ no_room room (length c) ∷ [])
      (omega arith, (omega arith, (omega arith, tt))) none
      ∙ ap (λ (n : ℕ). first_refusal (too_large whole_numbers (converted to c) ∷ no_room room n ∷ []))
      (sym (length_tabulate (length c) (new_coefficient to c)))

-- ---- what a call that every test passes knows

pub ready : (c : List ℤ) → ltb 20 (length c - 1) ≡ false → whole_numbers.small c ≡ true → Convertible c
ready c low small =
    let few = ltb-false 20 (length c - 1) low in record { few = omega arith; small = leb-true (sum_abs c) sum_limit small }

pub input_ready : (to : Basis) (c : List ℤ) → input_refusal to c ≡ 0 → Convertible c
unfolding input_refusal
input_ready to c none =
    let all = none_holds (input_tests to c) (omega arith, (omega arith, (omega arith, tt))) none in
    ready c all.0 (not-false (whole_numbers.small c) all.1.0)

pub output_room : (new : List ℤ) (room : ℕ) → output_refusal new room ≡ 0 → length new ≤ room
unfolding output_refusal
output_room new room none =
    let all = none_holds (output_tests new room) (omega arith, (omega arith, tt)) none in
    ltb-false room (length new) all.1.0

-- ---- what it answers and leaves

pub call_refused : (to : Basis) (c out : List ℤ) (k : ℕ) → k ≡ refusal_for to c (length out) → 0 < k
    → ConvertCall to c out (record { refusal = k; count = 0 }) out
unfolding convert_answer convert_buffer unless_refused
call_refused to c out zero is some = absurd (omega arith)
call_refused to c out (suc k) is some = record { answer = rw (sym is); buffer = rw (sym is) }

pub call_refused_early : (to : Basis) (c out : List ℤ) (k : ℕ) → k ≡ input_refusal to c → 0 < k → ConvertCall to c out (record { refusal = k; count = 0 }) out
call_refused_early to c out k is some =
    call_refused to c out k (is ∙ sym (refused_early to c (length out) (omega (arith, is)))) some

pub call_done : (to : Basis) (c out left : List ℤ) → refusal_for to c (length out) ≡ 0 → left ≡ sets out 0 (converted to c)
    → ConvertCall to c out (record { refusal = 0; count = length c }) left
unfolding convert_answer convert_buffer unless_refused
call_done to c out left none is = record { answer = rw none; buffer = rw none is }

-- a list and what stands behind it is that list written over the first places
pub front_written : (new out : List ℤ) → length new ≤ length out → new ++ drop (length new) out ≡ sets out 0 new
front_written new out room =
    let start : 0 + length new ≡ length new = omega arith in
    sym (sets-eq new out 0 (omega arith) ∙ ap (λ (n : ℕ). new ++ drop n out) start)
