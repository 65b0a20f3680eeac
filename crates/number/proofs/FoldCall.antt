-- The fold calls over plain values: room for the fold, what a call that every test passes knows, and what a call answers and leaves. One proof
-- for whole numbers and f64.
use mathlib.Core.Path.{◌≡◌, sym, ◌∙◌}
use mathlib.Core.Bool.{Bool, true, false, not}
use mathlib.Core.List.{List, [], ◌∷◌}
use Prim.Native.Nat.{ℕ, zero, suc, ◌-◌, ◌/◌, ◌≤◌, ◌<◌}
use native.Mathlib.Omega.{arith}
use borrow.Author.Tests.{ltb-false, not-false}
use lib.Dec.{ltb}
use lib.ListN.{length, drop}
use lib.Seq.{sets}
use Rattle.algebra.specs.Transform.{transform_of}
use Rattle.algebra.specs.Fold.{every_second, folded_length, fold}
use Rattle.algebra.specs.declared.Basis.{Basis}
use Rattle.algebra.specs.declared.Parity.{Parity}
use Rattle.algebra.specs.declared.Parity.TheVariants.{Full, Even, Odd}
use Rattle.algebra.proofs.FoldPlaces.{length_every_second, fold_length}
use Rattle.number.specs.Limits.{plan_limit}
use Rattle.number.specs.Numbers.{Numbers}
use Rattle.number.specs.Refusal.{Test, Numbered, unless_refused}
use Rattle.number.specs.Parity.{has_parity}
use Rattle.number.specs.Tests.{too_high, is_full, full_parity, too_low}
use Rattle.number.specs.FoldCall.{no_fold, fold_refusal, fold_answer, fold_buffer, FoldCall}
use Rattle.number.specs.inside.Folding.{Foldable, refusal_by}
use Rattle.number.proofs.FirstRefusal.{none_holds}
use Rattle.number.proofs.EverySecond.{length_odd_places}

-- room for the fold is room for the coefficients that are copied
pub even_room : {A : Type 0} {c out : List A} → Foldable Even c out → length (every_second c) ≤ length out
unfolding folded_length
even_room {c = c} f = omega (arith, length_every_second c, f.room)

pub odd_room : {A : Type 0} {c out : List A} → Foldable Odd c out → length (every_second (drop 1 c)) ≤ length out
unfolding folded_length
odd_room {c = c} f = omega (arith, length_odd_places c, f.room)

-- and of an odd Chebyshev fold, half as many places as coefficients
pub odd_places : {A : Type 0} {c out : List A} → Foldable Odd c out → length c / 2 ≤ length out
unfolding folded_length
odd_places f = f.room

-- ---- a call that every test passes

pub record Accepted (parity : Parity) (small short : Bool) : Type 0 where
  pub not_full : is_full parity ≡ false
  pub is_small : small ≡ true
  pub room : short ≡ false

pub accepted : (parity : Parity) (n : ℕ) (fits small short : Bool) → refusal_by parity n fits small short ≡ 0 → Accepted parity small short
unfolding refusal_by
accepted parity n fits small short none =
    let tests : List Test = too_high plan_limit (n - 1) ∷ full_parity parity ∷ too_low parity (n - 1) ∷ (not fits, 4) ∷ (not small, 3) ∷ (short, 21) ∷ [] in
    let numbered : Numbered tests = (omega arith, (omega arith, (omega arith, (omega arith, (omega arith, (omega arith, tt)))))) in
    let passed = none_holds tests numbered none in
    record { not_full = passed.1.0; is_small = not-false small passed.1.1.1.1.0; room = passed.1.1.1.1.1.0 }

-- ---- what a call answers and leaves

module _ {A : Type 0} (numbers : Numbers A) (parity : Parity) (basis : Basis) (c out : List A) {count refusal : ℕ} {fits small : Bool}
    (count_is : count ≡ folded_length parity (length c)) (fits-is : fits ≡ has_parity numbers parity c) (small_is : small ≡ numbers.small c)
    (refusal_is : refusal ≡ refusal_by parity (length c) fits small (ltb (length out) count)) where
  written : length (fold numbers.ops parity basis c) ≡ count
  written = fold_length numbers.ops parity basis c ∙ sym count_is

  call_refusal : fold_refusal numbers parity basis c out ≡ refusal
  unfolding fold_refusal refusal_by
  call_refusal = rw written (sym (refusal_is ∙ rw (fits-is, small_is)))

  pub foldable : refusal ≡ 0 → Foldable parity c out
  foldable none =
      let passed = accepted parity (length c) fits small (ltb (length out) count) (sym refusal_is ∙ none) in
      record { not_full = passed.not_full; room = omega (arith, ltb-false (length out) count passed.room) }

  pub small_enough : refusal ≡ 0 → numbers.small c ≡ true
  small_enough none = sym small_is ∙ (accepted parity (length c) fits small (ltb (length out) count) (sym refusal_is ∙ none)).is_small

  pub fold_refused : 0 < refusal → FoldCall numbers parity basis c out (no_fold refusal) out
  unfolding fold_answer fold_buffer unless_refused
  fold_refused some = by_refusal refusal call_refusal some
    where
      by_refusal : (k : ℕ) → fold_refusal numbers parity basis c out ≡ k → 0 < k → FoldCall numbers parity basis c out (no_fold k) out
      by_refusal zero is some = absurd (omega arith)
      by_refusal (suc k) is some = record { answer = rw is; transform = rw is; buffer = rw is }

  pub fold_done : {left : List A} → refusal ≡ 0 → left ≡ sets out 0 (fold numbers.ops parity basis c)
      → FoldCall numbers parity basis c out (record { refusal = 0; transform = transform_of parity basis; parity = Full; count = count }) left
  unfolding fold_answer fold_buffer unless_refused
  fold_done none left_is =
      let is = call_refusal ∙ none in
      record { answer = rw (is, written); transform = rw is; buffer = rw is left_is }
