-- The test of a parity says just that the coefficients at all places which the parity doesn't allow count as zero: by recursion on the list, from any
-- place on. A whole number counts as zero exactly if it is zero, and beyond a list's end its coefficients are zero.
use mathlib.Core.Path.{◌≡◌, refl, sym, ap, ◌∙◌}
use mathlib.Core.Bool.{Bool, true, false, ◌&&◌, ◌||◌, false≢true}
use mathlib.Core.List.{List, [], ◌∷◌}
use Prim.Native.Nat.{ℕ, zero, suc, ◌+◌, ◌<◌}
use native.Mathlib.Decide.{dec_lt}
use native.Mathlib.Nat.{add-zero}
use native.Mathlib.Omega.{arith}
use borrow.Author.Tests.{eqb-true}
use lib.ListN.{length, get_or, get_or-eq_default}
use lib.IntN.{ℤ, pos, negsuc}
use Rattle.algebra.specs.Allowed.{allows}
use Rattle.algebra.specs.declared.Parity.{Parity}
use Rattle.number.specs.Numbers.{Numbers, whole_numbers}
use Rattle.number.specs.Parity.{has_parity_from}
use Rattle.number.specs.ParityTold.{TestTold, ParityTold}
use Rattle.number.proofs.BothHold.{and_left, and_right}

either : (a z : Bool) → (a || z) ≡ true → a ≡ false → z ≡ true
either true z h none = absurd (false≢true (sym none))
either false z h none = h

module _ {A : Type 0} (numbers : Numbers A) where
  -- the coefficients from place j on, at the places that are not allowed
  abbrev Zeros : Parity → ℕ → List A → Type 0
  Zeros parity j c = (i : ℕ) → i < length c → allows parity (j + i) ≡ false → numbers.is_zero (get_or c i numbers.ops.zero) ≡ true

  test_zeros : (parity : Parity) (j : ℕ) (c : List A) → has_parity_from numbers parity j c ≡ true → Zeros parity j c
  unfolding has_parity_from
  test_zeros parity j [] test i inside not_allowed = absurd (omega arith)
  test_zeros parity j (x ∷ c) test zero inside not_allowed =
      let first = and_left (allows parity j || numbers.is_zero x) (has_parity_from numbers parity (suc j) c) test in
      either (allows parity j) (numbers.is_zero x) first (ap (allows parity) (sym (add-zero j)) ∙ not_allowed)
  test_zeros parity j (x ∷ c) test (suc i) inside not_allowed =
      let rest = and_right (allows parity j || numbers.is_zero x) (has_parity_from numbers parity (suc j) c) test in
      let place : suc j + i ≡ j + suc i = omega arith in
      test_zeros parity (suc j) c rest i (omega arith) (ap (allows parity) place ∙ not_allowed)

  zeros_test : (parity : Parity) (j : ℕ) (c : List A) → Zeros parity j c → has_parity_from numbers parity j c ≡ true
  unfolding has_parity_from
  zeros_test parity j [] zeros = refl
  zeros_test parity j (x ∷ c) zeros =
      rw (zeros_test parity (suc j) c (λ i inside not_allowed. zeros (suc i) (further i inside) (ap (allows parity) (place i) ∙ not_allowed)))
      (by_allowed (allows parity j) refl)
    where
      place : (i : ℕ) → j + suc i ≡ suc j + i
      place i = omega arith

      further : (i : ℕ) → i < length c → suc i < suc (length c)
      further i inside = omega arith

      by_allowed : (a : Bool) → allows parity j ≡ a → ((allows parity j || numbers.is_zero x) && true) ≡ true
      by_allowed true is = rw is
      by_allowed false is = rw (is, zeros 0 (omega arith) (ap (allows parity) (add-zero j) ∙ is))

pub test_told : {A : Type 0} → TestTold A
test_told numbers parity c = (
  λ test j inside not_allowed. test_zeros numbers parity 0 c test j inside (ap (allows parity) (from_zero j) ∙ not_allowed),
  λ zeros. zeros_test numbers parity 0 c (λ i inside not_allowed. zeros i inside (ap (allows parity) (sym (from_zero i)) ∙ not_allowed)),
)
  where
    from_zero : (j : ℕ) → 0 + j ≡ j
    from_zero j = omega arith

-- ---- whole coefficients

-- a whole number counts as zero exactly if it is zero
zero_is : (z : ℤ) → whole_numbers.is_zero z ≡ true → z ≡ pos 0
zero_is (pos zero) test = refl
zero_is (pos (suc n)) test = absurd (let e = eqb-true (suc n) 0 test in omega arith)
zero_is (negsuc n) test = absurd (let e = eqb-true (suc n) 0 test in omega arith)

pub parity_told : ParityTold
parity_told parity c = (
  λ test j not_allowed. by_place test j not_allowed (dec_lt j (length c)),
  λ zeros. (test_told whole_numbers parity c).1 (λ j inside not_allowed. ap whole_numbers.is_zero (zeros j not_allowed)),
)
  where
    by_place : has_parity_from whole_numbers parity 0 c ≡ true → (j : ℕ) → allows parity j ≡ false → Dec (j < length c) → get_or c j (pos 0) ≡ pos 0
    by_place test j not_allowed (yes inside) = zero_is (get_or c j (pos 0)) ((test_told whole_numbers parity c).0 test j inside not_allowed)
    by_place test j not_allowed (no beyond) = get_or-eq_default c (pos 0) (omega arith)
