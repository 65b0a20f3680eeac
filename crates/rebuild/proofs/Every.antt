-- Tests of every element, over parts of a list; and which lists an i64 holds.
use mathlib.Core.Path.{◌≡◌, refl, sym, ◌∙◌, ap, ap₂}
use mathlib.Core.Bool.{Bool, true, ◌&&◌, and_assoc, and_comm, and-true}
use mathlib.Core.List.{List, [], ◌∷◌, ◌++◌, map, reverse, reverse-cons}
use Prim.Native.Nat.{ℕ, zero, suc, ◌+◌, ◌<◌, ◌^◌}
use native.Mathlib.Numerals.{add-one}
use native.Mathlib.Omega.{arith}
use borrow.Author.Tests.{lt-ltb, ltb-true}
use lib.IntN.{ℤ, pos}
use lib.ListN.{length, get_or, take, drop, take-append-drop}
use lib.Seq.{take-suc}
use lib.Signed.{mag}
use Rattle.algebra.specs.Magnitude.{sum_abs}
use Rattle.number.proofs.BothHold.{and_left, and_right}
use Rattle.rebuild.specs.Undo.{half, fits_i64, every, halved}
use Rattle.rebuild.proofs.Halves.{small_fits}
use Rattle.rebuild.proofs.Machine.{half_mag}

-- two tests together
pub and_both : {a b : Bool} → a ≡ true → b ≡ true → (a && b) ≡ true
and_both s t = rw (s, t)

-- ---- parts

module _ (test : ℤ → Bool) where
  pub every_append : (xs ys : List ℤ) → every test (xs ++ ys) ≡ (every test xs && every test ys)
  unfolding every
  every_append [] ys = refl
  every_append (x ∷ xs) ys = ap (test x &&◌) (every_append xs ys) ∙ sym (and_assoc (test x) (every test xs) (every test ys))

  every_one : (x : ℤ) → every test (x ∷ []) ≡ test x
  unfolding every
  every_one x = and-true (test x)

  every_cons : (x : ℤ) (xs : List ℤ) → every test (x ∷ xs) ≡ (test x && every test xs)
  unfolding every
  every_cons x xs = refl

  pub every_reverse : (xs : List ℤ) → every test (reverse xs) ≡ every test xs
  every_reverse [] = refl
  every_reverse (x ∷ xs) =
      rw reverse-cons
      (every_append (reverse xs) (x ∷ [])
      ∙ ap₂ ◌&&◌ (every_reverse xs) (every_one x)
      ∙ and_comm (every test xs) (test x)
      ∙ sym (every_cons x xs))

  parted : (p : ℕ) (xs : List ℤ) → every test xs ≡ true → (every test (take p xs) && every test (drop p xs)) ≡ true
  parted p xs all = sym (every_append (take p xs) (drop p xs)) ∙ ap (every test) (take-append-drop p xs) ∙ all

  pub every_take : (p : ℕ) (xs : List ℤ) → every test xs ≡ true → every test (take p xs) ≡ true
  every_take p xs all = and_left (every test (take p xs)) (every test (drop p xs)) (parted p xs all)

  pub every_drop : (p : ℕ) (xs : List ℤ) → every test xs ≡ true → every test (drop p xs) ≡ true
  every_drop p xs all = and_right (every test (take p xs)) (every test (drop p xs)) (parted p xs all)

  pub every_both : (xs ys : List ℤ) → every test xs ≡ true → every test ys ≡ true → every test (xs ++ ys) ≡ true
  every_both xs ys s t = every_append xs ys ∙ and_both s t

pub every_none : (test : ℤ → Bool) → every test [] ≡ true
unfolding every
every_none test = refl

-- ---- one element

pub every_at : (test : ℤ → Bool) (xs : List ℤ) (i : ℕ) → every test xs ≡ true → i < length xs → test (get_or xs i (pos 0)) ≡ true
unfolding every
every_at test [] i all inside = absurd (omega arith)
every_at test (x ∷ xs) zero all inside = and_left (test x) (every test xs) all
every_at test (x ∷ xs) (suc i) all inside = every_at test xs i (and_right (test x) (every test xs) all) (omega arith)

-- ---- what an i64 holds

-- the first i numbers and the next
pub every_next : (xs : List ℤ) (i : ℕ) → i < length xs → every fits_i64 (take i xs) ≡ true → mag (get_or xs i (pos 0)) < 2 ^ 63
    → every fits_i64 (take (i + 1) xs) ≡ true
every_next xs i inside first small =
    let one : every fits_i64 (get_or xs i (pos 0) ∷ []) ≡ true =
    every_one fits_i64 (get_or xs i (pos 0)) ∙ lt-ltb (mag (get_or xs i (pos 0))) (2 ^ 63) small in
    ap (λ (k : ℕ). every fits_i64 (take k xs)) (add-one i)
    ∙ ap (every fits_i64) (take-suc xs i (pos 0) inside)
    ∙ every_both fits_i64 (take i xs) (get_or xs i (pos 0) ∷ []) first one

-- numbers whose magnitudes sum below 2^63
pub every_small : (c : List ℤ) → sum_abs c < 2 ^ 63 → every fits_i64 c ≡ true
unfolding every sum_abs
every_small [] small = refl
every_small (x ∷ c) small = and_both (small_fits x (omega arith)) (every_small c (omega arith))

-- halves
half_fits_too : (x : ℤ) → fits_i64 x ≡ true → fits_i64 (half x) ≡ true
half_fits_too x fits = let small = ltb-true (mag x) (2 ^ 63) fits in lt-ltb (mag (half x)) (2 ^ 63) (omega (arith, half_mag x))

halves_fit : (xs : List ℤ) → every fits_i64 xs ≡ true → every fits_i64 (map half xs) ≡ true
unfolding every
halves_fit [] fits = refl
halves_fit (x ∷ xs) fits =
    and_both (half_fits_too x (and_left (fits_i64 x) (every fits_i64 xs) fits)) (halves_fit xs (and_right (fits_i64 x) (every fits_i64 xs) fits))

pub halved_fits : (xs : List ℤ) → every fits_i64 xs ≡ true → every fits_i64 (halved xs) ≡ true
unfolding every halved
halved_fits [] fits = refl
halved_fits (x ∷ xs) fits =
    and_both (and_left (fits_i64 x) (every fits_i64 xs) fits) (halves_fit xs (and_right (fits_i64 x) (every fits_i64 xs) fits))
