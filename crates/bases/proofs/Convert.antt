-- A conversion's coefficients, place by place, and when they are whole.
use mathlib.Core.Path.{◌≡◌, refl, sym, ◌∙◌, ap, ap₂}
use mathlib.Core.Bool.{Bool, true, false, ◌&&◌, false≢true}
use mathlib.Core.List.{List, [], ◌∷◌}
use Prim.Native.Nat.{ℕ, zero, suc, ◌+◌, ◌*◌, ◌/◌, ◌%◌, ◌≤◌, ◌<◌}
use native.Mathlib.Nat.{add-zero, add-suc, suc-add, zero-add, mod-one, div-add-mod', mul-mod_left, div-le_self}
use native.Mathlib.Omega.{arith}
use borrow.Author.Tests.{eqb-true, eq-eqb}
use lib.Dec.{eqb}
use lib.IntN.{ℤ, pos, negsuc, neg_ℤ, nat_abs, ◌+ℤ◌, ◌*ℤ◌}
use lib.ListN.{length, get_or, replicate}
use lib.Signed.{quot_z}
use Rattle.algebra.specs.Operations.{whole_ops}
use Rattle.algebra.specs.Value.{sum}
use Rattle.algebra.specs.declared.Basis.{Basis}
use Rattle.algebra.proofs.Integers.{integers}
use Rattle.algebra.proofs.Magnitudes.{abs_mul, abs_neg}
use Rattle.algebra.proofs.Sums.{sum_none, sum_suc}
use Rattle.bases.specs.Rows.{denominator}
use Rattle.bases.specs.Convert.{whole_from, tabulate}
use Rattle.bases.specs.Promises.{WholeExactlyIf}
use Rattle.algebra.proofs.RingLaws as R

-- ---- a list by its places

pub length_tabulate : {A : Type 0} (n : ℕ) (f : ℕ → A) → length (tabulate n f) ≡ n
unfolding tabulate
length_tabulate zero f = refl
length_tabulate (suc n) f = ap suc (length_tabulate n (λ i. f (suc i)))

pub get_d_tabulate : {A : Type 0} (n : ℕ) (f : ℕ → A) (i : ℕ) (d : A) → i < n → get_or (tabulate n f) i d ≡ f i
unfolding tabulate
get_d_tabulate zero f i d below = absurd (omega arith)
get_d_tabulate (suc n) f zero d below = refl
get_d_tabulate (suc n) f (suc i) d below = get_d_tabulate n (λ i. f (suc i)) i d (omega arith)

pub tabulate_ext : {A : Type 0} (n : ℕ) (f g : ℕ → A) → ((i : ℕ) → i < n → f i ≡ g i) → tabulate n f ≡ tabulate n g
unfolding tabulate
tabulate_ext zero f g same = refl
tabulate_ext (suc n) f g same = ap₂ ◌∷◌ (same 0 (omega arith)) (tabulate_ext n (λ i. f (suc i)) (λ i. g (suc i)) (λ i below. same (suc i) (omega arith)))

pub tabulate_constant : {A : Type 0} (n : ℕ) (a : A) → tabulate n (λ i. a) ≡ replicate n a
unfolding tabulate
tabulate_constant zero a = refl
tabulate_constant (suc n) a = ap (a ∷◌) (tabulate_constant n a)

-- ---- exact division

pub quotient_exact : (z : ℤ) (m : ℕ) → nat_abs z % m ≡ 0 → quot_z z (pos m) *ℤ pos m ≡ z
quotient_exact (pos n) m none = ap pos (omega (arith, div-add-mod' n m))
quotient_exact (negsuc n) m none =
    let whole : suc n / m * m ≡ suc n = omega (arith, div-add-mod' (suc n) m) in
    R.neg_mul integers (pos (suc n / m)) (pos m) ∙ ap (λ (k : ℕ). neg_ℤ (pos k)) whole

-- by 1
pub quotient_one : (z : ℤ) → quot_z z (pos 1) ≡ z
quotient_one z = sym (integers.mul-one (quot_z z (pos 1))) ∙ quotient_exact z 1 (mod-one (nat_abs z))

-- a quotient is no larger
pub quotient_small : (z : ℤ) (m : ℕ) → nat_abs (quot_z z (pos m)) ≤ nat_abs z
quotient_small (pos n) m = div-le_self n m
quotient_small (negsuc n) m = omega (arith, abs_neg (pos (suc n / m)), div-le_self (suc n) m)

-- a multiple of m
pub multiple_none : (z q : ℤ) (m : ℕ) → z ≡ q *ℤ pos m → nat_abs z % m ≡ 0
multiple_none z q m is = ap (λ (k : ℕ). k % m) (ap nat_abs is ∙ abs_mul q (pos m)) ∙ mul-mod_left (nat_abs q) m

-- a sum of multiples
pub sum_multiple : (f : ℕ → ℤ) (m n : ℕ) → ((k : ℕ) → (q : ℤ) × (f k ≡ q *ℤ pos m)) → (q : ℤ) × (sum whole_ops f n ≡ q *ℤ pos m)
sum_multiple f m zero each = (pos 0, sum_none whole_ops f ∙ sym (R.zero-mul integers (pos m)))
sum_multiple f m (suc n) each =
    let before = sum_multiple f m n each in
    let last = each n in (
      before.0 +ℤ last.0,
      sum_suc whole_ops f n ∙ ap₂ ◌+ℤ◌ before.1 last.1 ∙ sym (integers.distrib before.0 last.0 (pos m)),
    )

-- ---- when a conversion is whole

-- each coefficient of a list that stands from place n on
abbrev Each : (to : Basis) → (n : ℕ) → List ℤ → Type 0
Each to n c = (j : ℕ) → j < length c → nat_abs (get_or c j (pos 0)) % denominator to (n + j) ≡ 0

and_left : (a b : Bool) → (a && b) ≡ true → a ≡ true
and_left true b h = refl
and_left false b h = absurd (false≢true h)

and_right : (a b : Bool) → (a && b) ≡ true → b ≡ true
and_right true b h = h
and_right false b h = absurd (false≢true h)

whole_each : (to : Basis) (n : ℕ) (c : List ℤ) → whole_from to n c ≡ true → Each to n c
unfolding whole_from
whole_each to n [] whole j below = absurd (omega arith)
whole_each to n (z ∷ c) whole zero below =
    ap (λ (k : ℕ). nat_abs z % denominator to k) (add-zero n)
    ∙ eqb-true (nat_abs z % denominator to n) 0 (and_left (eqb (nat_abs z % denominator to n) 0) (whole_from to (suc n) c) whole)
whole_each to n (z ∷ c) whole (suc j) below =
    ap (λ (k : ℕ). nat_abs (get_or c j (pos 0)) % denominator to k) (add-suc n j ∙ sym (suc-add n j))
    ∙ whole_each to (suc n) c (and_right (eqb (nat_abs z % denominator to n) 0) (whole_from to (suc n) c) whole) j (omega arith)

each_whole : (to : Basis) (n : ℕ) (c : List ℤ) → Each to n c → whole_from to n c ≡ true
unfolding whole_from
each_whole to n [] each = refl
each_whole to n (z ∷ c) each =
    ap₂ ◌&&◌
    (eq-eqb (nat_abs z % denominator to n) 0 (ap (λ (k : ℕ). nat_abs z % denominator to k) (sym (add-zero n)) ∙ each 0 (omega arith)))
    (each_whole to (suc n) c
    (λ j below. ap (λ (k : ℕ). nat_abs (get_or c j (pos 0)) % denominator to k) (suc-add n j ∙ sym (add-suc n j)) ∙ each (suc j) (omega arith)))

pub whole_exactly_if : WholeExactlyIf
whole_exactly_if to c = (
  λ whole j below. ap (λ (k : ℕ). nat_abs (get_or c j (pos 0)) % denominator to k) (sym (zero-add j)) ∙ whole_each to 0 c whole j below,
  λ each. each_whole to 0 c (λ j below. ap (λ (k : ℕ). nat_abs (get_or c j (pos 0)) % denominator to k) (zero-add j) ∙ each j below),
)
