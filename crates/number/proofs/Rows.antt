-- R_k, and the sum of o_k·R_k. Down a column, from R_i on, each coefficient is the opposite of the one before: 1, -1, 1, .. at place 0 and
-- 2, -2, 2, .. elsewhere. Over f64 the recurrence gives the same numbers, since they are small and f64 is exact there.
-- So over whole numbers a column sums to an alternating sum, once or twice.
use mathlib.Core.Path.{◌≡◌, refl, sym, ap, ap₂, ◌∙◌}
use mathlib.Core.List.{List, [], ◌∷◌, map}
use Prim.Native.Nat.{ℕ, zero, suc, ◌+◌, ◌*◌, ◌≤◌, ◌<◌, ◌^◌}
use native.Mathlib.Nat.{mul-le-mul_left}
use native.Mathlib.Omega.{arith}
use lib.Ieee.{Float}
use lib.IntN.{ℤ, pos, neg_ℤ, nat_abs, ◌+ℤ◌, ◌-ℤ◌, ◌*ℤ◌, +ℤ_idl}
use Rattle.algebra.specs.Operations.{Operations, whole_ops, double}
use Rattle.algebra.specs.Fold.{times2_t1, coeff_r, add_r, sum_rFrom}
use Rattle.algebra.specs.Magnitude.{sum_abs}
use Rattle.algebra.proofs.Integers.{integers}
use Rattle.algebra.proofs.RingLaws.{mul_neg}
use Rattle.algebra.proofs.Solve.{◌:=◌, num as const, ◌:+◌, ◌:-◌, ◌:*◌, :-◌, ring}
use Rattle.algebra.proofs.OddCoefficients.{coeff_zero, coeff_one, coeff_later}
use Rattle.algebra.proofs.Magnitudes.{abs_neg, abs_add, abs_sub, abs_mul, abs_double}
use Rattle.algebra.proofs.FoldMagnitudes.{abs_coeff_r}
use Rattle.number.specs.Numbers.{float_ops}
use Rattle.number.specs.Exact.{num}
use Rattle.number.proofs.Exact.{exact}

abbrev R : ℕ → ℕ → ℤ
R k i = coeff_r whole_ops k i

-- ---- coefficient i of R_i, R_(i+1), ..

-- R_i has 1 at place i if that is 0
pub lead_first : (i : ℕ) → i ≡ 0 → coeff_r whole_ops i i ≡ pos 1
unfolding coeff_r
lead_first zero e = refl
lead_first (suc i) e = absurd (omega arith)

-- and else 2
pub lead_later : (i : ℕ) → (i ≡ 0 → ⊥) → coeff_r whole_ops i i ≡ pos 2
unfolding coeff_r
lead_later zero h = absurd (h refl)
lead_later (suc zero) h = refl
lead_later (suc (suc i)) h = coeff_later integers (suc i) i ∙ lead_later (suc i) (λ (e : suc i ≡ 0). omega arith)

-- the next has the other sign
next_is : (i k : ℕ) → i ≤ k → R (suc k) i ≡ neg_ℤ (R k i)
next_is zero k h = coeff_zero integers k
next_is (suc i) zero h = absurd (omega arith)
next_is (suc zero) (suc k) h =
    coeff_one integers (suc k) ∙ ap (double whole_ops) (coeff_zero integers k) ∙ mul_neg integers (pos 2) (R k 0)
    ∙ ap neg_ℤ (sym (coeff_one integers k))
next_is (suc (suc i)) (suc k) h = coeff_later integers (suc k) i ∙ next_is (suc i) k (omega arith) ∙ ap neg_ℤ (sym (coeff_later integers k i))

-- none of them is zero
nonzero : (i k : ℕ) → i ≤ k → 0 < nat_abs (R k i)
nonzero zero zero h = omega (arith, ap nat_abs (lead_first 0 refl))
nonzero zero (suc k) h = omega (arith, ap nat_abs (coeff_zero integers k), abs_neg (R k 0), nonzero zero k (omega arith))
nonzero (suc i) zero h = absurd (omega arith)
nonzero (suc zero) (suc k) h = omega (arith, ap nat_abs (coeff_one integers k), abs_double (R k 0), nonzero zero k (omega arith))
nonzero (suc (suc i)) (suc k) h = rw (coeff_later integers k i) (nonzero (suc i) k (omega arith))

-- ---- over f64

-- two sums
sums : {x y z : Float} (a b c : ℤ) → x ≡ num a → y ≡ num b → z ≡ num c → nat_abs a ≤ 8 → nat_abs b ≤ 8 → nat_abs c ≤ 8
    → float_ops.add (float_ops.add x y) z ≡ num (a +ℤ b +ℤ c)
sums a b c ex ey ez ha hb hc =
    let first = abs_add a b in
    let both = abs_add (a +ℤ b) c in
    ap₂ float_ops.add (ap₂ float_ops.add ex ey ∙ exact.added a b (omega arith) (omega arith) (omega arith)) ez
    ∙ exact.added (a +ℤ b) c (omega arith) (omega arith) (omega arith)

-- 2T_1 times a row of numbers at most 2
times_num : (r : ℕ → Float) (s : ℕ → ℤ) → ((i : ℕ) → r i ≡ num (s i)) → ((i : ℕ) → nat_abs (s i) ≤ 2) → (i : ℕ)
    → (times2_t1 float_ops r i ≡ num (times2_t1 whole_ops s i)) × (nat_abs (times2_t1 whole_ops s i) ≤ 8)
times_num r s e h zero =
    let all = abs_add (pos 0) (s 1) in
    let next = h 1 in
    (ap₂ float_ops.add exact.zero_is (e 1) ∙ exact.added (pos 0) (s 1) (omega arith) (omega arith) (omega arith), omega arith)
times_num r s e h (suc zero) =
    let twice = abs_mul (pos 2) (s 0) in
    let double_is = ap (float_ops.mul (float_ops.add float_ops.one float_ops.one)) (e 0)
    ∙ exact.doubled (s 0) (omega (arith, h 0)) (omega (arith, h 0)) in (
      sums (pos 0) (pos 2 *ℤ s 0) (s 2) exact.zero_is double_is (e 2) (omega arith) (omega (arith, h 0)) (omega (arith, h 2)),
      omega (arith, abs_add (pos 0 +ℤ pos 2 *ℤ s 0) (s 2), abs_add (pos 0) (pos 2 *ℤ s 0), h 0, h 2),
    )
times_num r s e h (suc (suc i)) = (
  sums (pos 0) (s (suc i)) (s (suc (suc (suc i)))) exact.zero_is (e (suc i)) (e (suc (suc (suc i)))) (omega arith)
      (omega (arith, h (suc i))) (omega (arith, h (suc (suc (suc i))))),
  omega (
    arith,
    abs_add (pos 0 +ℤ s (suc i)) (s (suc (suc (suc i)))),
    abs_add (pos 0) (s (suc i)),
    h (suc i),
    h (suc (suc (suc i))),
  ),
)

row_zero : (i : ℕ) → coeff_r float_ops 0 i ≡ num (R 0 i)
unfolding coeff_r
row_zero zero = exact.one_is
row_zero (suc i) = exact.zero_is

row_one : (i : ℕ) → coeff_r float_ops 1 i ≡ num (R 1 i)
unfolding coeff_r
row_one zero = ap float_ops.neg exact.one_is ∙ exact.opposite (pos 1) (omega arith) (omega arith)
row_one (suc zero) = ap₂ float_ops.add exact.one_is exact.one_is ∙ exact.added (pos 1) (pos 1) (omega arith) (omega arith) (omega arith)
row_one (suc (suc i)) = exact.zero_is

row_next : (k : ℕ) → ((i : ℕ) → coeff_r float_ops k i ≡ num (R k i)) → ((i : ℕ) → coeff_r float_ops (suc k) i ≡ num (R (suc k) i))
    → (i : ℕ) → coeff_r float_ops (suc (suc k)) i ≡ num (R (suc (suc k)) i)
unfolding coeff_r
row_next k e f i =
    let t = times_num (coeff_r float_ops (suc k)) (coeff_r whole_ops (suc k)) f (abs_coeff_r (suc k)) i in
    let r = times2_t1 whole_ops (coeff_r whole_ops (suc k)) i in
    let few = abs_coeff_r k i in
    ap₂ float_ops.sub t.0 (e i) ∙ exact.subtracted r (R k i) (omega (arith, t.1)) (omega arith) (omega (arith, t.1, abs_sub r (R k i)))

rows : (k : ℕ) → ((i : ℕ) → coeff_r float_ops k i ≡ num (R k i)) × ((i : ℕ) → coeff_r float_ops (suc k) i ≡ num (R (suc k) i))
rows zero = (row_zero, row_one)
rows (suc k) = let h = rows k in (h.1, row_next k h.0 h.1)

-- R_k has the same whole numbers over f64
pub coeff_num : (k i : ℕ) → coeff_r float_ops k i ≡ num (coeff_r whole_ops k i)
coeff_num k i = (rows k).0 i

-- down a column each is the opposite of the one before
pub next_coeff : (i k : ℕ) → i ≤ k → coeff_r float_ops (suc k) i ≡ float_ops.neg (coeff_r float_ops k i)
next_coeff i k h =
    coeff_num (suc k) i ∙ ap num (next_is i k h)
    ∙ sym (ap float_ops.neg (coeff_num k i) ∙ exact.opposite (R k i) (omega (arith, abs_coeff_r k i)) (nonzero i k h))

-- a term of a column's sum
abs_term : (o : ℤ) (k i : ℕ) → nat_abs (o *ℤ R k i) ≤ 2 * nat_abs o
abs_term o k i = omega (arith, abs_mul o (R k i), mul-le-mul_left (nat_abs o) (abs_coeff_r k i))

-- a column's sum, of whole numbers
sum_num : (i k : ℕ) (acc : ℤ) (os : List ℤ) → nat_abs acc + 2 * sum_abs os ≤ 2 ^ 53
    → add_r float_ops i k (num acc) (map num os) ≡ num (add_r whole_ops i k acc os)
unfolding add_r sum_abs
sum_num i k acc [] h = refl
sum_num i k acc (o ∷ os) h =
    let v = R k i in
    let term = abs_term o k i in
    let more = abs_add acc (o *ℤ v) in
    ap (λ (x : Float). add_r float_ops i (suc k) x (map num os))
    (ap (λ (w : Float). float_ops.add (num acc) (float_ops.mul (num o) w)) (coeff_num k i)
    ∙ exact.added_product acc o v (omega arith) (omega arith) (abs_coeff_r k i) (omega arith) (omega arith))
    ∙ sum_num i (suc k) (acc +ℤ o *ℤ v) os (omega arith)

pub rows_num : (i : ℕ) (os : List ℤ) → 2 * sum_abs os ≤ 2 ^ 53 → sum_rFrom float_ops i (map num os) ≡ map num (sum_rFrom whole_ops i os)
unfolding sum_rFrom sum_abs
rows_num i [] h = refl
rows_num i (o ∷ os) h =
    ap₂ ◌∷◌ (ap (λ (x : Float). add_r float_ops i i x (map num (o ∷ os))) exact.zero_is ∙ sum_num i i (pos 0) (o ∷ os) (omega arith))
    (rows_num (suc i) os (omega arith))

-- ---- a column's sum, a term at a time

module _ {A : Type 0} (𝓞 : Operations A) where
  pub add_more : (i k : ℕ) (acc o : A) (os : List A) → add_r 𝓞 i k acc (o ∷ os) ≡ add_r 𝓞 i (suc k) (𝓞.add acc (𝓞.mul o (coeff_r 𝓞 k i))) os
  unfolding add_r
  add_more i k acc o os = refl

  pub add_end : (i k : ℕ) (acc : A) → add_r 𝓞 i k acc [] ≡ acc
  unfolding add_r
  add_end i k acc = refl

-- ---- over whole numbers

-- o_0 - o_1 + o_2 - ..
unfoldable pub alternating : List ℤ → ℤ
alternating [] = pos 0
alternating (o ∷ os) = o -ℤ alternating os

pub alternating_end : alternating [] ≡ pos 0
unfolding alternating
alternating_end = refl

pub alternating_more : (o : ℤ) (os : List ℤ) → alternating (o ∷ os) ≡ o -ℤ alternating os
unfolding alternating
alternating_more o os = refl

pub alternating_small : (os : List ℤ) → nat_abs (alternating os) ≤ sum_abs os
unfolding alternating sum_abs
alternating_small [] = omega arith
alternating_small (o ∷ os) = omega (arith, abs_sub o (alternating os), alternating_small os)

-- a column sums to the alternating sum, as often as R_k has it at its place
sum_is : (i k : ℕ) (acc : ℤ) (os : List ℤ) → i ≤ k → add_r whole_ops i k acc os ≡ acc +ℤ alternating os *ℤ R k i
unfolding add_r alternating
sum_is i k acc [] h = ring integers (acc ∷ R k i ∷ []) (λ a v. a := a :+ const 0 :* v) refl
sum_is i k acc (o ∷ os) h =
    let v = R k i in
    sum_is i (suc k) (acc +ℤ o *ℤ v) os (omega arith)
    ∙ ap (λ (w : ℤ). acc +ℤ o *ℤ v +ℤ alternating os *ℤ w) (next_is i k h)
    ∙ ring integers (acc ∷ o ∷ alternating os ∷ v ∷ []) (λ a o t v. a :+ o :* v :+ t :* :- v := a :+ (o :- t) :* v) refl

pub column_is : (i : ℕ) (os : List ℤ) → add_r whole_ops i i (pos 0) os ≡ alternating os *ℤ coeff_r whole_ops i i
column_is i os = sum_is i i (pos 0) os (omega arith) ∙ +ℤ_idl (alternating os *ℤ coeff_r whole_ops i i)
