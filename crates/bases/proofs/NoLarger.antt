-- Written in the T_i, the magnitudes sum to no more than before. Multiplying by 2T_1 at most doubles the sum of a row's magnitudes, so those of row n sum to
-- at most its denominator. Each old coefficient is its quotient times that denominator, and its quotient times its row is all that it adds to the new ones.
use mathlib.Core.Path.{◌≡◌, refl, sym, ◌∙◌, ap, fun_ext}
use mathlib.Core.Bool.{true}
use mathlib.Core.List.{List}
use Prim.Native.Nat.{ℕ, zero, suc, ◌+◌, ◌-◌, ◌*◌, ◌%◌, ◌^◌, ◌≤◌, ◌<◌}
use native.Mathlib.Nat.{mul-le-mul_left, mul-add, pow-succ'}
use native.Mathlib.Decide.{ℕ_discrete}
use native.Mathlib.Omega.{arith}
use lib.IntN.{ℤ, pos, nat_abs, ◌+ℤ◌, ◌*ℤ◌}
use lib.ListN.{length, get_or, take}
use Rattle.algebra.specs.Fold.{times2_t1}
use Rattle.algebra.specs.Magnitude.{sum_abs}
use Rattle.algebra.specs.Operations.{double, whole_ops}
use Rattle.algebra.specs.Value.{sum}
use Rattle.algebra.specs.declared.Basis.TheVariants.{Chebyshev}
use Rattle.algebra.proofs.Magnitudes.{abs_add, abs_mul, abs_double, sum_abs_take, sum_abs_take_suc}
use Rattle.algebra.proofs.Sums.{sum_none, sum_suc}
use Rattle.bases.specs.Rows.{denominator, unit_row, row_of}
use Rattle.bases.specs.Convert.{is_whole, quotient_of, new_coefficient, tabulate}
use Rattle.bases.specs.Promises.{NoLarger}
use Rattle.bases.proofs.Convert.{quotient_exact, whole_exactly_if}
use Rattle.bases.proofs.Rows.{row_zero, row_one, row_step, unit_same, unit_other}

-- ---- the magnitudes at the first k places

-- |r 0| + .. + |r (k - 1)|
unfoldable magnitudes : (r : ℕ → ℤ) → (k : ℕ) → ℕ
magnitudes r zero = 0
magnitudes r (suc k) = magnitudes r k + nat_abs (r k)

-- the first place, and the others
magnitudes_first : (r : ℕ → ℤ) (k : ℕ) → magnitudes r (suc k) ≡ nat_abs (r 0) + magnitudes (λ i. r (suc i)) k
unfolding magnitudes
magnitudes_first r zero = omega arith
magnitudes_first r (suc k) = omega (arith, magnitudes_first r k)

-- the same, of the list of those places
magnitudes_list : (r : ℕ → ℤ) (k : ℕ) → sum_abs (tabulate k r) ≡ magnitudes r k
unfolding magnitudes sum_abs tabulate
magnitudes_list r zero = refl
magnitudes_list r (suc k) = ap (nat_abs (r 0) +◌) (magnitudes_list (λ i. r (suc i)) k) ∙ sym (magnitudes_first r k)

-- of zeros
magnitudes_zeros : (r : ℕ → ℤ) (k : ℕ) → ((i : ℕ) → i < k → r i ≡ pos 0) → magnitudes r k ≡ 0
unfolding magnitudes
magnitudes_zeros r zero none = refl
magnitudes_zeros r (suc k) none = omega (arith, magnitudes_zeros r k (λ i below. none i (omega arith)), ap nat_abs (none k (omega arith)))

-- of a sum with q times a row
magnitudes_more : (s r : ℕ → ℤ) (q : ℤ) (k : ℕ) → magnitudes (λ i. s i +ℤ q *ℤ r i) k ≤ magnitudes s k + nat_abs q * magnitudes r k
unfolding magnitudes
magnitudes_more s r q zero = omega arith
magnitudes_more s r q (suc k) =
    omega (
      arith,
      magnitudes_more s r q k,
      abs_add (s k) (q *ℤ r k),
      abs_mul q (r k),
      mul-add (nat_abs q) (magnitudes r k) (nat_abs (r k)),
    )

-- ---- of the rows

-- of a row with 1 at one place, and 0 elsewhere
magnitudes_unit : (n k : ℕ) → magnitudes (unit_row whole_ops n) k ≤ 1
unfolding magnitudes
magnitudes_unit n zero = omega arith
magnitudes_unit n (suc k) = by_place (ℕ_discrete n k) (magnitudes_unit n k)
  where
    by_place : Dec (n ≡ k) → magnitudes (unit_row whole_ops n) k ≤ 1 → magnitudes (unit_row whole_ops n) k + nat_abs (unit_row whole_ops n k) ≤ 1
    by_place (yes is) before =
        let none : magnitudes (unit_row whole_ops n) k ≡ 0 =
        magnitudes_zeros (unit_row whole_ops n) k (λ i below. unit_other whole_ops n i (λ e. omega arith)) in
        let one : nat_abs (unit_row whole_ops n k) ≡ 1 = ap (λ (i : ℕ). nat_abs (unit_row whole_ops n i)) (sym is) ∙ ap nat_abs (unit_same whole_ops n) in
        omega (arith, none, one)
    by_place (no apart) before = omega (arith, before, ap nat_abs (unit_other whole_ops n k apart))

-- a sum that begins with 0, as `times2_t1` has it
abs_from_zero : (a b : ℤ) → nat_abs (pos 0 +ℤ a +ℤ b) ≤ nat_abs a + nat_abs b
abs_from_zero a b = omega (arith, abs_add (pos 0 +ℤ a) b, abs_add (pos 0) a)

-- times 2T_1: place i goes to i - 1 and i + 1, so each is counted twice at most
magnitudes_times : (r : ℕ → ℤ) (k : ℕ) → magnitudes (times2_t1 whole_ops r) (suc (suc k)) ≤ magnitudes r (suc (suc (suc k))) + magnitudes r (suc k)
unfolding magnitudes
magnitudes_times r zero = omega (arith, abs_add (pos 0) (r 1), abs_from_zero (double whole_ops (r 0)) (r 2), abs_double (r 0))
magnitudes_times r (suc k) = omega (arith, magnitudes_times r k, abs_from_zero (r (suc k)) (r (suc (suc (suc k)))))

-- so a bound on all sums of a row doubles
times_bound : (r : ℕ → ℤ) (m : ℕ) → ((k : ℕ) → magnitudes r k ≤ m) → (k : ℕ) → magnitudes (times2_t1 whole_ops r) k ≤ 2 * m
unfolding magnitudes
times_bound r m bound zero = omega arith
times_bound r m bound (suc zero) = omega (arith, abs_add (pos 0) (r 1), bound 2)
times_bound r m bound (suc (suc k)) = omega (arith, magnitudes_times r k, bound (suc (suc (suc k))), bound (suc k))

-- row n + 1 sums to at most 2^n
row_suc_bound : (n k : ℕ) → magnitudes (row_of whole_ops Chebyshev (suc n)) k ≤ 2 ^ n
row_suc_bound zero k = rw (fun_ext (row_one whole_ops Chebyshev)) (magnitudes_unit 1 k)
row_suc_bound (suc n) k =
    rw (fun_ext (row_step whole_ops Chebyshev n), pow-succ' 2 n)
    (times_bound (row_of whole_ops Chebyshev (suc n)) (2 ^ n) (row_suc_bound n) k)

-- row n sums to at most its denominator
row_bound : (n k : ℕ) → magnitudes (row_of whole_ops Chebyshev n) k ≤ denominator Chebyshev n
row_bound zero k = rw (fun_ext (row_zero whole_ops Chebyshev)) (magnitudes_unit 0 k)
row_bound (suc n) k = let less : suc n - 1 ≡ n = omega arith in rw less (row_suc_bound n k)

-- ---- of the new coefficients

-- a coefficient's magnitude is its quotient's times the denominator
quotient_magnitude : (n : ℕ) (z : ℤ) → nat_abs z % denominator Chebyshev n ≡ 0 → nat_abs (quotient_of Chebyshev n z) * denominator Chebyshev n ≡ nat_abs z
quotient_magnitude n z none =
    sym (abs_mul (quotient_of Chebyshev n z) (pos (denominator Chebyshev n))) ∙ ap nat_abs (quotient_exact z (denominator Chebyshev n) none)

module _ (c : List ℤ) (whole : is_whole Chebyshev c ≡ true) where
  -- the quotient at place n
  abbrev q : (n : ℕ) → ℤ
  q n = quotient_of Chebyshev n (get_or c n (pos 0))

  -- what the first m old coefficients add to new coefficient i
  abbrev part : (m i : ℕ) → ℤ
  part m i = sum whole_ops (λ n. q n *ℤ row_of whole_ops Chebyshev n i) m

  -- one old coefficient adds at most its own magnitude
  one_more : (n k : ℕ) → n < length c → nat_abs (q n) * magnitudes (row_of whole_ops Chebyshev n) k ≤ nat_abs (get_or c n (pos 0))
  one_more n k below =
      omega (
        arith,
        mul-le-mul_left (nat_abs (q n)) (row_bound n k),
        quotient_magnitude n (get_or c n (pos 0)) ((whole_exactly_if Chebyshev c).0 whole n below),
      )

  -- so the first m add at most theirs
  part_bound : (m k : ℕ) → m ≤ length c → magnitudes (part m) k ≤ sum_abs (take m c)
  part_bound zero k within =
      omega (arith, magnitudes_zeros (part 0) k (λ i below. sum_none whole_ops (λ n. q n *ℤ row_of whole_ops Chebyshev n i)))
  part_bound (suc m) k within =
      rw (fun_ext (λ i. sum_suc whole_ops (λ n. q n *ℤ row_of whole_ops Chebyshev n i) m))
      (omega (
        arith,
        magnitudes_more (part m) (row_of whole_ops Chebyshev m) (q m) k,
        part_bound m k (omega arith),
        one_more m k (omega arith),
        sum_abs_take_suc c m (omega arith),
      ))

-- all of them, at as many places
pub no_larger : NoLarger
unfolding new_coefficient
no_larger c whole =
    omega (arith, magnitudes_list (new_coefficient Chebyshev c) (length c), part_bound c whole (length c) (length c) (omega arith), sum_abs_take (length c) c)
