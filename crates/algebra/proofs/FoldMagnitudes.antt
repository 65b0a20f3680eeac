-- How far a fold can raise magnitudes: R_k has coefficients of magnitude 2 at most, so each coefficient of a fold has at most twice the sum of the magnitudes.
use mathlib.Core.Path.{◌≡◌, refl, ap, ◌∙◌}
use mathlib.Core.List.{List, [], ◌∷◌}
use Prim.Native.Nat.{ℕ, zero, suc, ◌+◌, ◌*◌, ◌≤◌}
use native.Mathlib.Nat.{mul-le-mul_left}
use native.Mathlib.Omega.{arith}
use lib.IntN.{ℤ, pos, nat_abs, ◌+ℤ◌, ◌*ℤ◌}
use lib.ListN.{get_or, drop}
use Rattle.algebra.specs.Fold.{every_second, coeff_r, add_r, sum_rFrom, fold}
use Rattle.algebra.specs.Magnitude.{sum_abs}
use Rattle.algebra.specs.Operations.{whole_ops}
use Rattle.algebra.specs.declared.Basis.{Basis}
use Rattle.algebra.specs.declared.Basis.TheVariants.{Monomial, Chebyshev}
use Rattle.algebra.specs.declared.Parity.{Parity}
use Rattle.algebra.specs.declared.Parity.TheVariants.{Full, Even, Odd}
use Rattle.algebra.proofs.Integers.{integers}
use Rattle.algebra.proofs.Magnitudes.{abs_neg, abs_add, abs_mul, abs_double, abs_get_d, sum_abs_drop}
use Rattle.algebra.proofs.OddCoefficients.{coeff_zero, coeff_one, coeff_later}

abs_coeff_r_zero : (k : ℕ) → nat_abs (coeff_r whole_ops k 0) ≡ 1
unfolding coeff_r
abs_coeff_r_zero zero = refl
abs_coeff_r_zero (suc k) = ap nat_abs (coeff_zero integers k) ∙ abs_neg (coeff_r whole_ops k 0) ∙ abs_coeff_r_zero k

-- the coefficients of R_k are at most 2
pub abs_coeff_r : (k i : ℕ) → nat_abs (coeff_r whole_ops k i) ≤ 2
unfolding coeff_r
abs_coeff_r k zero = omega (arith, abs_coeff_r_zero k)
abs_coeff_r zero (suc i) = omega arith
abs_coeff_r (suc k) (suc zero) = omega (arith, ap nat_abs (coeff_one integers k), abs_double (coeff_r whole_ops k 0), abs_coeff_r_zero k)
abs_coeff_r (suc k) (suc (suc i)) = rw (coeff_later integers k i) (abs_coeff_r k (suc i))

-- acc + o_0·R_k[i] + o_1·R_(k+1)[i] + .., and so every sum on the way to it
pub abs_add_r : (i k : ℕ) (acc : ℤ) (os : List ℤ) → nat_abs (add_r whole_ops i k acc os) ≤ nat_abs acc + 2 * sum_abs os
unfolding add_r sum_abs
abs_add_r i k acc [] = omega arith
abs_add_r i k acc (o ∷ os) =
    let r = coeff_r whole_ops k i in
    let small : nat_abs o * nat_abs r ≤ nat_abs o * 2 = mul-le-mul_left (nat_abs o) (abs_coeff_r k i) in
    omega (arith, abs_add_r i (suc k) (acc +ℤ o *ℤ r) os, abs_add acc (o *ℤ r), abs_mul o r, small)

-- every second coefficient
pub sum_abs_every_second : (c : List ℤ) → sum_abs (every_second c) ≤ sum_abs c
unfolding every_second sum_abs
sum_abs_every_second [] = omega arith
sum_abs_every_second (a ∷ []) = omega arith
sum_abs_every_second (a ∷ b ∷ c) = omega (arith, sum_abs_every_second c)

abs_sum_rFrom : (m : ℕ) (o : List ℤ) (i : ℕ) → nat_abs (get_or (sum_rFrom whole_ops m o) i (pos 0)) ≤ 2 * sum_abs o
unfolding sum_rFrom sum_abs
abs_sum_rFrom m [] i = omega arith
abs_sum_rFrom m (o ∷ os) zero = omega (arith, abs_add_r m m (pos 0) (o ∷ os))
abs_sum_rFrom m (o ∷ os) (suc i) = omega (arith, abs_sum_rFrom (suc m) os i)

-- each coefficient of a fold
pub fold_magnitude : (parity : Parity) (basis : Basis) (c : List ℤ) (i : ℕ) → nat_abs (get_or (fold whole_ops parity basis c) i (pos 0)) ≤ 2 * sum_abs c
unfolding fold
fold_magnitude Full basis c i = omega (arith, abs_get_d c i)
fold_magnitude Even basis c i = omega (arith, abs_get_d (every_second c) i, sum_abs_every_second c)
fold_magnitude Odd Monomial c i = omega (arith, abs_get_d (every_second (drop 1 c)) i, sum_abs_every_second (drop 1 c), sum_abs_drop 1 c)
fold_magnitude Odd Chebyshev c i = omega (arith, abs_sum_rFrom 0 (every_second (drop 1 c)) i, sum_abs_every_second (drop 1 c), sum_abs_drop 1 c)
