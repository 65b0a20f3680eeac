-- How large the rows' coefficients are: no more than 3^n, since an element is made of three of the one before and one of that before it.
use mathlib.Core.Path.{◌≡◌, refl, ap}
use mathlib.Core.Bool.{Bool, true, false, cond}
use Prim.Native.Nat.{ℕ, zero, suc, ◌+◌, ◌-◌, ◌*◌, ◌≤◌}
use native.Mathlib.Nat.{add-suc, add-zero}
use native.Mathlib.Omega.{arith}
use lib.Dec.{eqb}
use lib.IntN.{ℤ, pos, nat_abs, ◌+ℤ◌}
use Rattle.algebra.specs.Operations.{whole_ops, double}
use Rattle.algebra.specs.declared.Basis.{Basis}
use Rattle.algebra.specs.declared.Basis.TheVariants.{Monomial, Chebyshev}
use Rattle.algebra.proofs.Magnitudes.{abs_add, abs_sub, abs_double}
use Rattle.bases.specs.Rows.{unit_row, next_row, row_of}
use Rattle.bases.proofs.Rows.{row_zero, row_one, row_step}

-- 3^n
abbrev pub growth : ℕ → ℕ
growth zero = 1
growth (suc n) = 3 * growth n

growth_more : (n d : ℕ) → growth n ≤ growth (n + d)
growth_more n zero = omega (arith, ap growth (add-zero n))
growth_more n (suc d) = omega (arith, growth_more n d, ap growth (add-suc n d))

unit_small : (n i : ℕ) → nat_abs (unit_row whole_ops n i) ≤ 1
unit_small n i = by_test (eqb n i)
  where
    by_test : (b : Bool) → nat_abs (cond b (pos 1) (pos 0)) ≤ 1
    by_test true = omega arith
    by_test false = omega arith

next_small : (to : Basis) (last before : ℕ → ℤ) (m : ℕ) → ((i : ℕ) → nat_abs (last i) ≤ 3 * m) → ((i : ℕ) → nat_abs (before i) ≤ m) → (i : ℕ)
    → nat_abs (next_row whole_ops to last before i) ≤ 3 * (3 * m)
next_small Monomial last before m small less zero = omega (arith, abs_sub (pos 0) (before 0), less 0)
next_small Monomial last before m small less (suc i) =
    omega (arith, abs_sub (double whole_ops (last i)) (before (suc i)), abs_double (last i), small i, less (suc i))
next_small Chebyshev last before m small less zero = omega (arith, abs_add (pos 0) (last 1), small 1)
next_small Chebyshev last before m small less (suc zero) =
    omega (
      arith,
      abs_add (pos 0 +ℤ double whole_ops (last 0)) (last 2),
      abs_add (pos 0) (double whole_ops (last 0)),
      abs_double (last 0),
      small 0,
      small 2,
    )
next_small Chebyshev last before m small less (suc (suc i)) =
    omega (
      arith,
      abs_add (pos 0 +ℤ last (suc i)) (last (suc (suc (suc i)))),
      abs_add (pos 0) (last (suc i)),
      small (suc i),
      small (suc (suc (suc i))),
    )

row_grows : (to : Basis) (n i : ℕ) → nat_abs (row_of whole_ops to n i) ≤ growth n
row_grows to zero i = omega (arith, ap nat_abs (row_zero whole_ops to i), unit_small 0 i)
row_grows to (suc zero) i = omega (arith, ap nat_abs (row_one whole_ops to i), unit_small 1 i)
row_grows to (suc (suc n)) i =
    omega (
      arith,
      ap nat_abs (row_step whole_ops to n i),
      next_small to (row_of whole_ops to (suc n)) (row_of whole_ops to n) (growth n) (row_grows to (suc n)) (row_grows to n) i,
    )

-- of rows 0 to 20
pub row_small : (to : Basis) (n i : ℕ) → n ≤ 20 → nat_abs (row_of whole_ops to n i) ≤ 3486784401
row_small to n i low =
    let all : n + (20 - n) ≡ 20 = omega arith in
    let most : growth 20 ≡ 3486784401 = refl in
    omega (arith, row_grows to n i, growth_more n (20 - n), ap growth all, most)
