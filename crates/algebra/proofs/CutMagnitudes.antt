-- How far a cut can raise the sum of the magnitudes.
-- Low has no more than the whole, since each coefficient beyond p is taken from low at most once; high has no more than twice it.
use mathlib.Core.List.{List, [], ◌∷◌, reverse}
use Prim.Native.Nat.{ℕ, suc, ◌+◌, ◌*◌, ◌≤◌}
use native.Mathlib.Omega.{arith}
use native.Mathlib.Numerals.{add-one}
use lib.IntN.{ℤ}
use lib.ListN.{length, take, drop}
use lib.Seq.{drop-drop}
use Rattle.algebra.specs.Cut.{differences, doubled, lowered, cut_at}
use Rattle.algebra.specs.Magnitude.{sum_abs}
use Rattle.algebra.specs.Operations.{whole_ops}
use Rattle.algebra.specs.declared.Basis.{Basis}
use Rattle.algebra.specs.declared.Basis.TheVariants.{Monomial, Chebyshev}
use Rattle.algebra.proofs.CutPlaces.{cut_low, cut_high}
use Rattle.algebra.proofs.Magnitudes.{abs_sub, sum_abs_reverse, sum_abs_double, sum_abs_parts, sum_abs_take, sum_abs_drop}

sum_abs_differences : (xs ys : List ℤ) → sum_abs (differences whole_ops xs ys) ≤ sum_abs xs + sum_abs ys
unfolding sum_abs differences
sum_abs_differences [] ys = omega arith
sum_abs_differences (x ∷ xs) [] = omega arith
sum_abs_differences (x ∷ xs) (y ∷ ys) = omega (arith, sum_abs_differences xs ys, abs_sub x y)

sum_abs_doubled : (xs : List ℤ) → sum_abs (doubled whole_ops xs) ≤ 2 * sum_abs xs
unfolding sum_abs doubled
sum_abs_doubled [] = omega arith
sum_abs_doubled (x ∷ xs) = omega (arith, sum_abs_double xs)

sum_abs_tail : (p : ℕ) (c : List ℤ) → sum_abs (drop (suc p) c) ≤ sum_abs (drop p c)
sum_abs_tail p c = rw (drop-drop, add-one) at (sum_abs_drop 1 (drop p c))

sum_abs_lowered : (p : ℕ) (c : List ℤ) → sum_abs (lowered whole_ops p c) ≤ sum_abs c
unfolding lowered
sum_abs_lowered p c =
    let near = reverse (take p c) in
    let far = drop (suc p) c in
    omega (
      arith,
      sum_abs_reverse (differences whole_ops near far),
      sum_abs_differences near far,
      sum_abs_reverse (take p c),
      sum_abs_tail p c,
      sum_abs_parts p c,
    )

module _ (p : ℕ) (c : List ℤ) (under : p ≤ length c) where
  -- low has no more than the whole
  pub low_magnitude : (basis : Basis) → sum_abs (take p (cut_at whole_ops basis p c)) ≤ sum_abs c
  unfolding cut_at
  low_magnitude Monomial = sum_abs_take p c
  low_magnitude Chebyshev = rw (cut_low whole_ops p c under) (sum_abs_lowered p c)

  -- high has no more than twice it
  pub high_magnitude : (basis : Basis) → sum_abs (drop p (cut_at whole_ops basis p c)) ≤ 2 * sum_abs c
  unfolding cut_at
  high_magnitude Monomial = omega (arith, sum_abs_drop p c)
  high_magnitude Chebyshev = rw (cut_high whole_ops p c under) (omega (arith, sum_abs_doubled (drop p c), sum_abs_drop p c))
