-- The undoing of a cut (document 02, Q-8): from low and high back to the coefficients that they were cut from. Where a doubled coefficient is odd or
-- a rebuilt number is beyond i64, there is nothing to go back to.
use Rattle.std.specs.Prelude.{Bool, true, ◌&&◌, List, [], ◌∷◌, ◌++◌, map, reverse, ◌%◌, ◌^◌, eqb, ltb, ℤ, pos, nat_abs, ◌+ℤ◌, drop}
use Rattle.std.proofs.Math.Option.{Option, some}
use Rattle.std.specs.Int.Signed.{mag, quot_z}
use Rattle.algebra.specs.declared.Basis.{Basis}
use Rattle.algebra.specs.declared.Basis.TheVariants.{Monomial, Chebyshev}
use Rattle.number.specs.Options.{when}

-- ---- numbers

-- half of an even number
abbrev pub half : ℤ → ℤ
half z = quot_z z (pos 2)

-- whether a number is even
abbrev pub is_even : ℤ → Bool
is_even z = eqb (nat_abs z % 2) 0

-- whether an i64 holds a number, which it does from -2^63 to 2^63 - 1: mag is n both for n and for -(n + 1)
abbrev pub fits_i64 : ℤ → Bool
fits_i64 z = ltb (mag z) (2 ^ 63)

-- whether every element passes a test
unfoldable pub every : (ℤ → Bool) → List ℤ → Bool
every test [] = true
every test (x ∷ xs) = test x && every test xs

-- ---- the coefficients before a cut

-- each element with the one at its place in the second list added to it, where that has one
unfoldable pub sums : List ℤ → List ℤ → List ℤ
sums [] ys = []
sums (x ∷ xs) [] = x ∷ xs
sums (x ∷ xs) (y ∷ ys) = (x +ℤ y) ∷ sums xs ys

-- the coefficients from p on, made of high, which is q: c_p = q_0, and c_(p+j) = q_j / 2 for j ≥ 1
unfoldable pub halved : List ℤ → List ℤ
halved [] = []
halved (x ∷ xs) = x ∷ map half xs

-- the first p coefficients, made of low, which is r, and of those from p on: r_(p-j) gains c_(p+j). Counted from p downwards that is place by place.
unfoldable pub raised : List ℤ → List ℤ → List ℤ
raised low top = reverse (sums (reverse low) (drop 1 top))

-- the coefficients that were cut into low and high
unfoldable pub before_cut : Basis → (low high : List ℤ) → List ℤ
before_cut Monomial low high = low ++ high
before_cut Chebyshev low high = raised low (halved high) ++ halved high

-- ---- refusal 34, of one cut

-- the coefficients that a cut doubled: in Chebyshev all of high but its first
abbrev pub doubled_in : Basis → (high : List ℤ) → List ℤ
doubled_in Monomial high = []
doubled_in Chebyshev high = drop 1 high

-- whether a cut can be undone: no doubled coefficient is odd, and no number that is rebuilt at it is beyond i64
unfoldable pub can_undo : Basis → (low high : List ℤ) → Bool
can_undo basis low high = every is_even (doubled_in basis high) && every fits_i64 (before_cut basis low high)

-- the coefficients before the cut, where it can be undone
unfoldable pub undone : Basis → (low high : List ℤ) → Option (List ℤ)
undone basis low high = when (can_undo basis low high) (some (before_cut basis low high))
