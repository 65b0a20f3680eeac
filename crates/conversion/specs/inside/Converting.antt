-- What the functions that make rows and sums ask of one another.
use Rattle.std.specs.Prelude.{◌≡◌, cond, List, ℕ, zero, suc, ◌+◌, ◌*◌, ◌^◌, ◌≤◌, ◌<◌, eqb, ℤ, pos, nat_abs, ◌+ℤ◌, ◌-ℤ◌, ◌*ℤ◌, length, get_or}
use Rattle.algebra.specs.Magnitude.{sum_abs}
use Rattle.algebra.specs.Operations.{whole_ops, double}
use Rattle.algebra.specs.Value.{sum}
use Rattle.algebra.specs.declared.Basis.{Basis}
use Rattle.algebra.specs.declared.Basis.TheVariants.{Monomial, Chebyshev}
use Rattle.number.specs.Limits.{sum_limit}
use Rattle.bases.specs.Rows.{next_row, row_of}
use Rattle.bases.specs.Convert.{quotient_of, tabulate}

-- ---- rows

-- the places of a list, and 0 beyond
abbrev pub places_of : List ℤ → (i : ℕ) → ℤ
places_of row i = get_or row i (pos 0)

-- the number to the left of place i, and 0 at place 0
abbrev pub left_of : List ℤ → (i : ℕ) → ℤ
left_of row zero = pos 0
left_of row (suc i) = places_of row i

abbrev pub twice_at_one : (i : ℕ) → ℤ → ℤ
twice_at_one i x = cond (eqb i 1) (double whole_ops x) x

-- place i of a row, from its neighbours in the last row, and from the same place of the row before
abbrev pub place_of : (to : Basis) → (i : ℕ) → (left right before : ℤ) → ℤ
place_of Monomial i left right before = double whole_ops left -ℤ before
place_of Chebyshev i left right before = twice_at_one i left +ℤ right

-- the next row, of as many places
abbrev pub next_places : (to : Basis) → (last before : List ℤ) → List ℤ
next_places to last before = tabulate (length before) (next_row whole_ops to (places_of last) (places_of before))

-- two rows of one length, with places of at most 2^32
pub record RowsFit (last before : List ℤ) : Type 0 where
  pub long : length last ≡ length before
  pub last_small : (i : ℕ) → nat_abs (places_of last i) ≤ 2 ^ 32
  pub before_small : (i : ℕ) → nat_abs (places_of before i) ≤ 2 ^ 32

-- the places of a list are row n's, which is 0 beyond them
pub record IsRow (to : Basis) (n : ℕ) (row : List ℤ) : Type 0 where
  pub each : (i : ℕ) → places_of row i ≡ row_of whole_ops to n i

-- ---- sums

-- at most 21 coefficients, with magnitudes that sum to at most 2^30
pub record Convertible (c : List ℤ) : Type 0 where
  pub few : length c ≤ 21
  pub small : sum_abs c ≤ sum_limit

-- q times a row is added to the sums
abbrev pub with_row : (q : ℤ) → (row sums : List ℤ) → List ℤ
with_row q row sums = tabulate (length sums) (λ i. places_of sums i +ℤ q *ℤ places_of row i)

-- the row reaches as far as the sums, and each sum with its term fits
pub record TermsFit (q : ℤ) (row sums : List ℤ) : Type 0 where
  pub reaches : length sums ≤ length row
  pub fits : (i : ℕ) → i < length sums → nat_abs (places_of sums i) + nat_abs q * nat_abs (places_of row i) < 2 ^ 63

-- what the first n coefficients add to the new coefficient i
abbrev pub part_of : (to : Basis) → (c : List ℤ) → (n i : ℕ) → ℤ
part_of to c n i = sum whole_ops (λ k. quotient_of to k (places_of c k) *ℤ row_of whole_ops to k i) n

-- the sums when the first n coefficients are added, and rows n and n + 1, as long as there are coefficients for them
pub record Summing (to : Basis) (c : List ℤ) (n : ℕ) (row next sums : List ℤ) : Type 0 where
  pub ready : Convertible c
  pub within : n ≤ length c
  pub row_long : length row ≡ 21
  pub next_long : length next ≡ 21
  pub row_is : n < length c → IsRow to n row
  pub next_is : suc n < length c → IsRow to (suc n) next
  pub sums_are : sums ≡ tabulate (length c) (part_of to c n)
