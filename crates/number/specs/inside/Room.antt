-- What keeps every number of a listing within 2^53.
use Rattle.std.specs.Prelude.{List, ◌*◌, ◌≤◌, ◌^◌, ℤ, length}
use Rattle.algebra.specs.Magnitude.{sum_abs}

-- the sum of the magnitudes times the number of coefficients is at most 2^53. A cut gives neither part more: low has at most the sum, and
-- high at most twice the sum on at most half the places.
unfoldable pub SumByLengthTo53 : List ℤ → Type 0
SumByLengthTo53 c = sum_abs c * length c ≤ 2 ^ 53
