-- Worked examples of the other basis (request Q-11), proved by computing: rows, conversions there and back, and calls with each of their refusals.
-- `negsuc n` is -(n + 1).
use Rattle.std.specs.Prelude.{◌≡◌, refl, true, false, List, [], ◌∷◌, map, ℕ, ℤ, pos, negsuc, replicate}
use Rattle.algebra.specs.Magnitude.{sum_abs}
use Rattle.algebra.specs.Operations.{whole_ops}
use Rattle.algebra.specs.Value.{sum}
use Rattle.algebra.specs.declared.Basis.{Basis}
use Rattle.algebra.specs.declared.Basis.TheVariants.{Monomial, Chebyshev}
use Rattle.number.specs.Refusal.{unless_refused}
use Rattle.bases.specs.Rows.{row_of}
use Rattle.bases.specs.Convert.{whole_from, is_whole, new_coefficient, tabulate, converted}
use Rattle.conversion.specs.ConvertCall.{refusal_for, convert_answer, convert_buffer}

-- ---- rows

-- T_4 = 1 - 8x² + 8x⁴
pub fourth : tabulate 5 (row_of whole_ops Monomial 4) ≡ pos 1 ∷ pos 0 ∷ negsuc 7 ∷ pos 0 ∷ pos 8 ∷ []
unfolding tabulate row_of
fourth = refl

-- 8x⁴ = 3·T_0 + 4·T_2 + T_4
pub fourth_power : tabulate 5 (row_of whole_ops Chebyshev 4) ≡ map pos (3 ∷ 0 ∷ 4 ∷ 0 ∷ 1 ∷ [])
unfolding tabulate row_of
fourth_power = refl

-- ---- there and back

-- 1 + 2·T_1 + 3·T_2 + 4·T_3 = 1 + 2x + 3·(2x² - 1) + 4·(4x³ - 3x)
abbrev chebyshev : List ℤ
chebyshev = map pos (1 ∷ 2 ∷ 3 ∷ 4 ∷ [])

-- = -2 - 10x + 6x² + 16x³
abbrev monomial : List ℤ
monomial = negsuc 1 ∷ negsuc 9 ∷ pos 6 ∷ pos 16 ∷ []

pub to_powers : converted Monomial chebyshev ≡ monomial
unfolding tabulate new_coefficient sum row_of
to_powers = refl

pub to_chebyshev : converted Chebyshev monomial ≡ chebyshev
unfolding tabulate new_coefficient sum row_of
to_chebyshev = refl

-- 8x⁴ as a curve
pub eight : converted Chebyshev (map pos (0 ∷ 0 ∷ 0 ∷ 0 ∷ 8 ∷ [])) ≡ map pos (3 ∷ 0 ∷ 4 ∷ 0 ∷ 1 ∷ [])
unfolding tabulate new_coefficient sum row_of
eight = refl

-- ---- fractions

-- x² = (T_0 + T_2)/2 has no whole coefficients, and 2x² = T_0 + T_2 has
abbrev square : List ℤ
square = map pos (0 ∷ 0 ∷ 1 ∷ [])

abbrev two_squares : List ℤ
two_squares = map pos (0 ∷ 0 ∷ 2 ∷ [])

pub half : is_whole Chebyshev square ≡ false
unfolding whole_from
half = refl

pub whole : is_whole Chebyshev two_squares ≡ true
unfolding whole_from
whole = refl

-- ---- calls

-- a buffer of places that hold a 7
abbrev sevens : (room : ℕ) → List ℤ
sevens room = replicate room (pos 7)

-- the place beyond the new coefficients is unchanged
pub two_squares_answer : convert_answer Chebyshev two_squares (sevens 4) ≡ record { refusal = 0; count = 3 }
unfolding convert_answer refusal_for unless_refused whole_from tabulate new_coefficient sum row_of sum_abs
two_squares_answer = refl

pub two_squares_buffer : convert_buffer Chebyshev two_squares (sevens 4) ≡ map pos (1 ∷ 0 ∷ 1 ∷ 7 ∷ [])
unfolding convert_buffer refusal_for unless_refused whole_from tabulate new_coefficient sum row_of sum_abs
two_squares_buffer = refl

-- there and back, in buffers that are just long enough
pub there : convert_buffer Monomial chebyshev (sevens 4) ≡ monomial
unfolding convert_buffer refusal_for unless_refused whole_from tabulate new_coefficient sum row_of sum_abs
there = refl

pub back : convert_buffer Chebyshev monomial (sevens 4) ≡ chebyshev
unfolding convert_buffer refusal_for unless_refused whole_from tabulate new_coefficient sum row_of sum_abs
back = refl

-- a refused call counts none and writes nothing
pub square_answer : convert_answer Chebyshev square (sevens 4) ≡ record { refusal = 38; count = 0 }
unfolding convert_answer refusal_for unless_refused whole_from sum_abs
square_answer = refl

pub square_buffer : convert_buffer Chebyshev square (sevens 4) ≡ sevens 4
unfolding convert_buffer refusal_for unless_refused whole_from sum_abs
square_buffer = refl

-- the empty curve
pub empty : (to : Basis) → convert_answer to [] (sevens 2) ≡ record { refusal = 0; count = 0 }
unfolding convert_answer refusal_for unless_refused whole_from tabulate sum_abs
empty to = refl

pub empty_buffer : (to : Basis) → convert_buffer to [] (sevens 2) ≡ sevens 2
unfolding convert_buffer refusal_for unless_refused whole_from tabulate sum_abs
empty_buffer to = refl

-- ---- refusals, in their order

-- degree 21 is refused with 37, ahead of its magnitudes, and degree 20 is not: its magnitudes are refused with 3
pub degree_first : (to : Basis) (room : ℕ) → refusal_for to (replicate 22 (pos 1073741824)) room ≡ 37
unfolding refusal_for
degree_first to room = refl

pub degree_twenty : (to : Basis) (room : ℕ) → refusal_for to (replicate 21 (pos 1073741824)) room ≡ 3
unfolding refusal_for sum_abs
degree_twenty to room = refl

-- (2^30 + 1)·x² is refused with 3, ahead of its fractions, and (2^30 - 1)·x² with 38
pub input_first : (room : ℕ) → refusal_for Chebyshev (map pos (0 ∷ 0 ∷ 1073741825 ∷ [])) room ≡ 3
unfolding refusal_for sum_abs
input_first room = refl

pub fractions_next : (room : ℕ) → refusal_for Chebyshev (map pos (0 ∷ 0 ∷ 1073741823 ∷ [])) room ≡ 38
unfolding refusal_for whole_from sum_abs
fractions_next room = refl

-- 2^30·T_2 = 2^31·x² - 2^30 is refused with 3, ahead of the buffer
pub output_next : (room : ℕ) → refusal_for Monomial (map pos (0 ∷ 0 ∷ 1073741824 ∷ [])) room ≡ 3
unfolding refusal_for whole_from tabulate new_coefficient sum row_of sum_abs
output_next room = refl

-- z·T_2 = 2z·x² - z has magnitudes 3z: of 357,913,941 they sum to 2^30 - 1, and of one more to 2^30 + 2
pub output_fits : refusal_for Monomial (map pos (0 ∷ 0 ∷ 357913941 ∷ [])) 3 ≡ 0
unfolding refusal_for whole_from tabulate new_coefficient sum row_of sum_abs
output_fits = refl

pub output_over : refusal_for Monomial (map pos (0 ∷ 0 ∷ 357913942 ∷ [])) 3 ≡ 3
unfolding refusal_for whole_from tabulate new_coefficient sum row_of sum_abs
output_over = refl

-- three coefficients in two places: 21, the last of the tests
pub no_room_lem : refusal_for Chebyshev two_squares 2 ≡ 21
unfolding refusal_for whole_from tabulate new_coefficient sum row_of sum_abs
no_room_lem = refl
