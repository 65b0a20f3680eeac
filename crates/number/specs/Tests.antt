-- The tests behind each refusal number (docs/RULES.md, "Refusals"), each once. A call's refusal is a list of them in the order of its table.
use Rattle.std.specs.Prelude.{Bool, true, false, not, ◌||◌, List, [], ◌∷◌, ℕ, ◌-◌, ◌*◌, ltb, eqb, length, Float}
use Rattle.std.specs.Float.Ieee.{lt}
use Rattle.algebra.specs.declared.Parity.{Parity}
use Rattle.algebra.specs.declared.Parity.TheVariants.{Full, Even, Odd}
use Rattle.number.specs.Limits.{count_limit, degree_limit, scale_limit}
use Rattle.number.specs.Refusal.{Test}
use Rattle.number.specs.Numbers.{Numbers}
use Rattle.number.specs.Parity.{has_parity}

-- the degree of a polynomial: one less than its number of coefficients, and 0 where it has none
abbrev pub degree_of : {A : Type 0} → List A → ℕ
degree_of c = length c - 1

-- ---- born of the input

-- 1: degree 0 (no or one coefficient)
abbrev pub no_degree : (degree : ℕ) → Test
no_degree degree = (eqb degree 0, 1)

-- 2: a degree above the limit
abbrev pub too_high : (limit degree : ℕ) → Test
too_high limit degree = (ltb limit degree, 2)

-- 3: whole coefficients with magnitudes summing above 2^30; on f64 it never holds
abbrev pub too_large : {A : Type 0} → Numbers A → List A → Test
too_large numbers c = (not (numbers.small c), 3)

-- 4: a nonzero coefficient of the wrong parity
abbrev pub wrong_parity : {A : Type 0} → Numbers A → Parity → List A → Test
wrong_parity numbers parity c = (not (has_parity numbers parity c), 4)

-- 5: folding with parity Full
abbrev pub is_full : Parity → Bool
is_full Full = true
is_full Even = false
is_full Odd = false

abbrev pub full_parity : Parity → Test
full_parity parity = (is_full parity, 5)

-- 6: folding Even below degree 2 or Odd below degree 3
abbrev pub least_folded : Parity → ℕ
least_folded Full = 0
least_folded Even = 2
least_folded Odd = 3

abbrev pub too_low : Parity → (degree : ℕ) → Test
too_low parity degree = (ltb degree (least_folded parity), 6)

-- 7: an interval without a < b
abbrev pub unordered : (a b : Float) → Test
unordered a b = (not (lt a b), 7)

-- 8: nodes and values unequal in number, none, or above 4,096
abbrev pub miscounted : (nodes values : ℕ) → Test
miscounted nodes values = (not (eqb nodes values) || (eqb nodes 0 || ltb count_limit nodes), 8)

-- 9: an index to split below 2 or above 4,294,967,295
abbrev pub out_of_range : (index : ℕ) → Test
out_of_range index = (ltb index 2 || ltb degree_limit index, 9)

-- 10: a bit scale above 65,535
abbrev pub too_wide : (scale : ℕ) → Test
too_wide scale = (ltb scale_limit scale, 10)

-- ---- born of the state

-- 21: a coefficient buffer shorter than the coefficients
abbrev pub no_room : (room coefficients : ℕ) → Test
no_room room coefficients = (ltb room coefficients, 21)

-- 22: a boundary buffer shorter than the number of lists
abbrev pub no_boundaries : (room lists : ℕ) → Test
no_boundaries room lists = (ltb room lists, 22)

-- 23: a step buffer shorter than four numbers a step
abbrev pub no_steps : (room steps : ℕ) → Test
no_steps room steps = (ltb room (4 * steps), 23)

-- ---- the tests of a fold

-- 5, 6, 4
abbrev pub folding_tests : {A : Type 0} → Numbers A → Parity → List A → List Test
folding_tests numbers parity c = full_parity parity ∷ too_low parity (degree_of c) ∷ wrong_parity numbers parity c ∷ []
