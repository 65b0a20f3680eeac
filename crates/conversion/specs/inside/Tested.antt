-- The tests of a conversion in two parts: those of the coefficients, and those of the new ones.
use Rattle.std.specs.Prelude.{List, [], ◌∷◌, ℕ, ℤ, length}
use Rattle.algebra.specs.declared.Basis.{Basis}
use Rattle.number.specs.Numbers.{whole_numbers}
use Rattle.number.specs.Refusal.{Test, first_refusal}
use Rattle.number.specs.Tests.{degree_of, too_large, no_room}
use Rattle.conversion.specs.ConvertCall.{too_high_to_convert, not_whole}

-- 37, 3, 38
abbrev pub input_tests : (to : Basis) → (c : List ℤ) → List Test
input_tests to c = too_high_to_convert (degree_of c) ∷ too_large whole_numbers c ∷ not_whole to c ∷ []

unfoldable pub input_refusal : (to : Basis) → (c : List ℤ) → ℕ
input_refusal to c = first_refusal (input_tests to c)

-- 3, 21
abbrev pub output_tests : (new : List ℤ) → (room : ℕ) → List Test
output_tests new room = too_large whole_numbers new ∷ no_room room (length new) ∷ []

unfoldable pub output_refusal : (new : List ℤ) → (room : ℕ) → ℕ
output_refusal new room = first_refusal (output_tests new room)
