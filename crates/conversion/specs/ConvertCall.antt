-- The conversion call (docs/RULES.md, "The other basis" and "Refusals"): its tests in order, its answer, and what it leaves in the buffer.
use Rattle.std.specs.Prelude.{◌≡◌, not, List, [], ◌∷◌, ℕ, ltb, ℤ, length, Result}
use Rattle.std.proofs.lemmas.List.Edits.{sets}
use Rattle.algebra.specs.declared.Basis.{Basis}
use Rattle.number.specs.Numbers.{whole_numbers}
use Rattle.number.specs.Refusal.{Test, first_refusal, unless_refused}
use Rattle.number.specs.Refused.{numbered}
use Rattle.number.specs.declared.refusal.Refusal.{Refusal}
use Rattle.number.specs.Tests.{degree_of, too_large, no_room}
use Rattle.bases.specs.Convert.{is_whole, converted}

-- the call's answer in numbers: its refusal, or 0 with how many coefficients there are
pub record Converted : Type 0 where
  pub refusal : ℕ
  pub count : ℕ

-- what a result says of the answer
abbrev pub converted_in : Result ℕ Refusal → Converted
converted_in = numbered (λ (count : ℕ). record { refusal = 0; count = count }) (λ (refusal : ℕ). record { refusal = refusal; count = 0 })

-- the greatest degree that is converted
abbrev pub convert_limit : ℕ
convert_limit = 20

-- 37: a degree above it
abbrev pub too_high_to_convert : (degree : ℕ) → Test
too_high_to_convert degree = (ltb convert_limit degree, 37)

-- 38: a new coefficient is not whole
abbrev pub not_whole : (to : Basis) → List ℤ → Test
not_whole to c = (not (is_whole to c), 38)

-- 37, 3 on the input, 38, 3 on the output, and 21 for a buffer without a place for each coefficient
abbrev pub convert_tests : (to : Basis) → (c : List ℤ) → (room : ℕ) → List Test
convert_tests to c room =
    too_high_to_convert (degree_of c)
    ∷ too_large whole_numbers c
    ∷ not_whole to c
    ∷ too_large whole_numbers (converted to c)
    ∷ no_room room (length c)
    ∷ []

unfoldable pub refusal_for : (to : Basis) → (c : List ℤ) → (room : ℕ) → ℕ
refusal_for to c room = first_refusal (convert_tests to c room)

module _ (to : Basis) (c out : List ℤ) where
  abbrev convert_refusal : ℕ
  convert_refusal = refusal_for to c (length out)

  -- the answer: 0 and how many coefficients there are, or the refusal and 0
  unfoldable pub convert_answer : Converted
  convert_answer = unless_refused convert_refusal (record { refusal = 0; count = length c }) (record { refusal = convert_refusal; count = 0 })

  -- the buffer: the new coefficients in its first places, and the places beyond unchanged; after a refusal all of it unchanged
  unfoldable pub convert_buffer : List ℤ
  convert_buffer = unless_refused convert_refusal (sets out 0 (converted to c)) out

  -- what a call says, and what it leaves in the buffer
  pub record ConvertCall (r : Converted) (left : List ℤ) : Type 0 where
    pub answer : r ≡ convert_answer
    pub buffer : left ≡ convert_buffer
