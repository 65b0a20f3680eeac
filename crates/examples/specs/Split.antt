-- Worked examples of the index split with its distance, proved by computing. Those of 1, 3 and 5 are in the starred table (demands/specs/Starred).
use Rattle.std.specs.Prelude.{◌≡◌, refl, [], ◌∷◌, ℕ}
use Rattle.number.specs.Bits.{digits, bit_len, top_power, is_power_of_two, power_below}
use Rattle.number.specs.Refusal.{unless_refused}
use Rattle.number.specs.Split.{Parts, parts_of, no_parts, split_refusal, split_of}

abbrev parts : (a b distance : ℕ) → Parts
parts a b distance = record { refusal = 0; a = a; b = b; distance = distance }

-- a power of two has two halves, which have no distance
pub halves : split_of 2 ∷ split_of 8 ∷ [] ≡ parts 1 1 0 ∷ parts 4 4 0 ∷ []
unfolding split_of split_refusal unless_refused parts_of power_below is_power_of_two top_power bit_len digits
halves = refl

-- two less than one: two equal parts again
pub equal : split_of 6 ∷ split_of 14 ∷ [] ≡ parts 3 3 0 ∷ parts 7 7 0 ∷ []
unfolding split_of split_refusal unless_refused parts_of power_below is_power_of_two top_power bit_len digits
equal = refl

-- one less than one: the second part is greater, by 1
pub second_greater : split_of 7 ∷ split_of 4294967295 ∷ [] ≡ parts 3 4 1 ∷ parts 2147483647 2147483648 1 ∷ []
unfolding split_of split_refusal unless_refused parts_of power_below is_power_of_two top_power bit_len digits
second_greater = refl

-- any other: the first part is greater
pub first_greater : split_of 9 ∷ split_of 10 ∷ [] ≡ parts 7 2 5 ∷ parts 7 3 4 ∷ []
unfolding split_of split_refusal unless_refused parts_of power_below is_power_of_two top_power bit_len digits
first_greater = refl

-- below and above the limits
pub refused : split_of 0 ∷ split_of 4294967296 ∷ [] ≡ no_parts 9 ∷ no_parts 9 ∷ []
unfolding split_of split_refusal unless_refused
refused = refl
