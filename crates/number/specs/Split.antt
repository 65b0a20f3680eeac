-- Splitting an index (docs/RULES.md, "Splitting an index"; Lee et al. 2020), with the distance of the parts (request Q-6).
use Rattle.std.specs.Prelude.{Bool, true, false, [], ◌∷◌, ℕ, ◌+◌, ◌-◌, ◌/◌, Result}
use Rattle.algebra.specs.Distance.{distance_of}
use Rattle.number.specs.Bits.{is_power_of_two, power_below}
use Rattle.number.specs.Refusal.{first_refusal, unless_refused}
use Rattle.number.specs.Refused.{numbered}
use Rattle.number.specs.Tests.{out_of_range}
use Rattle.number.specs.declared.refusal.Refusal.{Refusal}
use Rattle.number.specs.declared.split.Split.{Split}

-- the call's answer in numbers: its refusal, or 0 with the two parts and their distance
pub record Parts : Type 0 where
  pub refusal : ℕ
  pub a : ℕ
  pub b : ℕ
  pub distance : ℕ

-- two parts and their distance
abbrev pub with_distance : (a b : ℕ) → Parts
with_distance a b = record { refusal = 0; a = a; b = b; distance = distance_of a b }

-- for n a power of two (n/2, n/2); otherwise, with 2^k the greatest power of two below n, (2^k − 1, n + 1 − 2^k)
abbrev pub parts_by : Bool → (n : ℕ) → Parts
parts_by true n = with_distance (n / 2) (n / 2)
parts_by false n = with_distance (power_below n - 1) (n + 1 - power_below n)

-- the two parts of an index from 2 up, and their distance
unfoldable pub parts_of : (n : ℕ) → Parts
parts_of n = parts_by (is_power_of_two n) n

-- after a refusal zeros
abbrev pub no_parts : (refusal : ℕ) → Parts
no_parts refusal = record { refusal = refusal; a = 0; b = 0; distance = 0 }

-- the call's refusal: 9
unfoldable pub split_refusal : (n : ℕ) → ℕ
split_refusal n = first_refusal (out_of_range n ∷ [])

-- the call's answer
unfoldable pub split_of : (n : ℕ) → Parts
split_of n = unless_refused (split_refusal n) (parts_of n) (no_parts (split_refusal n))

-- what a result says of the answer
abbrev pub parts_in : Result Split Refusal → Parts
parts_in = numbered (λ (s : Split). record { refusal = 0; a = s.a; b = s.b; distance = s.distance }) no_parts
