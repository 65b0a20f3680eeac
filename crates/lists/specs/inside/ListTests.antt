-- The tests of the list calls, as far as numbers alone decide them: those ahead of the boundaries, and all of them.
use Rattle.std.specs.Prelude.{Bool, not, List, [], ◌∷◌, ◌++◌, ℕ, ◌-◌}
use Rattle.number.specs.Limits.{plan_limit}
use Rattle.number.specs.Refusal.{Test, first_refusal}
use Rattle.number.specs.Tests.{too_high, no_degree, no_room, no_boundaries}

-- the tests ahead of the boundaries, by whether the coefficients are small enough, for a coefficient buffer of `room` places
abbrev pub early_tests : (n : ℕ) → (small : Bool) → (room : ℕ) → List Test
early_tests n small room = too_high plan_limit (n - 1) ∷ no_degree (n - 1) ∷ (not small, 3) ∷ no_room room n ∷ []

-- the number of the first of them that holds, or 0
unfoldable pub early_refusal : (n : ℕ) → (small : Bool) → (room : ℕ) → ℕ
early_refusal n small room = first_refusal (early_tests n small room)

-- and the same of all tests, for a boundary buffer of `boundaries` places
unfoldable pub refusal_by : (n : ℕ) → (small : Bool) → (room boundaries lists : ℕ) → ℕ
refusal_by n small room boundaries lists = first_refusal (early_tests n small room ++ (no_boundaries boundaries lists ∷ []))
