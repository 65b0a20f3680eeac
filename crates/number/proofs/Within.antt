-- Lists whose numbers have magnitude at most n: from the number at each place and back, and from the sum of the magnitudes. By recursion on the list.
use mathlib.Core.List.{List, [], ◌∷◌}
use Prim.Native.Nat.{ℕ, zero, suc, ◌≤◌}
use native.Mathlib.Omega.{arith}
use lib.IntN.{ℤ, pos, nat_abs}
use lib.ListN.{get_or}
use Rattle.algebra.specs.Magnitude.{sum_abs}
use Rattle.number.specs.Exact.{Within}

module _ (n : ℕ) where
  -- from the number at each place
  pub within_each : (c : List ℤ) → ((i : ℕ) → nat_abs (get_or c i (pos 0)) ≤ n) → Within n c
  within_each [] h = tt
  within_each (x ∷ c) h = (h 0, within_each c (λ i. h (suc i)))

  -- the number at a place; beyond the end it is 0
  pub within_at : (c : List ℤ) → Within n c → (i : ℕ) → nat_abs (get_or c i (pos 0)) ≤ n
  within_at [] h i = omega arith
  within_at (x ∷ c) h zero = h.0
  within_at (x ∷ c) h (suc i) = within_at c h.1 i

  -- from the sum of the magnitudes
  pub within_sum : (c : List ℤ) → sum_abs c ≤ n → Within n c
  unfolding sum_abs
  within_sum [] h = tt
  within_sum (x ∷ c) h = (omega arith, within_sum c (omega arith))
