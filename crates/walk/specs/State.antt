-- What a walk goes along with: the powers that were made, and the values that wait.
use Rattle.std.specs.Prelude.{List, ℕ, ℤ}
use Rattle.std.proofs.Math.Option.{Option}

-- the powers by number; one that was not made is none
abbrev pub Powers : Type 0 → Type 0
Powers A = ℕ → Option A

-- a plan's lists by number; past the last there is none
abbrev pub Lists : Type 0
Lists = ℕ → Option (List ℤ)

-- the waiting values stand last one first
pub record State (A : Type 0) : Type 0 where
  pub powers : Powers A
  pub waiting : List A

-- a state with other powers, and one with other waiting values
abbrev pub with_powers : {A : Type 0} → State A → Powers A → State A
with_powers state powers = record { powers = powers; waiting = state.waiting }

abbrev pub with_waiting : {A : Type 0} → State A → List A → State A
with_waiting state waiting = record { powers = state.powers; waiting = waiting }
