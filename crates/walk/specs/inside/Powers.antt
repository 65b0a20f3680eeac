-- How the program has the powers: their numbers in one array, marks of which were made in another.
use Rattle.std.specs.Prelude.{Bool, false, List, ℕ, get_or}
use Rattle.std.proofs.Math.Option.{some}
use Rattle.number.specs.Options.{when}
use Rattle.walk.specs.State.{State}
use Rattle.walk.specs.State as state
use Rattle.walk.specs.declared.powers.Powers.{Powers}

-- the powers by number: those whose marks are set
abbrev pub powers_in : (values : List ℕ) (made : List Bool) → state.Powers ℕ
powers_in values made n = when (get_or made n false) (some (get_or values n 0))

abbrev pub powers_of : Powers → state.Powers ℕ
powers_of powers = powers_in powers.values powers.made

-- the state that powers and waiting values make
abbrev pub state_of : Powers → (waiting : List ℕ) → State ℕ
state_of powers waiting = record { powers = powers_of powers; waiting = waiting }
