-- Combining two waiting values (docs/RULES.md, "Steps and the walk"): steps `3 p 0 0` and `4 p 0 0`.
use Rattle.std.specs.Prelude.{Bool, List, [], ◌∷◌, ℕ}
use Rattle.std.proofs.Math.Option.{Option, some, none}
use Rattle.number.specs.Options.{◌then◌}
use Rattle.walk.specs.Rules.{Rules}
use Rattle.walk.specs.State.{Powers}

module _ {A : Type 0} (𝓡 : Rules A) (plain : Bool) where
  -- take high, then low, and push what a power makes of them; refused if fewer than two wait
  unfoldable pub join_of : (power : A) (waiting : List A) → Option (List A)
  join_of power [] = none
  join_of power (high ∷ []) = none
  join_of power (high ∷ low ∷ rest) = some (𝓡.combine plain power high low ∷ rest)

  -- power p has to be there
  unfoldable pub combine_of : Powers A → (waiting : List A) (p : ℕ) → Option (List A)
  combine_of powers waiting p = powers p then λ power. join_of power waiting
