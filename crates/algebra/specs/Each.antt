-- What holds of each element of a list.
use Rattle.std.specs.Prelude.{List, [], ◌∷◌}

-- each element has P
abbrev pub Each : {A : Type 0} → (P : A → Type 0) → List A → Type 0
Each P [] = Unit {0}
Each P (a ∷ c) = P a × Each P c
