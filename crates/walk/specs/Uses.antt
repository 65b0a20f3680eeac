-- The powers that a step uses (docs/RULES.md, "Steps and the walk").
use Rattle.std.specs.Prelude.{Bool, true, false, List, [], ◌∷◌, ℕ, suc, ℤ}
use Rattle.std.proofs.Math.Option.{Option, some, none}
use Rattle.algebra.specs.Allowed.{allows}
use Rattle.algebra.specs.declared.Basis.{Basis}
use Rattle.algebra.specs.declared.Basis.TheVariants.{Monomial, Chebyshev}
use Rattle.algebra.specs.declared.Parity.{Parity}
use Rattle.number.specs.Split.{split_of}
use Rattle.walk.specs.Kinds.{Kind, make, load, combine, unknown, kind_of}
use Rattle.walk.specs.State.{Lists}
use Rattle.walk.specs.declared.plan.Step.{Step}

-- the two parts of a power, and in Chebyshev their distance
abbrev pub parts_used : Basis → (a b distance : ℕ) → List ℕ
parts_used Monomial a b distance = a ∷ b ∷ []
parts_used Chebyshev a b distance = a ∷ b ∷ distance ∷ []

-- the allowed places of a list from place j on, power 0 being that of its constant
abbrev pub used_if : (allowed : Bool) (j : ℕ) → List ℕ → List ℕ
used_if true j later = j ∷ later
used_if false j later = later

unfoldable pub places_used : Parity → (j : ℕ) → List ℤ → List ℕ
places_used parity j [] = []
places_used parity j (c ∷ cs) = used_if (allows parity j) j (places_used parity (suc j) cs)

-- those of a list that may not be there
abbrev pub list_uses : Parity → Option (List ℤ) → List ℕ
list_uses parity (some c) = places_used parity 0 c
list_uses parity none = []

-- by kind: a make uses its parts, whose distance is the third number of the split of its power; a load its list's allowed powers, a combine its power
unfoldable pub uses_by : Parity → Basis → Lists → Kind → (x y z : ℕ) → List ℕ
uses_by parity basis lists make x y z = parts_used basis y z (split_of x).distance
uses_by parity basis lists load x y z = list_uses parity (lists x)
uses_by parity basis lists (combine plain) x y z = x ∷ []
uses_by parity basis lists unknown x y z = []

abbrev pub uses_of : Parity → Basis → Lists → Step → List ℕ
uses_of parity basis lists step = uses_by parity basis lists (kind_of step.kind) step.x step.y step.z
