-- The fields of a line that are still to be read.
use Rattle.std.specs.Prelude.{List, [], ◌∷◌, ℕ, Option, Some, None}
use denote.Ref.{Bor}
use Rattle.lines.specs.Fields.{fields}
use Rattle.lines.specs.declared.field.Fields.{Fields}

-- those of the rest of a line, if there is one
abbrev pub fields_in : Option (Bor (List ℕ)) → List (List ℕ)
fields_in None = []
fields_in (Some rest) = fields rest.now

abbrev pub fields_left : Fields → List (List ℕ)
fields_left s = fields_in s.rest

-- the byte of a field that has just one
abbrev pub letter_in : List ℕ → Option ℕ
letter_in [] = None
letter_in (b ∷ []) = Some b
letter_in (b ∷ c ∷ bs) = None
