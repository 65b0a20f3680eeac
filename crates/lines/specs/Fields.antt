-- The fields of a line (docs/RULES.md, "Lines of planlines"): the bytes between its tabs. A line with n tabs has n + 1 fields, empty ones too.
use Rattle.std.specs.Prelude.{Bool, true, false, List, [], ◌∷◌, ℕ, eqb, get_or, drop}
use Rattle.lines.specs.Bytes.{tab}

-- the first field
abbrev pub first : List (List ℕ) → List ℕ
first fs = get_or fs 0 []

-- a byte in front of these fields: a tab puts an empty field in front, and any other byte belongs to the first field
abbrev pub front : (is_tab : Bool) → ℕ → List (List ℕ) → List (List ℕ)
front true b fs = [] ∷ fs
front false b fs = (b ∷ first fs) ∷ drop 1 fs

-- the fields of a line: no byte is one empty field
unfoldable pub fields : List ℕ → List (List ℕ)
fields [] = [] ∷ []
fields (b ∷ bs) = front (eqb b tab) b (fields bs)
