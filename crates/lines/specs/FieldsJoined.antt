-- The fields of a line are what its tabs part: no field has a tab, and with a tab between each two they are the line again.
use Rattle.std.specs.Prelude.{◌≡◌, Bool, true, ◌&&◌, not, List, [], ◌∷◌, ◌++◌, ℕ, eqb}
use Rattle.lines.specs.Bytes.{tab}
use Rattle.lines.specs.Fields.{fields}

-- fields with a tab between each two
unfoldable pub joined : List (List ℕ) → List ℕ
joined [] = []
joined (f ∷ []) = f
joined (f ∷ g ∷ fs) = f ++ (tab ∷ joined (g ∷ fs))

-- a field without a tab
unfoldable pub no_tab : List ℕ → Bool
no_tab [] = true
no_tab (b ∷ bs) = not (eqb b tab) && no_tab bs

unfoldable pub no_tabs : List (List ℕ) → Bool
no_tabs [] = true
no_tabs (f ∷ fs) = no_tab f && no_tabs fs

-- a line's fields make up the line, and fields made into a line are its fields
pub record FieldsJoined : Type 0 where
  pub parted : (line : List ℕ) → no_tabs (fields line) ≡ true
  pub joins : (line : List ℕ) → joined (fields line) ≡ line
  pub parts : (f : List ℕ) (fs : List (List ℕ)) → no_tabs (f ∷ fs) ≡ true → fields (joined (f ∷ fs)) ≡ f ∷ fs
