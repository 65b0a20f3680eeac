-- The fields of a line and the line made of fields: by recursion on the bytes, a tab or another byte in front.
use mathlib.Core.Path.{◌≡◌, refl, ap, sym, ◌∙◌}
use mathlib.Core.Bool.{Bool, true, false, not}
use mathlib.Core.List.{List, [], ◌∷◌, ◌++◌}
use Prim.Native.Nat.{ℕ}
use borrow.Author.Tests.{eqb-true, not-true}
use lib.Dec.{eqb}
use lib.ListN.{drop}
use Rattle.lines.specs.Bytes.{tab}
use Rattle.lines.specs.Fields.{first, front, fields}
use Rattle.lines.specs.FieldsJoined.{joined, no_tab, no_tabs, FieldsJoined}
use Rattle.number.proofs.BothHold.{and_left, and_right}

-- ---- no field has a tab

parted_front : (t : Bool) (b : ℕ) (fs : List (List ℕ)) → eqb b tab ≡ t → no_tabs fs ≡ true → no_tabs (front t b fs) ≡ true
unfolding no_tab no_tabs
parted_front true b fs is none = none
parted_front false b [] is none = rw is refl
parted_front false b (f ∷ fs) is none = rw is none

parted : (line : List ℕ) → no_tabs (fields line) ≡ true
unfolding no_tab no_tabs fields
parted [] = refl
parted (b ∷ bs) = parted_front (eqb b tab) b (fields bs) refl (parted bs)

-- ---- the fields make up the line

-- there is a first field
some_field : (line : List ℕ) → fields line ≡ first (fields line) ∷ drop 1 (fields line)
unfolding fields
some_field [] = refl
some_field (b ∷ bs) = by_byte (eqb b tab)
  where
    by_byte : (t : Bool) → front t b (fields bs) ≡ first (front t b (fields bs)) ∷ drop 1 (front t b (fields bs))
    by_byte true = refl
    by_byte false = refl

joined_front : (t : Bool) (b : ℕ) (f : List ℕ) (fs : List (List ℕ)) → eqb b tab ≡ t → joined (front t b (f ∷ fs)) ≡ b ∷ joined (f ∷ fs)
unfolding joined
joined_front true b f fs is = rw (eqb-true b tab is) refl
joined_front false b f [] is = refl
joined_front false b f (g ∷ fs) is = refl

joins : (line : List ℕ) → joined (fields line) ≡ line
unfolding joined fields
joins [] = refl
joins (b ∷ bs) =
    ap (λ (fs : List (List ℕ)). joined (front (eqb b tab) b fs)) (some_field bs)
    ∙ joined_front (eqb b tab) b (first (fields bs)) (drop 1 (fields bs)) refl
    ∙ ap (λ (rest : List ℕ). b ∷ rest) (ap joined (sym (some_field bs)) ∙ joins bs)

-- ---- a line made of fields has these fields

module _ (b : ℕ) (bs : List ℕ) (none : no_tab (b ∷ bs) ≡ true) where
  other : eqb b tab ≡ false
  unfolding no_tab
  other = not-true (eqb b tab) (and_left (not (eqb b tab)) (no_tab bs) none)

  behind : no_tab bs ≡ true
  unfolding no_tab
  behind = and_right (not (eqb b tab)) (no_tab bs) none

-- one field alone, and a field in front of others
alone : (f : List ℕ) → no_tab f ≡ true → fields f ≡ f ∷ []
unfolding fields
alone [] none = refl
alone (b ∷ bs) none = rw (other b bs none, alone bs (behind b bs none))

before : (f rest : List ℕ) → no_tab f ≡ true → fields (f ++ (tab ∷ rest)) ≡ f ∷ fields rest
unfolding fields
before [] rest none = refl
before (b ∷ bs) rest none = rw (other b bs none, before bs rest (behind b bs none))

parts : (f : List ℕ) (fs : List (List ℕ)) → no_tabs (f ∷ fs) ≡ true → fields (joined (f ∷ fs)) ≡ f ∷ fs
unfolding joined no_tabs
parts f [] none = alone f (and_left (no_tab f) true none)
parts f (g ∷ fs) none =
    before f (joined (g ∷ fs)) (and_left (no_tab f) (no_tabs (g ∷ fs)) none)
    ∙ ap (λ (rest : List (List ℕ)). f ∷ rest) (parts g fs (and_right (no_tab f) (no_tabs (g ∷ fs)) none))

pub fields_joined : FieldsJoined
fields_joined = record { parted = parted; joins = joins; parts = parts }
