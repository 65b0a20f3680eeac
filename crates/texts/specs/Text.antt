-- A line of output (docs/RULES.md, "Lines of planlines"): a letter, fields with a tab in front of each, a line feed.
use Rattle.std.specs.Prelude.{List, [], ◌∷◌, ◌++◌, map, ℕ, ℤ}
use Rattle.lines.specs.Bytes.{tab, line_feed, letter_l, letter_r}
use Rattle.texts.specs.Decimal.{decimal, signed_decimal}

-- fields one after another, a tab in front of each
unfoldable pub fields_text : (fields : List (List ℕ)) → List ℕ
fields_text [] = []
fields_text (field ∷ fields) = (tab ∷ field) ++ fields_text fields

-- a line of some fields
unfoldable pub line_text : (letter : ℕ) (fields : List (List ℕ)) → List ℕ
line_text letter fields = letter ∷ (fields_text fields ++ (line_feed ∷ []))

-- a line of numbers
abbrev pub numbers_line : (letter : ℕ) → List ℕ → List ℕ
numbers_line letter ns = line_text letter (map decimal ns)

-- L and the coefficients of a list
abbrev pub list_line : List ℤ → List ℕ
list_line c = line_text letter_l (map signed_decimal c)

-- R and the number of a refusal
abbrev pub refusal_line : (refusal : ℕ) → List ℕ
refusal_line refusal = numbers_line letter_r (refusal ∷ [])
