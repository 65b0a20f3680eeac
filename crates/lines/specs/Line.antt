-- The form of a line, its settings and its coefficients (docs/RULES.md, "Lines of planlines").
use Rattle.std.specs.Prelude.{Bool, true, false, ◌&&◌, List, [], ◌∷◌, map, ℕ, leb, ℤ, length, get_or, drop}
use Rattle.algebra.specs.declared.Basis.{Basis}
use Rattle.algebra.specs.declared.Basis.TheVariants.{Monomial}
use Rattle.algebra.specs.declared.Parity.{Parity}
use Rattle.algebra.specs.declared.Parity.TheVariants.{Full}
use Rattle.counts.specs.declared.choice.SplitStrategy.{SplitStrategy}
use Rattle.counts.specs.declared.choice.SplitStrategy.TheVariants.{MinDepth}
use Rattle.lines.specs.Limits.{line_limit}
use Rattle.lines.specs.Fields.{fields}
use Rattle.lines.specs.Whole.{is_whole, value_of}
use Rattle.lines.specs.Letters.{bases, parities, strategies, folds, is_letter, says}

-- ---- the fields by their places

-- the byte of a field that has just one; 0, which is no letter, for any other field
abbrev pub only_byte : List ℕ → ℕ
only_byte [] = 0
only_byte (b ∷ []) = b
only_byte (b ∷ c ∷ bs) = 0

-- the letter in field i
abbrev pub letter_at : List ℕ → (i : ℕ) → ℕ
letter_at line i = only_byte (get_or (fields line) i [])

-- the fields behind the four letters
abbrev pub number_fields : List ℕ → List (List ℕ)
number_fields line = drop 4 (fields line)

-- ---- the form

-- letters of a basis, a parity, a strategy and a fold
unfoldable pub are_settings : (basis parity strategy fold : ℕ) → Bool
are_settings basis parity strategy fold = is_letter bases basis && is_letter parities parity && is_letter strategies strategy && is_letter folds fold

-- every field is a whole number
unfoldable pub are_whole : List (List ℕ) → Bool
are_whole [] = true
are_whole (f ∷ fs) = is_whole f && are_whole fs

-- at most 65,535 bytes, four letters, and then whole numbers, perhaps none
unfoldable pub is_line : List ℕ → Bool
is_line line =
    leb (length line) line_limit && are_settings (letter_at line 0) (letter_at line 1) (letter_at line 2) (letter_at line 3)
    && are_whole (number_fields line)

-- ---- what a line in the form says

unfoldable pub basis_in : List ℕ → Basis
basis_in line = says Monomial bases (letter_at line 0)

unfoldable pub parity_in : List ℕ → Parity
parity_in line = says Full parities (letter_at line 1)

unfoldable pub strategy_in : List ℕ → SplitStrategy
strategy_in line = says MinDepth strategies (letter_at line 2)

unfoldable pub fold_in : List ℕ → Bool
fold_in line = says false folds (letter_at line 3)

unfoldable pub coefficients_in : List ℕ → List ℤ
coefficients_in line = map value_of (number_fields line)
