-- The letters of the settings, and what each says (docs/RULES.md, "Numbers of the kinds" and "Lines of planlines").
use Rattle.std.specs.Prelude.{Bool, true, false, cond, ◌||◌, List, [], ◌∷◌, ℕ, eqb}
use Rattle.algebra.specs.declared.Basis.{Basis}
use Rattle.algebra.specs.declared.Basis.TheVariants.{Monomial, Chebyshev}
use Rattle.algebra.specs.declared.Parity.{Parity}
use Rattle.algebra.specs.declared.Parity.TheVariants.{Full, Even, Odd}
use Rattle.counts.specs.declared.choice.SplitStrategy.{SplitStrategy}
use Rattle.counts.specs.declared.choice.SplitStrategy.TheVariants.{MinDepth, MinMult}
use Rattle.lines.specs.Bytes.{letter_c, letter_d, letter_e, letter_f, letter_m, letter_n, letter_o, letter_y}

-- letters, each with what it says
abbrev pub Letters : Type 0 → Type 0
Letters X = List (ℕ × X)

-- ---- the four tables, in the order of the kinds' numbers

abbrev pub bases : Letters Basis
bases = (letter_m, Monomial) ∷ (letter_c, Chebyshev) ∷ []

abbrev pub parities : Letters Parity
parities = (letter_f, Full) ∷ (letter_e, Even) ∷ (letter_o, Odd) ∷ []

abbrev pub strategies : Letters SplitStrategy
strategies = (letter_d, MinDepth) ∷ (letter_m, MinMult) ∷ []

-- without folding and with it
abbrev pub folds : Letters Bool
folds = (letter_n, false) ∷ (letter_y, true) ∷ []

-- ---- reading a letter by its table

-- whether a byte is one of the letters
abbrev pub is_letter : {X : Type 0} → Letters X → ℕ → Bool
is_letter [] b = false
is_letter (row ∷ rows) b = eqb b row.0 || is_letter rows b

-- what a byte says; `otherwise` where it is none of the letters
abbrev pub says : {X : Type 0} → (otherwise : X) → Letters X → ℕ → X
says otherwise [] b = otherwise
says otherwise (row ∷ rows) b = cond (eqb b row.0) row.1 (says otherwise rows b)
