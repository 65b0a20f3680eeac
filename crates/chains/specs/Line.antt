-- A line of chains (docs/RULES.md, "Lines of chains"): degree, letters of basis, parity and strategy, chain, bits, with tabs between them.
use Rattle.std.specs.Prelude.{List, [], ◌∷◌, ◌++◌, ℕ}
use Rattle.lines.specs.Bytes.{tab, line_feed}
use Rattle.texts.specs.Decimal.{decimal}
use Rattle.chains.specs.declared.letters.Letters.{Letters}

-- places for a line: a degree and two numbers of at most 20 digits, three letters, five tabs and a line feed have 69 bytes
abbrev pub line_room : ℕ
line_room = 80

-- the degree and the letters
abbrev pub setting_text : (degree : ℕ) → Letters → List ℕ
setting_text degree letters = decimal degree ++ (tab ∷ letters.basis ∷ tab ∷ letters.parity ∷ tab ∷ letters.strategy ∷ [])

-- the line
abbrev pub chain_line : (degree : ℕ) → Letters → (chain bits : ℕ) → List ℕ
chain_line degree letters chain bits = setting_text degree letters ++ ((tab ∷ decimal chain) ++ ((tab ∷ decimal bits) ++ (line_feed ∷ [])))
