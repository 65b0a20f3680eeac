-- The lines of chains in their order (docs/RULES.md, "Lines of chains"): the degree changes slowest, from 2 to 511; the settings of a degree follow one
-- another as in specs/Letters. `put_chains` puts `chains_text`, and `write_chains` writes it.
use Rattle.std.specs.Prelude.{List, [], ◌++◌, ℕ, zero, suc, ◌*◌}
use Rattle.chains.specs.Letters.{letters_at}
use Rattle.chains.specs.ZeroChain.{zero_chain, closed_bits}
use Rattle.chains.specs.Line.{line_room, chain_line}

-- the line of a degree and setting k, from 0 to 11: its letters, its chain and its bits are those of one and the same degree and setting
unfoldable pub line_at : (degree k : ℕ) → List ℕ
line_at degree k = let letters = letters_at k in chain_line degree letters (zero_chain letters degree).weight (closed_bits letters degree).bits

-- so many lines of a degree, from setting k on
unfoldable pub lines_from : (degree k count : ℕ) → List ℕ
lines_from degree k zero = []
lines_from degree k (suc count) = line_at degree k ++ lines_from degree (suc k) count

-- all lines of a degree
abbrev pub degree_text : (degree : ℕ) → List ℕ
degree_text degree = lines_from degree 0 12

-- the lines of so many degrees, from one on
unfoldable pub degrees_from : (degree count : ℕ) → List ℕ
degrees_from degree zero = []
degrees_from degree (suc count) = degree_text degree ++ degrees_from (suc degree) count

-- the lines of the degrees from 2 to 511
abbrev pub chains_text : List ℕ
chains_text = degrees_from 2 510

-- places for the lines of a degree, and for all lines
abbrev pub degree_room : ℕ
degree_room = 12 * line_room

abbrev pub table_room : ℕ
table_room = 510 * degree_room
