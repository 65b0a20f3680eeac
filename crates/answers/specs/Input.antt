-- The lines of an input and its output (docs/RULES.md, "Lines of planlines"): a line feed ends a line, and what stands behind the last line feed is a
-- line too, if anything stands there.
use Rattle.std.specs.Prelude.{cond, List, [], ◌∷◌, ◌++◌, map, ℕ, eqb}
use Rattle.lists.specs.Lists.{joined}
use Rattle.lines.specs.Bytes.{line_feed}
use Rattle.answers.specs.Answer.{answer_text}

-- the lines that an input's line feeds end; the first of them begins with the bytes `begun`
unfoldable pub ended : (begun input : List ℕ) → List (List ℕ)
ended begun [] = []
ended begun (b ∷ bs) = cond (eqb b line_feed) (begun ∷ ended [] bs) (ended (begun ++ (b ∷ [])) bs)

-- what stands behind the last line feed
unfoldable pub unended : (begun input : List ℕ) → List ℕ
unended begun [] = begun
unended begun (b ∷ bs) = cond (eqb b line_feed) (unended [] bs) (unended (begun ++ (b ∷ [])) bs)

-- it is a line if it has a byte
unfoldable pub last_line : (rest : List ℕ) → List (List ℕ)
last_line [] = []
last_line (b ∷ bs) = (b ∷ bs) ∷ []

-- the lines of an input
unfoldable pub lines_in : (input : List ℕ) → List (List ℕ)
lines_in input = ended [] input ++ last_line (unended [] input)

-- the texts of the answers to some lines, one after another
unfoldable pub answers_text : (lines : List (List ℕ)) → List ℕ
answers_text lines = joined (map answer_text lines)

-- the output for an input: the answers to its lines, in order
unfoldable pub output : (input : List ℕ) → List ℕ
output input = answers_text (lines_in input)
