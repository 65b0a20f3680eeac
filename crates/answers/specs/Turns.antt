-- An input comes in parts of any size. A turn takes a part: it writes the answers to the lines that the part ends, and holds the bytes of the line
-- that it doesn't end. However an input is parted, the turns write its output.
use Rattle.std.specs.Prelude.{◌≡◌, List, [], ◌∷◌, ◌++◌, ℕ, take}
use Rattle.lists.specs.Lists.{joined}
use Rattle.answers.specs.Limits.{line_room}
use Rattle.answers.specs.Input.{ended, unended, last_line, answers_text, output}

-- what is held of a line that has not ended: of one that is too long already only so much that this is seen
abbrev pub held_of : (line : List ℕ) → List ℕ
held_of line = take line_room line

-- what a turn writes that takes a part, with some bytes held, and what it holds then
abbrev pub turn_text : (held part : List ℕ) → List ℕ
turn_text held part = answers_text (ended held part)

abbrev pub turn_held : (held part : List ℕ) → List ℕ
turn_held held part = held_of (unended held part)

-- what is written at the input's end
abbrev pub end_text : (held : List ℕ) → List ℕ
end_text held = answers_text (last_line held)

-- what the turns for some parts write, and the end
unfoldable pub written : (held : List ℕ) (parts : List (List ℕ)) → List ℕ
written held [] = end_text held
written held (part ∷ parts) = turn_text held part ++ written (turn_held held part) parts

-- it is the output for the whole input
abbrev pub TurnsWrite : Type 0
TurnsWrite = (parts : List (List ℕ)) → written [] parts ≡ output (joined parts)
