-- What the functions that take a block's bytes say to one another.
use Rattle.std.specs.Prelude.{◌≡◌, true, cond, List, [], ◌∷◌, ◌++◌, ℕ, ◌-◌, ◌<◌, ◌≤◌, length, take, drop}
use Rattle.lines.specs.Bytes.{line_feed}
use Rattle.answers.specs.Answer.{answer_text}
use Rattle.answers.specs.InputLines.{no_feed}
use Rattle.answers.specs.Turns.{held_of}
use Rattle.answers.specs.declared.hold.Piece.{Piece}

-- the bytes of a block from one place up to another
abbrev pub between : (from to : ℕ) → List ℕ → List ℕ
between from to block = take (to - from) (drop from block)

-- bytes behind those that were held, as many as the buffer has places for
pub record Held (line : List ℕ) (held : ℕ) (bytes line' : List ℕ) (r : ℕ) : Type 0 where
  pub within : r ≤ length line
  pub text : take r line' ≡ take (length line) (take held line ++ bytes)

-- the bytes of a block from a place on up to its first line feed, held with those that were held
pub record Taken (block : List ℕ) (at : ℕ) (line : List ℕ) (held : ℕ) (line' : List ℕ) (r : Piece) : Type 0 where
  pub bytes : List ℕ
  pub free : no_feed bytes ≡ true
  pub part : between at r.next block ≡ cond r.whole (bytes ++ (line_feed ∷ [])) bytes
  pub onward : at < length block → at < r.next
  pub next_within : r.next ≤ length block
  pub held_within : r.held ≤ length line
  pub text : take r.held line' ≡ held_of (take held line ++ bytes)

-- what a piece makes be written, and how much of the line is held behind it
abbrev pub piece_text : Piece → (line : List ℕ) → List ℕ
piece_text piece line = cond piece.whole (answer_text (take piece.held line)) []

abbrev pub held_after : Piece → ℕ
held_after piece = cond piece.whole 0 piece.held
