-- What stands between the bytes that a reader had and those that a writer holds, where both are known: the answers to the lines that were read.
use Rattle.std.specs.Prelude.{◌≡◌, ⊤, List, [], ℕ, ◌<◌, length, Option}
use Rattle.std.specs.Io.KnownBytes.{Consumes, Appends, IsAtEnd}
use Rattle.answers.specs.Input.{output}
use Rattle.answers.specs.Turns.{turn_text, turn_held}
use Rattle.streams.specs.declared.input.BlockRead.{BlockRead}
use Rattle.streams.specs.declared.input.BlockRead.TheVariants.{Bytes, Ended, Failed}

-- some bytes were read, the answers to the lines that they end were written, and what they leave of the last line is held
pub record ReadAnswered (unread unread' told told' : Option (List ℕ)) (held : List ℕ) : Type 0 where
  pub bytes : List ℕ
  pub read : Consumes unread unread' bytes
  pub answered : Appends told told' (turn_text [] bytes)
  pub line_held : held ≡ turn_held [] bytes

-- the same when the program stops reading, by what the last read brought: at the input's end no byte is left, if the block has a place; where the last read
-- brought bytes, writing their answers failed, and nothing is said
abbrev pub BlocksAnswered : (unread unread' told told' : Option (List ℕ)) (held : List ℕ) (last : BlockRead) (block : List ℕ) → Type 0
BlocksAnswered unread unread' told told' held (Bytes n) block = ⊤
BlocksAnswered unread unread' told told' held Ended block = ReadAnswered unread unread' told told' held × (0 < length block → IsAtEnd unread')
BlocksAnswered unread unread' told told' held Failed block = ReadAnswered unread unread' told told' held

-- the writer holds the output for the input, behind what it held before
abbrev pub OutputFor : (told told' : Option (List ℕ)) (input : List ℕ) → Type 0
OutputFor told told' input = Appends told told' (output input)
