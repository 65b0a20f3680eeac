-- The call between a read and a write: it takes bytes of a block that was read, puts the answers to the lines that they end into a buffer to be
-- written, and holds the bytes of the line that they don't end (specs/Turns).
use Rattle.std.specs.Prelude.{◌≡◌, List, ℕ, ◌+◌, ◌-◌, ◌<◌, ◌≤◌, ℤ, length, take, drop}
use Rattle.texts.specs.Put.{Put}
use Rattle.answers.specs.Limits.{line_room, coefficient_room, list_room, step_room, text_limit, text_room}
use Rattle.answers.specs.Turns.{turn_text, turn_held}
use Rattle.answers.specs.declared.turn.Turn.{Turn}

-- what it asks of the lent buffers
pub record TurnRoom (line : List ℕ) (held : ℕ) (coefficients planned : List ℤ) (bounds steps out : List ℕ) : Type 0 where
  pub line_size : length line ≡ line_room
  pub held_within : held ≤ length line
  pub coefficients_long : coefficient_room ≤ length coefficients
  pub planned_long : list_room ≤ length planned
  pub bounds_long : list_room ≤ length bounds
  pub steps_long : step_room ≤ length steps
  pub text_size : length out ≡ text_room

-- the part of the block that it takes
abbrev pub part_taken : (block : List ℕ) (from : ℕ) → Turn → List ℕ
part_taken block from r = take (r.read - from) (drop from block)

-- the first `held` bytes of `line` were held
pub record TakeTurn (block : List ℕ) (from : ℕ) (line : List ℕ) (held : ℕ) (out line' out' : List ℕ) (r : Turn) : Type 0 where
  -- what it puts
  pub text : Put out 0 (turn_text (take held line) (part_taken block from r)) out' r.text
  pub text_within : r.text ≤ length out
  -- what it holds then
  pub line_held : take r.held line' ≡ turn_held (take held line) (part_taken block from r)
  pub held_within : r.held ≤ length line
  -- it takes at least one byte, and all of the block unless another answer may not fit
  pub onward : from < length block → from < r.read
  pub within : r.read ≤ length block
  pub full : r.read < length block → length out < r.text + text_limit
