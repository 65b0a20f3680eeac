-- What the functions that put text ask of the place where they begin.
use Rattle.std.specs.Prelude.{List, ℕ, ◌+◌, ◌<◌, ◌^◌, length}

-- the place behind the text is a number of 64 bits
abbrev pub EndsIn64Bits : (at : ℕ) (text : List ℕ) → Type 0
EndsIn64Bits at text = at + length text < 2 ^ 64
