-- What a read of one block brought, by what the read answered: which bytes it brought, where the reader's are known.
use Rattle.std.specs.Prelude.{Result, Ok, Err, ◌≡◌, List, Option, ℕ, zero, suc, ◌<◌, ◌≤◌, length, take}
use Rattle.std.specs.Io.KnownBytes.{Keeps, Consumes, IsAtEnd}
use Rattle.streams.specs.declared.input.BlockRead.{BlockRead}
use Rattle.streams.specs.declared.input.BlockRead.TheVariants.{Bytes, Ended, Failed}

-- none is the end of the input
abbrev pub brought_by : (count : ℕ) → BlockRead
brought_by zero = Ended
brought_by (suc n) = Bytes (suc n)

-- a read failed if it answers an error, and else brought so many bytes
abbrev pub read_outcome : {E : Type 0} → (answer : Result ℕ E) → BlockRead
read_outcome (Ok n) = brought_by n
read_outcome (Err e) = Failed

-- the bytes that a read brought are at least one, and stand at the start of the block
abbrev pub ReadInto : BlockRead → (block : List ℕ) → Type 0
ReadInto (Bytes n) block = (n ≤ length block) × (n ≡ length (take n block)) × (0 < n)
ReadInto Ended block = Unit {0}
ReadInto Failed block = Unit {0}

-- the bytes that a read brought are the next ones that the reader had; at the end, and where reading failed, it brought none of them
abbrev pub ReadFrom : (old new : Option (List ℕ)) → BlockRead → (block : List ℕ) → Type 0
ReadFrom old new (Bytes n) block = Consumes old new (take n block)
ReadFrom old new Ended block = Keeps old new × (0 < length block → IsAtEnd new)
ReadFrom old new Failed block = Keeps old new
