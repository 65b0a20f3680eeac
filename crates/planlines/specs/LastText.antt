-- What is put after the last read. Only the end of the input ends a line that lacks its line feed: where a read failed, more of that line may have been on
-- its way, and an answer to the half of it would be that of another curve.
use Rattle.std.specs.Prelude.{List, [], ℕ}
use Rattle.answers.specs.Turns.{end_text}
use Rattle.streams.specs.declared.input.BlockRead.{BlockRead}
use Rattle.streams.specs.declared.input.BlockRead.TheVariants.{Bytes, Ended, Failed}

-- with some bytes held of a line that has not ended; where the last read brought bytes, writing their answers failed
unfoldable pub last_text : (last : BlockRead) (held : List ℕ) → List ℕ
last_text Ended held = end_text held
last_text (Bytes n) held = []
last_text Failed held = []
