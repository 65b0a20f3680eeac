-- What is held while a block is taken part by part stands for the bytes taken so far: before the first part, one part more, and in the end for all.
use mathlib.Core.Path.{◌≡◌, ap, sym, ◌∙◌}
use mathlib.Core.List.{List, [], ◌++◌, append-nil}
use Prim.Native.Nat.{ℕ, ◌+◌, ◌-◌, ◌≤◌}
use native.Mathlib.Omega.{arith}
use lib.ListN.{length, take, length-take}
use lib.Seq.{take_all, take-add}
use Rattle.lines.proofs.BufferHolds.{stores_back}
use Rattle.texts.specs.Put.{Put}
use Rattle.answers.specs.Limits.{line_room, text_limit, text_room}
use Rattle.answers.specs.Turns.{held_of, turn_held}
use Rattle.answers.specs.TakeTurn.{part_taken}
use Rattle.answers.specs.declared.turn.Turn.{Turn}
use Rattle.answers.proofs.PieceLaws.{no_bytes}
use Rattle.answers.proofs.Turns.{turn_held_append, turn_none}

pub held_start : (block line : List ℕ) (held : ℕ) → length line ≡ line_room → take held line ≡ turn_held (take held line) (take 0 block)
held_start block line held room =
    sym ((turn_none (take held line) [] no_bytes).1
    ∙ ap held_of (append-nil (take held line))
    ∙ take_all line_room (take held line) (omega (arith, length-take held line)))

-- what is taken so far, and the part that a turn takes, are what is taken then
pub parts_taken : (block : List ℕ) (at : ℕ) (r : Turn) → at ≤ r.read → take at block ++ part_taken block at r ≡ take r.read block
parts_taken block at r onward =
    let whole : at + (r.read - at) ≡ r.read = omega arith in
    sym (take-add at (r.read - at) block) ∙ ap (λ (n : ℕ). take n block) whole

pub held_more : (block first line line' : List ℕ) (at kept : ℕ) (r : Turn) → take kept line ≡ turn_held first (take at block) → at ≤ r.read
    → take r.held line' ≡ turn_held (take kept line) (part_taken block at r) → take r.held line' ≡ turn_held first (take r.read block)
held_more block first line line' at kept r before onward turn =
    turn
    ∙ ap (λ (l : List ℕ). turn_held l (part_taken block at r)) before
    ∙ sym (turn_held_append first (take at block) (part_taken block at r))
    ∙ ap (turn_held first) (parts_taken block at r onward)

-- a text of an answer's length is within its buffer
pub end_within : {out text left : List ℕ} {r : ℕ} → length text ≤ text_limit → Put out 0 text left r → length left ≡ text_room → r ≤ length left
end_within few put room = omega (arith, put.next)

-- a text that is put at the start of a buffer and ends within it stands there
pub put_front : {out text left : List ℕ} {r : ℕ} → Put out 0 text left r → r ≤ length out → take r left ≡ text
put_front {out} {text} {left} {r} put room =
    let next : r ≡ length text = omega (arith, put.next) in
    let fits : length text ≤ length out = omega (arith, next, room) in
    rw (put.buffer, next) (stores_back out text fits)
