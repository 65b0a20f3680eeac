-- What is put after the last read: only the end of the input has a text.
use mathlib.Core.Path.{◌≡◌, refl}
use mathlib.Core.List.{List, []}
use Prim.Native.Nat.{ℕ, ◌≤◌}
use native.Mathlib.Omega.{arith}
use lib.ListN.{length, take}
use Rattle.lines.proofs.BufferHolds.{stores_back}
use Rattle.texts.specs.Put.{Put}
use Rattle.texts.proofs.PutLaws.{put_length}
use Rattle.answers.specs.Limits.{text_limit, text_room}
use Rattle.answers.specs.Turns.{end_text}
use Rattle.answers.proofs.TextFits.{end_fits}
use Rattle.streams.specs.declared.input.BlockRead.{BlockRead}
use Rattle.streams.specs.declared.input.BlockRead.TheVariants.{Bytes, Ended, Failed}
use Rattle.planlines.specs.LastText.{last_text}
use Rattle.planlines.proofs.BlockLaws.{end_within}

pub last_ended : {last : BlockRead} (held : List ℕ) → last ≡ Ended → end_text held ≡ last_text last held
unfolding last_text
last_ended held is = rw is

pub last_other : (last : BlockRead) (held : List ℕ) → (last ≡ Ended → ⊥) → [] ≡ last_text last held
unfolding last_text
last_other (Bytes n) held other = refl
last_other Failed held other = refl
last_other Ended held other = absurd (other refl)

-- no such text is longer than an answer
last_fits : (last : BlockRead) (held : List ℕ) → length (last_text last held) ≤ text_limit
unfolding last_text
last_fits (Bytes n) held = omega arith
last_fits Ended held = end_fits held
last_fits Failed held = omega arith

-- what is put at the start of a buffer that has room for it stands there
pub last_put : (last : BlockRead) (held : List ℕ) {out left : List ℕ} {r : ℕ} → Put out 0 (last_text last held) left r → length left ≡ text_room
    → (take r left ≡ last_text last held) × (r ≤ length left)
last_put last held {out} {left} {r} put room =
    let text = last_text last held in
    let fits : length text ≤ length out = omega (arith, last_fits last held, put_length put) in
    let next : r ≡ length text = omega (arith, put.next) in
    (rw (put.buffer, next) (stores_back out text fits), end_within (last_fits last held) put room)
