-- However an input is parted, its turns write its output: a turn for two parts is their turns one after another, since no text depends on more of a
-- line than what is held of it.
use mathlib.Core.Path.{◌≡◌, refl, ap, sym, ◌∙◌}
use mathlib.Core.Bool.{true}
use mathlib.Core.List.{List, [], ◌∷◌, ◌++◌, append_assoc, append-nil}
use Prim.Native.Nat.{ℕ}
use borrow.Table.Steps.{cases}
use lib.Dec.{eqb}
use Rattle.lists.specs.Lists.{joined}
use Rattle.lines.specs.Bytes.{line_feed}
use Rattle.answers.specs.Answer.{answer_text}
use Rattle.answers.specs.Input.{ended, unended, last_line, lines_in, answers_text, output}
use Rattle.answers.specs.InputLines.{no_feed}
use Rattle.answers.specs.Turns.{held_of, turn_text, turn_held, end_text, written, TurnsWrite}
use Rattle.answers.proofs.InputLaws.{ended_append, unended_append, ended_none, unended_none, ended_one, unended_one, answers_append}
use Rattle.answers.proofs.HeldLaws.{held_again, same_behind, answer_held_alone, end_held}

-- ---- a turn sees no more of a line than what is held of it

pub text_held : (held part : List ℕ) → turn_text (held_of held) part ≡ turn_text held part
unfolding answers_text joined ended
text_held held [] = refl
text_held held (b ∷ bs) =
    cases (eqb b line_feed) (λ feed. rw feed (ap (◌++ turn_text [] bs) (answer_held_alone held)))
    (λ other. rw other (same_behind (λ (line : List ℕ). turn_text line bs) (λ line. text_held line bs) held (b ∷ [])))

pub held_turn : (held part : List ℕ) → turn_held (held_of held) part ≡ turn_held held part
unfolding unended
held_turn held [] = held_again held
held_turn held (b ∷ bs) =
    cases (eqb b line_feed) (λ feed. rw feed)
    (λ other. rw other (same_behind (λ (line : List ℕ). turn_held line bs) (λ line. held_turn line bs) held (b ∷ [])))

-- ---- a turn for two parts

pub turn_text_append : (held x y : List ℕ) → turn_text held (x ++ y) ≡ turn_text held x ++ turn_text (turn_held held x) y
turn_text_append held x y =
    ap answers_text (ended_append held x y) ∙ answers_append (ended held x) (ended (unended held x) y)
    ∙ ap (turn_text held x ++◌) (sym (text_held (unended held x) y))

pub turn_held_append : (held x y : List ℕ) → turn_held held (x ++ y) ≡ turn_held (turn_held held x) y
turn_held_append held x y = ap held_of (unended_append held x y) ∙ sym (held_turn (unended held x) y)

-- ---- the turns for all parts

written_is : (held : List ℕ) (parts : List (List ℕ)) → written held parts ≡ turn_text held (joined parts) ++ end_text (turn_held held (joined parts))
unfolding written joined ended unended answers_text
written_is held [] = sym (end_held held)
written_is held (part ∷ parts) =
    rw (turn_text_append held part (joined parts), turn_held_append held part (joined parts), append_assoc)
    (ap (turn_text held part ++◌) (written_is (turn_held held part) parts))

pub turns_write : TurnsWrite
unfolding output lines_in
turns_write parts =
    written_is [] parts ∙ ap (turn_text [] (joined parts) ++◌) (end_held (unended [] (joined parts)))
    ∙ sym (answers_append (ended [] (joined parts)) (last_line (unended [] (joined parts))))

-- ---- a part without a line feed, and with one at its end

pub turn_none : (held x : List ℕ) → no_feed x ≡ true → (turn_text held x ≡ []) × (turn_held held x ≡ held_of (held ++ x))
unfolding answers_text joined
turn_none held x none = (rw (ended_none held x none), ap held_of (unended_none held x none))

pub turn_one : (held x : List ℕ) → no_feed x ≡ true
    → (turn_text held (x ++ (line_feed ∷ [])) ≡ answer_text (held ++ x)) × (turn_held held (x ++ (line_feed ∷ [])) ≡ [])
unfolding answers_text joined
turn_one held x none = (rw (ended_one held x none) (append-nil (answer_text (held ++ x))), rw (unended_one held x))
