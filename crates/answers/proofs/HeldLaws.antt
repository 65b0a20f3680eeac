-- A too long line is answered as its held part is, which is too long too: both are refused for their form. Any other line is held whole.
use mathlib.Core.Path.{◌≡◌, refl, ap, sym, ◌∙◌}
use mathlib.Core.Bool.{false}
use mathlib.Core.List.{List, [], ◌∷◌, ◌++◌}
use Prim.Native.Nat.{ℕ, zero, suc, ◌<◌}
use native.Mathlib.Decide.{dec_lt}
use native.Mathlib.Nat.{le_refl}
use native.Mathlib.Omega.{arith}
use borrow.Author.Tests.{lt-leb}
use lib.ListN.{length, take, length-take}
use lib.Seq.{take_all, take-take}
use Rattle.number.specs.Refusal.{unless_refused}
use Rattle.lists.specs.Lists.{joined}
use Rattle.lines.specs.Limits.{line_limit}
use Rattle.lines.specs.Line.{is_line}
use Rattle.texts.specs.Text.{refusal_line}
use Rattle.answers.specs.Limits.{line_room}
use Rattle.answers.specs.Answer.{answer_refusal, answer_lines, answer_text}
use Rattle.answers.specs.Input.{last_line, answers_text}
use Rattle.answers.specs.Turns.{held_of, end_text}

-- ---- a held line with bytes behind it

take_again : (n : ℕ) (line more : List ℕ) → take n (take n line ++ more) ≡ take n (line ++ more)
take_again zero line more = refl
take_again (suc n) [] more = refl
take_again (suc n) (b ∷ bs) more = ap (b ∷◌) (take_again n bs more)

pub held_held : (line more : List ℕ) → held_of (held_of line ++ more) ≡ held_of (line ++ more)
held_held line more = take_again line_room line more

pub held_again : (line : List ℕ) → held_of (held_of line) ≡ held_of line
held_again line = take-take line_room line_room line (le_refl line_room)

-- what is the same for a line and for what is held of it is so with bytes behind them too
pub same_behind : (f : List ℕ → List ℕ) → ((line : List ℕ) → f (held_of line) ≡ f line) → (line more : List ℕ) → f (held_of line ++ more) ≡ f (line ++ more)
same_behind f same line more = sym (same (held_of line ++ more)) ∙ ap f (held_held line more) ∙ same (line ++ more)

-- ---- its answer

-- a line over the limit doesn't have the form
too_long : (line : List ℕ) → line_limit < length line → is_line line ≡ false
unfolding is_line
too_long line long = rw (lt-leb (length line) line_limit long)

-- and a line without the form is refused by 12
bad_answer : (line : List ℕ) → is_line line ≡ false → answer_text line ≡ joined (refusal_line 12 ∷ [])
unfolding answer_text answer_lines answer_refusal unless_refused
bad_answer line bad = rw bad

pub answer_held_alone : (line : List ℕ) → answer_text (held_of line) ≡ answer_text line
answer_held_alone line = by_length (dec_lt line_room (length line))
  where
    by_length : Dec (line_room < length line) → answer_text (held_of line) ≡ answer_text line
    by_length (yes long) =
        bad_answer (held_of line) (too_long (held_of line) (omega (arith, length-take line_room line)))
        ∙ sym (bad_answer line (too_long line (omega arith)))
    by_length (no short) = ap answer_text (take_all line_room line (omega arith))

pub answer_held : (line more : List ℕ) → answer_text (held_of line ++ more) ≡ answer_text (line ++ more)
answer_held = same_behind answer_text answer_held_alone

-- ---- its answer at the input's end

same_end : (n : ℕ) (line : List ℕ) → answer_text (take (suc n) line) ≡ answer_text line → end_text (take (suc n) line) ≡ end_text line
unfolding answers_text joined last_line
same_end n [] same = refl
same_end n (b ∷ bs) same = ap (◌++ []) same

pub end_held : (line : List ℕ) → end_text (held_of line) ≡ end_text line
end_held line = same_end line_limit line (answer_held_alone line)
