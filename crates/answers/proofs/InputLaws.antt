-- The lines of an input by its parts: what a part leaves unended is what the lines of the next begin with. By recursion on the bytes, a line feed or
-- another byte in front.
use mathlib.Core.Path.{◌≡◌, refl, ap, sym, ◌∙◌}
use mathlib.Core.Bool.{true, false, not}
use mathlib.Core.List.{List, [], ◌∷◌, ◌++◌, append_assoc, append-nil}
use Prim.Native.Nat.{ℕ}
use borrow.Author.Tests.{not-true}
use borrow.Table.Steps.{cases}
use lib.Dec.{eqb}
use Rattle.number.proofs.BothHold.{and_left, and_right}
use Rattle.lists.specs.Lists.{joined}
use Rattle.lines.specs.Bytes.{line_feed}
use Rattle.answers.specs.Answer.{answer_text}
use Rattle.answers.specs.Input.{ended, unended, answers_text}
use Rattle.answers.specs.InputLines.{no_feed}

-- ---- two parts, one behind the other

pub ended_append : (begun x y : List ℕ) → ended begun (x ++ y) ≡ ended begun x ++ ended (unended begun x) y
unfolding ended unended
ended_append begun [] y = refl
ended_append begun (b ∷ bs) y =
    cases (eqb b line_feed) (λ feed. rw feed (ap (begun ∷◌) (ended_append [] bs y))) (λ other. rw other (ended_append (begun ++ (b ∷ [])) bs y))

pub unended_append : (begun x y : List ℕ) → unended begun (x ++ y) ≡ unended (unended begun x) y
unfolding unended
unended_append begun [] y = refl
unended_append begun (b ∷ bs) y =
    cases (eqb b line_feed) (λ feed. rw feed (unended_append [] bs y)) (λ other. rw other (unended_append (begun ++ (b ∷ [])) bs y))

-- ---- a part without a line feed

module _ (b : ℕ) (bs : List ℕ) (none : no_feed (b ∷ bs) ≡ true) where
  pub other_byte : eqb b line_feed ≡ false
  unfolding no_feed
  other_byte = not-true (eqb b line_feed) (and_left (not (eqb b line_feed)) (no_feed bs) none)

  pub behind : no_feed bs ≡ true
  unfolding no_feed
  behind = and_right (not (eqb b line_feed)) (no_feed bs) none

pub ended_none : (begun x : List ℕ) → no_feed x ≡ true → ended begun x ≡ []
unfolding ended
ended_none begun [] none = refl
ended_none begun (b ∷ bs) none = rw (other_byte b bs none) (ended_none (begun ++ (b ∷ [])) bs (behind b bs none))

pub unended_none : (begun x : List ℕ) → no_feed x ≡ true → unended begun x ≡ begun ++ x
unfolding unended
unended_none begun [] none = sym (append-nil begun)
unended_none begun (b ∷ bs) none =
    rw (other_byte b bs none) (unended_none (begun ++ (b ∷ [])) bs (behind b bs none) ∙ append_assoc begun (b ∷ []) bs)

-- ---- a line feed behind it, and more behind that

pub ended_line : (begun x more : List ℕ) → no_feed x ≡ true → ended begun (x ++ (line_feed ∷ more)) ≡ (begun ++ x) ∷ ended [] more
unfolding ended
ended_line begun x more none = rw (ended_append, ended_none begun x none, unended_none begun x none)

pub ended_one : (begun x : List ℕ) → no_feed x ≡ true → ended begun (x ++ (line_feed ∷ [])) ≡ (begun ++ x) ∷ []
unfolding ended
ended_one begun x none = ended_line begun x [] none

-- whatever stands in front of the line feed
pub unended_line : (begun x more : List ℕ) → unended begun (x ++ (line_feed ∷ more)) ≡ unended [] more
unfolding unended
unended_line begun x more = unended_append begun x (line_feed ∷ more)

pub unended_one : (begun x : List ℕ) → unended begun (x ++ (line_feed ∷ [])) ≡ []
unfolding unended
unended_one begun x = unended_line begun x []

-- ---- the answers to some lines and to others

pub answers_append : (xs ys : List (List ℕ)) → answers_text (xs ++ ys) ≡ answers_text xs ++ answers_text ys
unfolding answers_text joined
answers_append [] ys = refl
answers_append (x ∷ xs) ys = ap (answer_text x ++◌) (answers_append xs ys) ∙ sym (append_assoc (answer_text x) (answers_text xs) (answers_text ys))
