-- The lines of an input and the input made of lines: by recursion on the bytes, a line feed or another byte in front, where a line may have begun.
use mathlib.Core.Path.{◌≡◌, refl, ap, sym, ◌∙◌}
use mathlib.Core.Bool.{true, false}
use mathlib.Core.List.{List, [], ◌∷◌, ◌++◌, append_assoc, append-nil}
use Prim.Native.Nat.{ℕ}
use borrow.Author.Tests.{eqb-true}
use borrow.Table.Steps.{cases}
use lib.Dec.{eqb}
use Rattle.number.proofs.BothHold.{and_left, and_right}
use Rattle.lines.specs.Bytes.{line_feed}
use Rattle.answers.specs.Input.{ended, unended}
use Rattle.answers.specs.InputLines.{no_feed, no_feeds, with_feeds, InputLines}
use Rattle.answers.proofs.InputLaws.{other_byte, behind, ended_none, unended_none, ended_line, unended_line}

-- ---- no line has a line feed

-- nor has one with another byte behind it
one_more : (begun : List ℕ) (b : ℕ) → no_feed begun ≡ true → eqb b line_feed ≡ false → no_feed (begun ++ (b ∷ [])) ≡ true
unfolding no_feed
one_more [] b none other = rw other
one_more (c ∷ cs) b none other = rw (other_byte c cs none) (one_more cs b (behind c cs none) other)

parted : (begun input : List ℕ) → no_feed begun ≡ true → no_feeds (ended begun input) ≡ true
unfolding no_feed no_feeds ended
parted begun [] none = refl
parted begun (b ∷ bs) none =
    cases (eqb b line_feed) (λ feed. rw (feed, none) (parted [] bs refl))
    (λ other. rw other (parted (begun ++ (b ∷ [])) bs (one_more begun b none other)))

rest_parted : (begun input : List ℕ) → no_feed begun ≡ true → no_feed (unended begun input) ≡ true
unfolding no_feed unended
rest_parted begun [] none = none
rest_parted begun (b ∷ bs) none =
    cases (eqb b line_feed) (λ feed. rw feed (rest_parted [] bs refl))
    (λ other. rw other (rest_parted (begun ++ (b ∷ [])) bs (one_more begun b none other)))

-- ---- the lines make up the input

joins : (begun input : List ℕ) → with_feeds (ended begun input) ++ unended begun input ≡ begun ++ input
unfolding ended unended with_feeds
joins begun [] = sym (append-nil begun)
joins begun (b ∷ bs) =
    cases (eqb b line_feed)
    (λ feed. rw (feed, eqb-true b line_feed feed)
    (append_assoc begun (line_feed ∷ with_feeds (ended [] bs)) (unended [] bs) ∙ ap (λ (rest : List ℕ). begun ++ (line_feed ∷ rest)) (joins [] bs)))
    (λ other. rw other (joins (begun ++ (b ∷ [])) bs ∙ append_assoc begun (b ∷ []) bs))

-- ---- an input made of lines has these lines

module _ (rest : List ℕ) (rest_none : no_feed rest ≡ true) where
  parts : (lines : List (List ℕ)) → no_feeds lines ≡ true → ended [] (with_feeds lines ++ rest) ≡ lines
  unfolding no_feeds with_feeds
  parts [] none = ended_none [] rest rest_none
  parts (line ∷ lines) none =
      rw (append_assoc line (line_feed ∷ with_feeds lines) rest)
      (ended_line [] line (with_feeds lines ++ rest) (and_left (no_feed line) (no_feeds lines) none)
      ∙ ap (line ∷◌) (parts lines (and_right (no_feed line) (no_feeds lines) none)))

  rests : (lines : List (List ℕ)) → unended [] (with_feeds lines ++ rest) ≡ rest
  unfolding with_feeds
  rests [] = unended_none [] rest rest_none
  rests (line ∷ lines) =
      rw (append_assoc line (line_feed ∷ with_feeds lines) rest) (unended_line [] line (with_feeds lines ++ rest) ∙ rests lines)

pub input_lines : InputLines
unfolding no_feed
input_lines = record {
  parted = λ input. parted [] input refl;
  rest_parted = λ input. rest_parted [] input refl;
  joins = joins [];
  parts = λ lines rest none rest_none. parts rest rest_none lines none;
  rests = λ lines rest rest_none. rests rest rest_none lines;
}
