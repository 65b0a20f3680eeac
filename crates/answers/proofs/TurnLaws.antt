-- The lines of a block one after another. What is put and what is held stand for the part of the block that is taken already; a piece more adds its own
-- text, and each text fits, since there is room for the longest.
use mathlib.Core.Path.{◌≡◌, refl, ap, sym, ◌∙◌}
use mathlib.Core.Bool.{Bool, true, false, cond}
use mathlib.Core.List.{List, [], ◌∷◌, ◌++◌, append-nil}
use Prim.Native.Nat.{ℕ, ◌+◌, ◌-◌, ◌<◌, ◌≤◌}
use native.Mathlib.Omega.{arith}
use borrow.Author.Tests.{leb-true, leb-false}
use lib.Dec.{leb}
use lib.ListN.{length, take, drop, length-take}
use lib.Seq.{take_all, take-add, drop-drop}
use Rattle.lists.specs.Lists.{joined}
use Rattle.lines.specs.Bytes.{line_feed}
use Rattle.texts.specs.Put.{Put}
use Rattle.texts.proofs.PutLaws.{put_none, put_then, put_same}
use Rattle.answers.specs.Limits.{line_room, text_limit}
use Rattle.answers.specs.Answer.{answer_text}
use Rattle.answers.specs.Input.{last_line, answers_text}
use Rattle.answers.specs.Turns.{held_of, turn_text, turn_held, end_text}
use Rattle.answers.specs.TakeTurn.{TakeTurn}
use Rattle.answers.specs.inside.Pieces.{between, Taken, piece_text, held_after}
use Rattle.answers.specs.declared.hold.Piece.{Piece}
use Rattle.answers.proofs.HeldLaws.{answer_held_alone}
use Rattle.answers.proofs.PieceLaws.{between_none, no_bytes}
use Rattle.answers.proofs.Turns.{turn_text_append, turn_held_append, turn_none, turn_one}
use Rattle.answers.proofs.TextFits.{text_fits}

-- ---- the end of the input

pub end_none : end_text [] ≡ []
unfolding answers_text last_line joined
end_none = refl

pub end_some : (held : List ℕ) → 0 < length held → end_text held ≡ answer_text held
unfolding answers_text last_line joined
end_some [] some = absurd (omega arith)
end_some (b ∷ bs) some = append-nil (answer_text (b ∷ bs))

-- ---- a piece

pub piece_unended : (piece : Piece) (line : List ℕ) → piece.whole ≡ false → piece_text piece line ≡ []
piece_unended piece line e = ap (λ (t : Bool). cond t (answer_text (take piece.held line)) []) e

pub piece_ended : (piece : Piece) (line : List ℕ) → piece.whole ≡ true → piece_text piece line ≡ answer_text (take piece.held line)
piece_ended piece line e = ap (λ (t : Bool). cond t (answer_text (take piece.held line)) []) e

piece_fits : (piece : Piece) (line : List ℕ) → length (piece_text piece line) ≤ text_limit
piece_fits piece line = by_end piece.whole
  where
    by_end : (t : Bool) → length (cond t (answer_text (take piece.held line)) []) ≤ text_limit
    by_end true = text_fits (take piece.held line)
    by_end false = omega arith

-- what a turn with a piece writes and holds, behind the bytes that are held
pub record PieceTurn (held part : List ℕ) (piece : Piece) (line' : List ℕ) : Type 0 where
  pub text : turn_text held part ≡ piece_text piece line'
  pub rest : take (held_after piece) line' ≡ turn_held held part

module _ {block line line' : List ℕ} {at held : ℕ} {piece : Piece} (taken : Taken block at line held line' piece) where
  abbrev before : List ℕ
  before = take held line

  abbrev part : List ℕ
  part = between at piece.next block

  part_as : {t : Bool} → piece.whole ≡ t → part ≡ cond t (taken.bytes ++ (line_feed ∷ [])) taken.bytes
  part_as e = taken.part ∙ ap (λ (t : Bool). cond t (taken.bytes ++ (line_feed ∷ [])) taken.bytes) e

  left_as : {t : Bool} → piece.whole ≡ t → take (held_after piece) line' ≡ take (cond t 0 piece.held) line'
  left_as e = ap (λ (t : Bool). take (cond t 0 piece.held) line') e

  by_whole : (t : Bool) → piece.whole ≡ t → PieceTurn before part piece line'
  by_whole true e =
      let one = turn_one before taken.bytes taken.free in
      record {
        text =
            ap (turn_text before) (part_as e)
            ∙ one.0
            ∙ sym (answer_held_alone (before ++ taken.bytes))
            ∙ ap answer_text (sym taken.text)
            ∙ sym (piece_ended piece line' e);
        rest = left_as e ∙ sym (ap (turn_held before) (part_as e) ∙ one.1);
      }
  by_whole false e =
      let none = turn_none before taken.bytes taken.free in
      record {
        text = ap (turn_text before) (part_as e) ∙ none.0 ∙ sym (piece_unended piece line' e);
        rest = left_as e ∙ taken.text ∙ sym (ap (turn_held before) (part_as e) ∙ none.1);
      }

  piece_turn : PieceTurn before part piece line'
  piece_turn = by_whole piece.whole refl

held_after_most : (piece : Piece) → held_after piece ≤ piece.held
held_after_most piece = by_end piece.whole
  where
    by_end : (t : Bool) → cond t 0 piece.held ≤ piece.held
    by_end true = omega arith
    by_end false = omega arith

-- ---- the loop

-- the part from `from` up to `at` is taken; the line's buffer was `line₀` with `held` bytes, and the text's was `out₀`
pub record SoFar (block : List ℕ) (from : ℕ) (line₀ : List ℕ) (held : ℕ) (out₀ line out : List ℕ) (at kept text : ℕ) : Type 0 where
  pub onward : from ≤ at
  pub within : at ≤ length block
  pub put : Put out₀ 0 (turn_text (take held line₀) (between from at block)) out text
  pub text_within : text ≤ length out₀
  pub line_held : take kept line ≡ turn_held (take held line₀) (between from at block)
  pub line_size : length line ≡ line_room
  pub kept_within : kept ≤ length line

between_join : (block : List ℕ) (from at to : ℕ) → from ≤ at → at ≤ to → between from to block ≡ between from at block ++ between at to block
between_join block from at to h g =
    let whole : to - from ≡ (at - from) + (to - at) = omega arith in
    let there : from + (at - from) ≡ at = omega arith in
    ap (λ (n : ℕ). take n (drop from block)) whole
    ∙ take-add (at - from) (to - at) (drop from block)
    ∙ ap (λ (l : List ℕ). between from at block ++ take (to - at) l)
    (drop-drop (at - from) from block ∙ ap (λ (n : ℕ). drop n block) there)

-- no byte taken
module _ (block : List ℕ) (from : ℕ) (held : List ℕ) where
  none_written : turn_text held (between from from block) ≡ []
  none_written = ap (turn_text held) (between_none block from) ∙ (turn_none held [] no_bytes).0

  none_held : length held ≤ line_room → turn_held held (between from from block) ≡ held
  none_held few =
      ap (turn_held held) (between_none block from)
      ∙ (turn_none held [] no_bytes).1
      ∙ ap held_of (append-nil held)
      ∙ take_all line_room held few

module _ {block line₀ out₀ : List ℕ} {from held : ℕ} where
  pub so_far_start : from ≤ length block → length line₀ ≡ line_room → held ≤ length line₀ → SoFar block from line₀ held out₀ line₀ out₀ from held 0
  so_far_start within room fits =
      let first = take held line₀ in
      record {
        onward = omega arith;
        within = within;
        put = put_same (put_none out₀ 0) (sym (none_written block from first));
        text_within = omega arith;
        line_held = sym (none_held block from first (omega (arith, length-take held line₀)));
        line_size = room;
        kept_within = fits;
      }

  module _ {line out : List ℕ} {at kept text : ℕ} (done : SoFar block from line₀ held out₀ line out at kept text) where
    pub so_far_more : {line' out' : List ℕ} {piece : Piece} {next rest : ℕ} → at < length block → text + text_limit ≤ length out₀
        → Taken block at line kept line' piece → length line' ≡ length line → Put out text (piece_text piece line') out' next → rest ≡ held_after piece
        → SoFar block from line₀ held out₀ line' out' piece.next rest next
    so_far_more {line'} {out'} {piece} {next} {rest} more room taken same put rest_is =
        let first = take held line₀ in
        let taken_part = between from at block in
        let onto : at < piece.next = taken.onward more in
        let turn = piece_turn taken in
        let join = between_join block from at piece.next done.onward (omega arith) in
        let part : List ℕ = between at piece.next block in
        let text_is : turn_text first taken_part ++ piece_text piece line' ≡ turn_text first (between from piece.next block) =
        ap (λ (t : List ℕ). turn_text first taken_part ++ t)
        (sym turn.text ∙ ap (λ (l : List ℕ). turn_text l part) done.line_held)
        ∙ sym (turn_text_append first taken_part part)
        ∙ ap (turn_text first) (sym join) in
        record {
          onward = omega (arith, done.onward);
          within = taken.next_within;
          put = put_same (put_then done.put put) text_is;
          text_within = omega (arith, put.next, piece_fits piece line');
          line_held =
              ap (λ (n : ℕ). take n line') rest_is
              ∙ turn.rest
              ∙ ap (λ (l : List ℕ). turn_held l part) done.line_held
              ∙ sym (turn_held_append first taken_part part)
              ∙ ap (turn_held first) (sym join);
          line_size = same ∙ done.line_size;
          kept_within = omega (arith, held_after_most piece, taken.held_within);
        }

    pub so_far_end : length line₀ ≡ line_room → text_limit ≤ length out₀ → (at < length block → length out₀ < text + text_limit)
        → TakeTurn block from line₀ held out₀ line out (record { read = at; held = kept; text = text })
    so_far_end room_before text_size full =
        record {
          text = done.put;
          text_within = done.text_within;
          line_held = done.line_held;
          held_within = omega (arith, done.kept_within, done.line_size);
          onward = λ some. not_none some (leb at from) refl;
          within = done.within;
          full = full;
        }
      where
        not_none : from < length block → (t : Bool) → leb at from ≡ t → from < at
        not_none some true h =
            let same : at ≡ from = omega (arith, leb-true at from h, done.onward) in
            let nothing : turn_text (take held line₀) (between from at block) ≡ [] =
            ap (λ (n : ℕ). turn_text (take held line₀) (between from n block)) same ∙ none_written block from (take held line₀) in
            absurd (omega (arith, full (omega arith), done.put.next, ap (λ (t : List ℕ). length t) nothing))
        not_none some false h = leb-false at from h
