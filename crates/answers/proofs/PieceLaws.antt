-- Bytes of a block up to its first line feed, as `position` finds it; and what a piece takes of them.
use mathlib.Core.Path.{◌≡◌, refl, ap, sym, ◌∙◌}
use mathlib.Core.Logic.{◌≢◌}
use mathlib.Core.Bool.{true, false}
use mathlib.Core.List.{List, [], ◌∷◌, ◌++◌}
use Prim.Native.Nat.{ℕ, zero, suc, ◌+◌, ◌-◌, ◌<◌, ◌≤◌}
use native.Mathlib.Decide.{dec_lt}
use native.Mathlib.Omega.{arith}
use borrow.Author.Tests.{ne_eqb}
use Rattle.std.proofs.Common.{min}
use lib.ListN.{length, get_or, take, drop, length-drop, length-take}
use lib.Seq.{take-suc, take_all, take-append-add}
use Rattle.std.specs.List.{HoldsAt, AllWithin}
use Rattle.lines.specs.Bytes.{line_feed}
use Rattle.answers.specs.InputLines.{no_feed}
use Rattle.answers.specs.Limits.{line_room}
use Rattle.answers.specs.inside.Pieces.{between, Held, Taken}

-- ---- bytes without a line feed

pub between_none : (block : List ℕ) (at : ℕ) → between at at block ≡ []
between_none block at = let none : at - at ≡ 0 = omega arith in ap (λ (n : ℕ). take n (drop at block)) none

pub no_bytes : no_feed [] ≡ true
unfolding no_feed
no_bytes = refl

no_feed_before : (xs : List ℕ) (i : ℕ) → ((k : ℕ) → k < i → k < length xs → get_or xs k 0 ≢ line_feed) → no_feed (take i xs) ≡ true
unfolding no_feed
no_feed_before xs zero none = refl
no_feed_before [] (suc i) none = refl
no_feed_before (b ∷ bs) (suc i) none =
    rw (ne_eqb b line_feed (none 0 (omega arith) (omega arith))) (no_feed_before bs i (λ k h g. none (suc k) (omega arith) (omega arith)))

-- ---- a piece

module _ {block line line' : List ℕ} {at held r : ℕ} (in_block : at ≤ length block) (room : length line ≡ line_room) where
  -- a line feed ends it
  pub piece_whole : {i : ℕ}
      → (i < length (drop at block)) × HoldsAt (λ b. b ≡ line_feed) (drop at block) i × AllWithin (λ b. b ≢ line_feed) (drop at block) 0 i
      → Held line held (take i (drop at block)) line' r → Taken block at line held line' (record { next = at + i + 1; held = r; whole = true })
  piece_whole {i} found put =
      let rest = drop at block in
      let long = length-drop at block in
      let one : at + i + 1 - at ≡ suc i = omega arith in
      record {
        bytes = take i rest;
        free = no_feed_before rest i (λ k h g. found.2 k 0 (omega arith) h);
        part =
            ap (λ (n : ℕ). take n rest) one
            ∙ take-suc rest i 0 found.0
            ∙ ap (λ (b : ℕ). take i rest ++ (b ∷ [])) (found.1 0);
        onward = λ h. omega arith;
        next_within = omega (arith, found.0);
        held_within = put.within;
        text = put.text ∙ ap (λ (n : ℕ). take n (take held line ++ take i rest)) room;
      }

  -- the block's end does
  pub piece_rest : AllWithin (λ b. b ≢ line_feed) (drop at block) 0 (length (drop at block)) → Held line held (drop at block) line' r
      → Taken block at line held line' (record { next = length block; held = r; whole = false })
  piece_rest none put =
      let rest = drop at block in
      let all : take (length rest) rest ≡ rest = take_all (length rest) rest (omega arith) in
      record {
        bytes = rest;
        free = ap no_feed (sym all) ∙ no_feed_before rest (length rest) (λ k h g. none k 0 (omega arith) h);
        part = take_all (length block - at) rest (omega (arith, length-drop at block));
        onward = λ h. h;
        next_within = omega arith;
        held_within = put.within;
        text = put.text ∙ ap (λ (n : ℕ). take n (take held line ++ rest)) room;
      }

-- ---- bytes behind those that are held

fewer : (bytes : List ℕ) (room count : ℕ) → count ≡ min (length bytes) room → take count bytes ≡ take room bytes
fewer bytes room count counts = by_room (dec_lt room (length bytes))
  where
    by_room : Dec (room < length bytes) → take count bytes ≡ take room bytes
    by_room (yes less) = let same : count ≡ room = omega arith in ap (λ (n : ℕ). take n bytes) same
    by_room (no more) = take_all count bytes (omega arith) ∙ sym (take_all room bytes (omega arith))

pub kept_both : (line bytes : List ℕ) (held count : ℕ) → held ≤ length line → count ≡ min (length bytes) (length line - held)
    → take held line ++ take count bytes ≡ take (length line) (take held line ++ bytes)
kept_both line bytes held count fits counts =
    let room : length line ≡ length (take held line) + (length line - held) = omega (arith, length-take held line) in
    sym
    (ap (λ (n : ℕ). take n (take held line ++ bytes)) room
    ∙ take-append-add (take held line) bytes (length line - held)
    ∙ ap (λ (bs : List ℕ). take held line ++ bs) (sym (fewer bytes (length line - held) count counts)))
