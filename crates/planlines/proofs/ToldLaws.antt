-- What is read of an input and told of it, part by part: before the first part, one part more, where the program stops, and in the end the output.
use mathlib.Core.Path.{◌≡◌, ap, sym, ◌∙◌, subst}
use mathlib.Core.List.{List, [], ◌∷◌, ◌++◌}
use Prim.Native.Nat.{ℕ, ◌≤◌, ◌<◌}
use native.Mathlib.Omega.{arith}
use lib.ListN.{length, take}
use lib.Seq.{take_all}
use Rattle.std.specs.Prelude.{Option, None, Some, IfSome}
use Rattle.std.specs.Io.KnownBytes.{Consumes, Appends, IsAtEnd}
use Rattle.std.proofs.KnownBytes.{Consumes-nil, Consumes-trans, Appends-nil, Appends-trans}
use Rattle.lists.specs.Lists.{joined}
use Rattle.answers.specs.Limits.{line_room}
use Rattle.answers.specs.Input.{output}
use Rattle.answers.specs.Turns.{turn_text, turn_held, end_text, written}
use Rattle.answers.specs.TakeTurn.{part_taken}
use Rattle.answers.specs.declared.turn.Turn.{Turn}
use Rattle.answers.proofs.PieceLaws.{no_bytes}
use Rattle.answers.proofs.Turns.{turn_text_append, turn_held_append, turn_none, turns_write}
use Rattle.streams.specs.declared.input.BlockRead.{BlockRead}
use Rattle.streams.specs.declared.input.BlockRead.TheVariants.{Ended}
use Rattle.planlines.specs.BlocksAnswered.{ReadAnswered, BlocksAnswered, OutputFor}
use Rattle.planlines.specs.LastText.{last_text}
use Rattle.planlines.proofs.BlockLaws.{parts_taken}
use Rattle.planlines.proofs.LastLaws.{last_ended}

-- ---- what a turn tells

-- before the first part
pub part_none : (told : Option (List ℕ)) (first block : List ℕ) → Appends told told (turn_text first (take 0 block))
part_none told first block = subst (Appends told told) (sym (turn_none first [] no_bytes).0) (Appends-nil told)

-- one part more, with what is held by the parts before it
pub part_more : (told told' told'' : Option (List ℕ)) (first held x y : List ℕ) → Appends told told' (turn_text first x) → held ≡ turn_held first x
    → Appends told' told'' (turn_text held y) → Appends told told'' (turn_text first (x ++ y))
part_more told told' told'' first held x y before held_is after =
    let text : turn_text first (x ++ y) ≡ turn_text first x ++ turn_text held y =
    turn_text_append first x y ∙ ap (λ (l : List ℕ). turn_text first x ++ turn_text l y) (sym held_is) in
    subst (Appends told told'') (sym text) (Appends-trans told told' told'' _ _ before after)

-- the same of the part that a turn takes of a block
pub turn_told : (told told' told'' : Option (List ℕ)) (first held block : List ℕ) (at : ℕ) (r : Turn) → at ≤ r.read
    → Appends told told' (turn_text first (take at block)) → held ≡ turn_held first (take at block) → (text : List ℕ)
    → text ≡ turn_text held (part_taken block at r) → Appends told' told'' text → Appends told told'' (turn_text first (take r.read block))
turn_told told told' told'' first held block at r onward before held_is text text_is after =
    let part = part_taken block at r in
    let more = part_more told told' told'' first held (take at block) part before held_is (subst (Appends told' told'') text_is after) in
    subst (λ (l : List ℕ). Appends told told'' (turn_text first l)) (parts_taken block at r onward) more

-- ---- what was read and answered

module _ {unread unread' told told' : Option (List ℕ)} {held : List ℕ} (before : ReadAnswered unread unread' told told' held) where
  pub told_more : {unread'' told'' : Option (List ℕ)} {held' : List ℕ} (part : List ℕ) → Consumes unread' unread'' part
      → Appends told' told'' (turn_text held part)
      → held' ≡ turn_held held part → ReadAnswered unread unread'' told told'' held'
  told_more {unread''} {told''} {held'} part read answered is =
      let bytes = before.bytes in
      record {
        bytes = bytes ++ part;
        read = Consumes-trans unread unread' unread'' bytes part before.read read;
        answered = part_more told told' told'' [] held bytes part before.answered before.line_held answered;
        line_held = is ∙ ap (λ (l : List ℕ). turn_held l part) before.line_held ∙ sym (turn_held_append [] bytes part);
      }

pub told_none : (unread told : Option (List ℕ)) (line : List ℕ) → ReadAnswered unread unread told told (take 0 line)
told_none unread told line = record {
  bytes = [];
  read = Consumes-nil unread;
  answered = part_none told [] [];
  line_held = sym ((turn_none [] [] no_bytes).1 ∙ take_all line_room [] (omega arith));
}

-- ---- the output

whole_output : (bytes input held : List ℕ) → held ≡ turn_held [] bytes → input ≡ bytes ++ [] → turn_text [] bytes ++ end_text held ≡ output input
unfolding written joined
whole_output bytes input held held_is input_is = rw (held_is, input_is) (turns_write (bytes ∷ []))

output_ended : (unread unread' told told' told'' : Option (List ℕ)) (held : List ℕ) → ReadAnswered unread unread' told told' held → IsAtEnd unread'
    → Appends told' told'' (end_text held) → IfSome unread (OutputFor told told'')
output_ended None unread' told told' told'' held before ended end_told = tt
output_ended (Some input) None told told' told'' held before ended end_told = absurd before.read
output_ended (Some input) (Some rest) told told' told'' held before ended end_told =
    let bytes = before.bytes in
    let input_is : input ≡ bytes ++ [] = before.read ∙ ap (λ (l : List ℕ). bytes ++ l) ended in
    subst (Appends told told'') (whole_output bytes input held before.line_held input_is) (Appends-trans told told' told'' _ _ before.answered end_told)

-- the text for the last read is written behind the answers
pub output_told : (unread unread' told told' told'' : Option (List ℕ)) (held block text : List ℕ) (last : BlockRead) → last ≡ Ended
    → BlocksAnswered unread unread' told told' held last block → 0 < length block → text ≡ last_text last held → Appends told' told'' text
    → IfSome unread (OutputFor told told'')
output_told unread unread' told told' told'' held block text last is answered some text_is last_told =
    let stopped = subst (λ (l : BlockRead). BlocksAnswered unread unread' told told' held l block) is answered in
    let end_told = subst (Appends told' told'') (text_is ∙ sym (last_ended held is)) last_told in
    output_ended unread unread' told told' told'' held stopped.0 (stopped.1 some) end_told
