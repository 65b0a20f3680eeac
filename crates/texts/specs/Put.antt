-- What a call that puts a text into a buffer leaves there, and answers: `put_plan` puts the text of a plan, `put_refusal` the line of a refusal.
use Rattle.std.specs.Prelude.{◌≡◌, List, ℕ, ◌+◌, length}
use Rattle.std.proofs.lemmas.List.Edits.{sets}

-- the text stands from place `at` on, cut off where the buffer ends, and all other places are as they were; the answer is the place behind it
pub record Put (out : List ℕ) (at : ℕ) (text left : List ℕ) (r : ℕ) : Type 0 where
  pub buffer : left ≡ sets out at text
  pub next : r ≡ at + length text
