-- How answering the input ends: the text that is left to be written is the one for what the last read brought and the bytes held then, and so nothing unless
-- that read said that the input has ended.
use Rattle.std.specs.Prelude.{◌≡◌, List, ℕ, ◌≤◌, length, take}
use Rattle.planlines.specs.LastText.{last_text}
use Rattle.planlines.specs.declared.input.Finished.{Finished}

-- the first r .held bytes of `line` are held, and the first r .text of `out` are left to be written
pub record AnswerInput (line out : List ℕ) (r : Finished) : Type 0 where
  pub held_within : r.held ≤ length line
  pub text : take r.text out ≡ last_text r.last (take r.held line)
  pub within : r.text ≤ length out
