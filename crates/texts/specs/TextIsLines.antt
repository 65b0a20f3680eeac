-- The text of a plan, and of a refusal, is a whole number of lines, each with one line feed, at its end.
use Rattle.std.specs.Prelude.{◌≡◌, List, [], ◌∷◌, ◌++◌, ℕ, suc, ◌<◌, ℤ, length, get_or}
use Rattle.walk.specs.declared.plan.Head.{Head}
use Rattle.walk.specs.declared.plan.Step.{Step}
use Rattle.lines.specs.Bytes.{line_feed}
use Rattle.texts.specs.Text.{refusal_line}
use Rattle.texts.specs.PlanText.{lines_of}

-- it ends in a line feed, and every line feed in it stands last
pub record IsLine (line : List ℕ) : Type 0 where
  pub content : List ℕ
  pub ends : line ≡ content ++ (line_feed ∷ [])
  pub only : (i : ℕ) → i < length line → get_or line i 0 ≡ line_feed → suc i ≡ length line

-- the text of a plan is its lines one after another
pub record TextIsLines : Type 0 where
  pub plans : (head : Head) (lists : List (List ℤ)) (steps : List Step) (k : ℕ) → k < length (lines_of head lists steps)
      → IsLine (get_or (lines_of head lists steps) k [])
  pub refusals : (refusal : ℕ) → IsLine (refusal_line refusal)
