-- Two lines of input with the same settings and the same coefficients get the same text, however their numbers are written.
use Rattle.std.specs.Prelude.{◌≡◌, List, ℕ}
use Rattle.lines.specs.LinesSame.{SameContent}
use Rattle.answers.specs.Answer.{answer_text}

abbrev pub AnswersSame : Type 0
AnswersSame = (one other : List ℕ) → SameContent one other → answer_text one ≡ answer_text other
