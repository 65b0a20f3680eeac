-- Lines with the same settings and coefficients get the same text: a refusal, and the lines of a plan, are made of these alone.
use Rattle.answers.specs.Answer.{answer_refusal, planned_lines, answer_lines, answer_text}
use Rattle.answers.specs.AnswersSame.{AnswersSame}

pub answers_same : AnswersSame
unfolding answer_text answer_lines answer_refusal planned_lines
answers_same one other same =
    rw (same.one_is, same.other_is, same.basis, same.parity, same.strategy, same.fold, same.coefficients)
