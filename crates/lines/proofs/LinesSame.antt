-- Lines with the same settings and coefficients are read alike: an answer and a buffer are made of these alone.
use Rattle.number.specs.Refusal.{unless_refused}
use Rattle.lines.specs.ReadLine.{line_refusal, line_answer, line_buffer}
use Rattle.lines.specs.LinesSame.{LinesSame}

pub lines_same : LinesSame
unfolding line_refusal line_answer line_buffer unless_refused
lines_same one other same = record {
  answer = rw (same.one_is, same.other_is, same.basis, same.parity, same.strategy, same.fold, same.coefficients);
  buffer = λ buffer. rw (same.one_is, same.other_is, same.coefficients);
}
