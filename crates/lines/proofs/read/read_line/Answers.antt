-- `lines::read::read_line` meets its contract: a line in the form gets its answer, and any other the refusal.
use Rattle.lines.proofs.LineLaws.{read_or_refused}
use Rattle.lines.proofs.read.read_line.Goals as goal

pub returns : goal.returns
returns c = rw c.ok_or.ensures.value (read_or_refused c.read_form.result c.read_form.ensures)
