-- `lines::whole::is_whole` meets its contract: behind the minus, if there is one, there must be a number.
use Rattle.std.proofs.Common.{ap, ◌∙◌}
use Rattle.lines.specs.Whole.{is_number, is_whole}
use Rattle.lines.proofs.whole.is_whole.Goals as goal

pub returns : goal.returns
unfolding is_whole
returns c = c.is_number.ensures ∙ ap is_number c.unsigned.ensures
