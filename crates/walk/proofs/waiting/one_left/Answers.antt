-- `walk::waiting::one_left` meets its contract. Where the count is 1, the first value is the one that is left; where it is not, there is none.
use mathlib.Core.Path.{sym}
use Rattle.walk.proofs.StackLaws.{left_one, left_other}
use Rattle.walk.proofs.waiting.one_left.Goals as goal

pub returns-then-count-ne1 : goal.returns-then-count-ne1
returns-then-count-ne1 c = sym (left_other c.args.values.now c.args.count c.if-count-ne1.true)

pub returns : goal.returns
returns c = sym (left_one c.args.values.now c.args.count c.if-count-ne1.false)
