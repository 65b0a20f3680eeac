-- Where fewer than 16 wait, the store stands past them and leaves them; where 16 do, the definition has none.
use Rattle.std.proofs.Common.{◌<◌, length, ap, ◌∙◌, arith}
use Rattle.walk.specs.Load.{push_of}
use Rattle.walk.specs.inside.Waits.{Stack}
use Rattle.walk.proofs.StackLaws.{push_is, push_full}
use Rattle.walk.proofs.waiting.Waiting.push.Goals as goal

pub returns-then-self-ge-WAITING : goal.returns-then-self-ge-WAITING
returns-then-self-ge-WAITING c =
    let w = c.self.inside in
    push_full w.values w.count c.args.v c.if-self-ge-WAITING.true ∙ ap (λ (stack : Stack). push_of stack.list c.args.v) c.self.view_is

pub returns : goal.returns
returns c =
    let w = c.self.inside in
    let inside : w.count < length w.values = omega arith in
    push_is w.values w.count c.args.v inside c.if-self-ge-WAITING.false ∙ ap (λ (stack : Stack). push_of stack.list c.args.v) c.self.view_is
