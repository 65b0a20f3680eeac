-- The last two values are high and low. The store puts their result in low's place, and leaves those before it.
use Rattle.std.proofs.Common.{◌≤◌, length, ap, ◌∙◌, arith}
use Rattle.walk.specs.Combine.{join_of}
use Rattle.walk.specs.inside.Waits.{Stack}
use Rattle.walk.proofs.StackLaws.{join_is, join_few}
use Rattle.walk.proofs.waiting.Waiting.join.Goals as goal

pub returns-then-self-lt2 : goal.returns-then-self-lt2
returns-then-self-lt2 g c =
    let w = c.self.inside in
    let 𝓡 = g.A.Arithmetic.rules c.args.arithmetic in
    join_few 𝓡 c.args.plain c.args.power w.values w.count c.if-self-lt2.true
    ∙ ap (λ (stack : Stack). join_of 𝓡 c.args.plain c.args.power stack.list) c.self.view_is

pub returns : goal.returns
returns g c =
    let w = c.self.inside in
    let 𝓡 = g.A.Arithmetic.rules c.args.arithmetic in
    let inside : w.count ≤ length w.values = omega arith in
    rw c.combine.ensures (join_is 𝓡 c.args.plain c.args.power w.values w.count c.if-self-lt2.false inside)
    ∙ ap (λ (stack : Stack). join_of 𝓡 c.args.plain c.args.power stack.list) c.self.view_is
