-- What is left of the values and the count is what is left of the list that clauses see.
use Rattle.std.proofs.Common.{ap, ◌∙◌}
use Rattle.walk.specs.Walk.{one_left}
use Rattle.walk.specs.inside.Waits.{Stack}
use Rattle.walk.proofs.waiting.Waiting.one_left.Goals as goal

pub returns : goal.returns
returns c = c.one_left.ensures ∙ ap (λ (stack : Stack). one_left stack.list) c.self.view_is
