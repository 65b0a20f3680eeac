use Rattle.std.proofs.Common.{◌≡◌}
use Rattle.walk.specs.Boundaries.{list_at}
use Rattle.walk.specs.Walk.{walk_of}
use Rattle.walk.specs.Lent.{steps_from}
use Rattle.walk.specs.inside.Powers.{state_of}
use Rattle.walk.proofs.RunLaws.{left_from}
use Rattle.walk.proofs.steps.run_steps.Given as goal

abbrev pub invariant-loop-i : goal.invariant-loop-i
invariant-loop-i g l =
    let 𝓡 = g.A.Arithmetic.rules l.arithmetic in
    let lists = list_at l.lists.coefficients.now l.lists.bounds.now in
    left_from 𝓡 l.parity l.basis lists l.steps l.count l.i (state_of l.powers l.waiting.list)
    ≡ walk_of 𝓡 l.parity l.basis lists (steps_from l.steps 0 l.count) l.y
