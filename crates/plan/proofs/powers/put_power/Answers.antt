-- `plan::powers::put_power` meets its contract: without a mark nothing is written, with it the step of n and its parts.
use Rattle.plan.proofs.StepNumbers.{power_unmarked, parts_asked, power_fits, power_marked}
use Rattle.plan.proofs.powers.put_power.Goals as goal

pub returns-then-not-marked : goal.returns-then-not-marked
returns-then-not-marked c =
    power_unmarked c.args.marked c.args.n c.args.step c.args.steps.now c.if-not-marked.true

pub parts_of-parts-requires : goal.parts_of-parts-requires
parts_of-parts-requires c = parts_asked c.requires c.if-not-marked.false

pub put_instruction-requires : goal.put_instruction-requires
put_instruction-requires c =
    power_fits c.args.marked c.requires c.if-not-marked.false c.parts_of-parts.ensures

pub returns : goal.returns
returns c =
    power_marked c.args.marked c.requires c.if-not-marked.false c.parts_of-parts.ensures c.put_instruction.ensures
