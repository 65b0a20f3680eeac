-- `plan::powers::write_marks` meets its contract. The invariant: the steps of the marks passed stand in the buffer.
use mathlib.Core.Path.{refl, ◌∙◌}
use Rattle.plan.proofs.PowerSteps.{upto_none, upto_more, mark_fits, marks_put}
use Rattle.plan.proofs.powers.write_marks.Goals as goal

pub loop-n-init : goal.loop-n-init
loop-n-init c = record { same = refl; upto = upto_none c.args.marks.now c.args.steps.now }

pub put_power-step-requires : goal.put_power-step-requires
put_power-step-requires c = mark_fits c.requires c.loop-n.invariant.upto c.loop-n-test.true c.loop-n.invariant.same

pub loop-n-preserved : goal.loop-n-preserved
loop-n-preserved c = record {
  same = c.put_power-step.auto.steps ∙ c.loop-n.invariant.same;
  upto = upto_more c.loop-n.invariant.upto c.loop-n-test.true c.put_power-step.ensures;
}

pub returns : goal.returns
returns c = marks_put c.loop-n.invariant.upto c.loop-n-test.false
