-- `plan::powers::write_two_powers` meets its contract. The invariant: the powers that are left, from 2^k on, put behind those that stand in the
-- buffer, give all that is to be put. The measure is the number of those that are left.
use mathlib.Core.Path.{refl, ◌∙◌}
use Rattle.plan.proofs.TwoPowerSteps.{left_all, power_fits, left_less, left_none}
use Rattle.plan.proofs.powers.write_two_powers.Goals as goal

pub loop-k-init : goal.loop-k-init
loop-k-init c =
    record { same = refl; left = left_all c.args.split c.args.digits c.args.step c.args.steps.now }

pub put_power-next-requires : goal.put_power-next-requires
put_power-next-requires c =
    let loop = c.loop-k in
    power_fits loop.invariant.left c.requires loop.invariant.same c.loop-k-test.true c.power_of_two.ensures

pub loop-k-preserved : goal.loop-k-preserved
loop-k-preserved c =
    let loop = c.loop-k in
    record {
      same = c.put_power-next.auto.steps ∙ loop.invariant.same;
      left = left_less loop.invariant.left c.loop-k-test.true c.power_of_two.ensures c.put_power-next.ensures;
    }

pub returns : goal.returns
returns c = left_none c.loop-k.invariant.left c.loop-k-test.false
