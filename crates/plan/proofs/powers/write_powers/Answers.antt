-- `plan::powers::write_powers` meets its contract. Below the base the marks tell all needed powers. From the base on the needed powers are those of
-- base - 1 and behind them the powers of two from the base on, so their steps stand one after another.
use Prim.Native.Nat.{◌^◌, ◌≤◌}
use native.Mathlib.Omega.{arith}
use lib.Pow.{pow_pos}
use Rattle.needed.proofs.BaseLaws.{small_planned}
use Rattle.plan.proofs.TwoPowerSteps.{room_below, two_fit, powers_joined}
use Rattle.plan.proofs.powers.write_powers.Goals as goal
use Rattle.plan.proofs.powers.write_powers.Goals.{Else-slicing-base}

-- from the base on
from_base : (c : Else-slicing-base) → 2 ^ c.args.slicing.split ≤ c.args.slicing.degree
from_base c = omega (arith, c.power_of_two-base.ensures, c.if-slicing-base.false)

pub overflow_sub-below : goal.overflow_sub-below
overflow_sub-below c = omega (arith, c.power_of_two-base.ensures, pow_pos c.args.slicing.split)

pub invariant_of-below : goal.invariant_of-below
invariant_of-below c = record { planned = small_planned c.args.slicing.planned.splits c.power_of_two-base.ensures }

pub write_marked-step-requires : goal.write_marked-step-requires
write_marked-step-requires c =
    room_below c.args.parity c.args.basis c.args.slicing.degree c.args.slicing.split c.args.slicing.planned.splits.from
    (from_base (goal.at.write_marked-step-requires c).Else-slicing-base) c.power_of_two-base.ensures c.requires

pub write_two_powers-requires : goal.write_two_powers-requires
write_two_powers-requires c =
    two_fit c.args.parity c.args.basis c.args.slicing.degree c.args.slicing.split c.args.slicing.planned.splits.from
    (from_base (goal.at.write_two_powers-requires c).Else-slicing-base)
    c.power_of_two-base.ensures c.bit_len.ensures c.write_marked-step.ensures c.write_marked-step.auto.steps
    c.args.slicing.planned.degrees.to c.requires

pub returns : goal.returns
returns c =
    powers_joined c.args.parity c.args.basis c.args.slicing.degree c.args.slicing.split c.args.slicing.planned.splits.from
    (from_base (goal.at.returns c).Else-slicing-base)
    c.power_of_two-base.ensures c.bit_len.ensures c.write_marked-step.ensures c.write_two_powers.ensures
