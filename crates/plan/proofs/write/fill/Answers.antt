-- `plan::write::fill` meets its contract: the lists are written, and then the steps.
use mathlib.Core.Path.{refl}
use Rattle.plan.proofs.FilledBuffers.{lists_fit, steps_fit, numbers_are}
use Rattle.plan.proofs.write.fill.Goals as goal

pub write_lists-requires : goal.write_lists-requires
write_lists-requires c = lists_fit c.requires

pub write_steps-requires : goal.write_steps-requires
write_steps-requires c = rw c.planned_settings-planned.ensures (steps_fit c.requires refl refl)

pub returns : goal.returns
returns c =
    record {
      coefficients = c.write_lists.ensures.coefficients;
      boundaries = c.write_lists.ensures.boundaries;
      numbers = numbers_are c.requires refl refl (rw c.planned_settings-planned.ensures at c.write_steps.ensures);
    }
