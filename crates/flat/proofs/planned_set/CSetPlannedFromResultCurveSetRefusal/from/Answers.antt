-- A planned set is shown in numbers. A refusal shows its number, and zero in every field of the set, which is what an empty set has.
use Rattle.lists.specs.Lists.{joined}
use Rattle.plan.specs.Reported.{of_kind}
use Rattle.sets.specs.Members.{total}
use Rattle.sets.specs.SetPlan.{set_of, set_ct, set_pt, set_powers, set_steps, common_steps, member_steps}
use Rattle.sets.specs.Union.{union_of}
use Rattle.flat.specs.Sets.{flat_set}
use Rattle.flat.proofs.planned_set.CSetPlannedFromResultCurveSetRefusal.from.Goals as goal

pub returns-in-Err : goal.returns-in-Err
unfolding flat_set set_of set_ct set_pt set_powers set_steps common_steps member_steps union_of joined total of_kind
returns-in-Err c = rw (c.in-Err.is, c.from-in-Err.ensures, c.no_head.ensures)
