-- `set_plan::filling::write_own_lists` meets its contract: the head tells number and split of the member's planned coefficients, by which a plan's
-- lists are written.
use Rattle.set_plan.proofs.FillingLaws.{head_fits, lists_fit, member_put}
use Rattle.set_plan.proofs.filling.write_own_lists.Goals as goal

pub own_slicing-requires : goal.own_slicing-requires
own_slicing-requires c = head_fits c.requires

pub write_lists-requires : goal.write_lists-requires
write_lists-requires c = rw c.settings.ensures (lists_fit c.requires c.own_slicing.ensures.1)

pub returns : goal.returns
returns c = member_put c.requires (rw c.settings.ensures at c.write_lists.ensures)
