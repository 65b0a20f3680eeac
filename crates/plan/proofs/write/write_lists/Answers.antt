-- `plan::write::write_lists` meets its contract: the planned coefficients are written to the front of their buffer, and are listed in place there.
use mathlib.Core.Path.{sym, ap, ◌∙◌}
use lib.ListN.{length}
use Rattle.plan.proofs.FilledBuffers.{part_is, listable, sum_fits, lists_put}
use Rattle.plan.proofs.write.write_lists.Goals as goal

pub slice_bounds-list_coeffs-end-2 : goal.slice_bounds-list_coeffs-end-2
slice_bounds-list_coeffs-end-2 c =
    c.requires.count_is ∙ sym (ap length (part_is c.requires c.place_coeffs.ensures c.relists-leading.ensures))

pub list_coeffs-requires : goal.list_coeffs-requires
list_coeffs-requires c = (
  listable c.requires c.place_coeffs.ensures c.relists-leading.ensures,
  sum_fits c.requires c.place_coeffs.ensures c.relists-leading.ensures,
)

pub returns : goal.returns
returns c =
    let size = c.list_coeffs.auto.c in
    lists_put c.requires c.place_coeffs.ensures c.relists-leading.ensures size c.list_coeffs.ensures
