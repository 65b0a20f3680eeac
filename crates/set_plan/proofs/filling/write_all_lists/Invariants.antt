use mathlib.Core.Path.{◌≡◌}
use lib.ListN.{length}
use Rattle.set_plan.proofs.ListLaws.{LeftOf}
use Rattle.set_plan.proofs.filling.write_all_lists.Given as goal

abbrev pub invariant-loop-member : goal.invariant-loop-member
invariant-loop-member l = record {
  out_kept : length l.out ≡ length l.initial.out;
  bounds_kept : length l.bounds ≡ length l.initial.bounds;
  left : LeftOf l.members l.fn.c l.initial.out l.initial.bounds l.member-iterator.a.rest.now l.member-iterator.b.rest.now l.rest l.at l.list l.out l.bounds;
}
