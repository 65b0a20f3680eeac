-- `needed::Slicing::count_swept` meets its contract. No mark stands beyond the greatest target, so the first places hold them all.
-- There are at most 4,096 of these.
use mathlib.Core.Path.{◌∙◌, ap}
use Prim.Native.Nat.{◌+◌}
use native.Mathlib.Omega.{arith}
use Rattle.number.specs.Limits.{count_limit}
use Rattle.needed.specs.inside.Marks.{greatest_target, count_marks, needed_marks}
use Rattle.needed.proofs.PlaceLaws.{take_padded}
use Rattle.needed.proofs.NeededMarks.{greatest_within_lem, needed_length}
use Rattle.needed.proofs.MarkedPowers.{needed_counted}
use Rattle.needed.proofs.slicing.Slicing.count_swept.Goals as goal

pub overflow_add-greatest_target : goal.overflow_add-greatest_target
overflow_add-greatest_target c =
    let within = greatest_within_lem c.args.self.degree c.args.self.split c.args.self.planned.degrees.from in
    omega (arith, c.greatest_target.ensures, c.args.self.planned.degrees.to)

pub count_marks-requires : goal.count_marks-requires
count_marks-requires c =
    let within = greatest_within_lem c.args.self.degree c.args.self.split c.args.self.planned.degrees.from in
    omega (arith, c.greatest_target.ensures, c.args.self.planned.degrees.to)

pub returns : goal.returns
returns c =
    let args = c.args in
    let whole = needed_marks args.parity args.basis args.self.degree args.self.split in
    let size = greatest_target args.self.degree args.self.split + 1 in
    c.count_marks.ensures
    ∙ rw (c.needed_marks.ensures, c.greatest_target.ensures)
    (ap count_marks (take_padded count_limit size whole (needed_length args.parity args.basis args.self.degree args.self.split))
    ∙ needed_counted args.parity args.basis args.self.degree args.self.split)
