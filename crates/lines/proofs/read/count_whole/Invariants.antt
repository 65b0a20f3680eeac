use Rattle.std.proofs.Common.{◌≡◌, ◌+◌, length}
use Rattle.lines.specs.Line.{are_whole}
use Rattle.lines.specs.inside.FieldsLeft.{fields_left}
use Rattle.lines.proofs.read.count_whole.Given as goal

abbrev pub invariant-loop-field : goal.invariant-loop-field
invariant-loop-field l =
    (goal.iterator-loop-field).can_next l.field-iterator
    × (goal.iterator-loop-field).is_finite l.field-iterator
    × (l.count + length (fields_left l.field-iterator) ≡ length (fields_left l.fields))
    × (are_whole (fields_left l.field-iterator) ≡ are_whole (fields_left l.fields))
