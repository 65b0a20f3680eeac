use Rattle.std.proofs.Common.{◌≡◌, ◌+◌, ◌≤◌, true, map, length}
use Rattle.std.specs.Iterator.Adapters.{enumerate_source, enumerate_count}
use lib.Seq.{sets}
use Rattle.lines.specs.Whole.{value_of}
use Rattle.lines.specs.Line.{are_whole}
use Rattle.lines.specs.inside.FieldsLeft.{fields_left}
use Rattle.lines.proofs.read.fill_values.Given as goal

abbrev pub invariant-loop-i : goal.invariant-loop-i
invariant-loop-i l =
    (goal.iterator-loop-i).can_next l.i-iterator
    × (goal.iterator-loop-i).is_finite l.i-iterator
    × (enumerate_count l.i-iterator + length (fields_left (enumerate_source l.i-iterator)) ≤ 65536)
    × (are_whole (fields_left (enumerate_source l.i-iterator)) ≡ true)
    × (sets l.buffer (enumerate_count l.i-iterator) (map value_of (fields_left (enumerate_source l.i-iterator)))
    ≡ sets l.initial.buffer 0 (map value_of (fields_left l.fields)))
