use Prim.Native.Nat.{◌+◌, ◌*◌, ◌≤◌}
use Rattle.texts.specs.Put.{Put}
use Rattle.chains.specs.Line.{line_room}
use Rattle.chains.specs.Table.{lines_from}
use Rattle.chains.proofs.table.put_degree.Given as goal

abbrev pub invariant-loop-k : goal.invariant-loop-k
invariant-loop-k l = record {
  within : l.k ≤ 12;
  put : Put l.initial.out l.at (lines_from l.degree 0 l.k) l.out l.next;
  room : l.next ≤ l.at + l.k * line_room;
}
