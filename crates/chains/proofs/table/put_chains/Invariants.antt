use Prim.Native.Nat.{◌-◌, ◌*◌, ◌≤◌}
use Rattle.texts.specs.Put.{Put}
use Rattle.chains.specs.Table.{degree_room, degrees_from}
use Rattle.chains.proofs.table.put_chains.Given as goal

abbrev pub invariant-loop-degree : goal.invariant-loop-degree
invariant-loop-degree l = record {
  from : 2 ≤ l.degree;
  to : l.degree ≤ 512;
  put : Put l.initial.out 0 (degrees_from 2 (l.degree - 2)) l.out l.next;
  room : l.next ≤ (l.degree - 2) * degree_room;
}
