-- The wires that came back so far, and those that are left.
use Rattle.std.proofs.Common.{◌≡◌, ◌++◌, length, map}
use Rattle.outside_doors.specs.Returns.{DoorsTold}
use Rattle.std.specs.Vec.Iter.{into_iter_items, into_iter_len}
use Rattle.run_doors.specs.Steps.{GivesWires, traffic_of, wire_of}
use Rattle.run_doors.proofs.giving_back.wires_back.Given as goal

abbrev pub invariant-loop-connection : goal.invariant-loop-connection
invariant-loop-connection g l = record {
  same : l.traffic ++ map traffic_of (into_iter_items l.connection-iterator) ≡ map traffic_of l.fn.connections.items;
  doors : (after : DoorsTold)
      → GivesWires (map wire_of (into_iter_items l.connection-iterator))
      (g.D.Doors.told l.doors) after
      → GivesWires (map wire_of l.fn.connections.items)
      (g.D.Doors.told l.initial.doors) after;
  left : into_iter_len l.connection-iterator ≡ length (into_iter_items l.connection-iterator);
}
