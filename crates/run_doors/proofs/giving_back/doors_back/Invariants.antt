-- The doors that came back so far, and those that are left.
use Rattle.std.proofs.Common.{◌≡◌, ◌||◌, length, map}
use Rattle.outside_doors.specs.Returns.{DoorsTold}
use Rattle.std.specs.List.{list_any}
use Rattle.std.specs.Vec.Iter.{into_iter_items, into_iter_len}
use Rattle.run_theorem.specs.Used.{has_failed}
use Rattle.run_doors.specs.Steps.{GivesDoors, door_of}
use Rattle.run_doors.proofs.giving_back.doors_back.Given as goal

abbrev pub invariant-loop-port : goal.invariant-loop-port
invariant-loop-port g l = record {
  same : (l.failed || list_any has_failed (map door_of (into_iter_items l.port-iterator))) ≡ list_any has_failed (map door_of l.fn.ports.items);
  doors : (after : DoorsTold)
      → GivesDoors (map door_of (into_iter_items l.port-iterator))
      (g.D.Doors.told l.doors) after
      → GivesDoors (map door_of l.fn.ports.items)
      (g.D.Doors.told l.initial.doors) after;
  left : into_iter_len l.port-iterator ≡ length (into_iter_items l.port-iterator);
}
