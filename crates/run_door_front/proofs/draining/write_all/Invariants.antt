use Rattle.std.proofs.Common.{◌≡◌, take, drop}
use Rattle.run_door_front.specs.Moving.{any_moved}
use Rattle.run_door_front.specs.Draining.{AreWritten, any_writing}
use Rattle.run_door_front.proofs.draining.write_all.Given as goal

abbrev pub invariant-loop-connection : goal.invariant-loop-connection
invariant-loop-connection g l = record {
  unvisited : drop l.connection-index l.connections ≡ drop l.connection-index l.fn.connections;
  writes : l.writes ≡ any_writing (take l.connection-index l.connections);
  moved : l.moved ≡ any_moved (take l.connection-index l.fn.connections) (take l.connection-index l.connections);
  written : AreWritten (take l.connection-index l.fn.connections) (take l.connection-index l.connections);
}
