-- What is due is written, the wires come back, and then the doors.
use Rattle.run_doors.proofs.giving_back.give_back.Goals as goal

pub returns : goal.returns
returns g c = record {
  ports = c.in_ok-ports.ports.items;
  connections = c.in_ok-ports.connections.items;
  drains = c.in_ok-ports.ensures;
  traffic = c.in_ok-traffic.ensures.traffic;
  failed = c.doors_back-failed.ensures.failed;
  gives = record {
    mid = g.D.Doors.told c.wires_back.new.doors;
    wires_first = c.in_ok-traffic.ensures.doors;
    doors_then = c.doors_back-failed.ensures.doors;
  };
}
