-- The doors of the ports so far.
use Rattle.std.proofs.Common.{map, take}
use Rattle.behaviour_tree.specs.PartsView.{port_view}
use Rattle.run_doors.specs.Steps.{Opens, doors_at, opened_by}
use Rattle.run_doors.proofs.opening.open_service.Given as goal

abbrev pub invariant-loop-port : goal.invariant-loop-port
invariant-loop-port g l =
    Opens (doors_at l.number (map port_view (take l.port-index l.service.ports.items)))
    (opened_by (g.D.Doors.told l.initial.doors)
    l.initial.opening.ports.items l.initial.opening.failed)
    (opened_by (g.D.Doors.told l.doors)
    l.opening.ports.items l.opening.failed)
