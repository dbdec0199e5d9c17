-- The doors of the services so far.
use Rattle.std.proofs.Common.{[], false, map, take}
use Rattle.behaviour_tree.specs.PartsView.{service_view, shared_by}
use Rattle.run_theorem.specs.Ports.{doors_from}
use Rattle.run_doors.specs.Steps.{Opens, opened_by}
use Rattle.run_doors.proofs.opening.open_doors.Given as goal

abbrev pub invariant-loop-place : goal.invariant-loop-place
invariant-loop-place g l =
    Opens (doors_from 0 (map service_view (take l.place (shared_by l.program).services.items)))
    (opened_by (g.D.Doors.told l.initial.doors) [] false)
    (opened_by (g.D.Doors.told l.doors)
    l.opening.ports.items l.opening.failed)
