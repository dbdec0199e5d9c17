use Rattle.std.proofs.Common.{◌≡◌, ◌+◌, map, drop}
use Rattle.behaviour_tree.specs.FormedNumbers.{count_sets}
use Rattle.behaviour_tree.specs.PartsView.{service_view}
use Rattle.office_plain.proofs.sets.count_sets.Given as goal

abbrev pub invariant-loop-service : goal.invariant-loop-service
invariant-loop-service l =
    count_sets (map service_view l.services)
    ≡ l.count + count_sets (map service_view (drop l.service-index l.services))
