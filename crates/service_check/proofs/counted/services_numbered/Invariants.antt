use Rattle.std.proofs.Common.{◌≡◌, map, drop}
use Rattle.std.specs.List.{list_all}
use Rattle.behaviour_tree.specs.FormedNumbers.{is_numbered}
use Rattle.behaviour_tree.specs.PartsView.{service_view}
use Rattle.service_check.proofs.counted.services_numbered.Given as goal

abbrev pub invariant-loop-service : goal.invariant-loop-service
invariant-loop-service l =
    list_all is_numbered (map service_view l.services) ≡ list_all is_numbered (map service_view (drop l.service-index l.services))
