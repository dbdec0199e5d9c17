use Rattle.std.proofs.Common.{◌≡◌, ◌<◌, ◌+◌, ◌^◌, map, drop}
use Rattle.behaviour_tree.specs.FormedNumbers.{count_sets}
use Rattle.behaviour_tree.specs.PartsView.{service_view}
use Rattle.service_check.proofs.counted.sets_numbered.Given as goal

abbrev pub invariant-loop-service : goal.invariant-loop-service
invariant-loop-service l = record {
  sum : count_sets (map service_view l.services) ≡ l.count + count_sets (map service_view (drop l.service-index l.services));
  fits : l.count < 2 ^ 32;
}
