use Rattle.std.proofs.Common.{◌≡◌, ◌<◌, ◌+◌, ◌^◌, map, drop}
use Rattle.behaviour_tree.specs.FormedNumbers.{count_variables}
use Rattle.behaviour_tree.specs.PartsView.{set_view}
use Rattle.service_check.proofs.counted.variables_numbered.Given as goal

abbrev pub invariant-loop-set : goal.invariant-loop-set
invariant-loop-set l = record {
  sum : count_variables (map set_view l.sets) ≡ l.count + count_variables (map set_view (drop l.set-index l.sets));
  fits : l.count < 2 ^ 32;
}
