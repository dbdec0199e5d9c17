use Rattle.std.proofs.Common.{◌≡◌, map, length}
use Rattle.std.specs.List.{position_from}
use Rattle.behaviour_tree.specs.Operations.{has_name, operations_of, rest_of, service_operations}
use Rattle.behaviour_tree.specs.PartsView.{interface_view, parts_view, service_view}
use Rattle.behaviour_tree.proofs.operations.number_named.Given as goal

abbrev pub invariant-loop-number : goal.invariant-loop-number
invariant-loop-number l = position_from (has_name l.name) 0 (service_operations (parts_view l.parts) (service_view l.service)) ≡ position_from (has_name l.name) l.passed (operations_of (map interface_view l.parts.interfaces.items) (rest_of l.inputs))

abbrev pub decreases-loop-number : goal.decreases-loop-number
decreases-loop-number l = length (rest_of l.inputs)
