use Rattle.std.proofs.Common.{◌≡◌, map, length}
use Rattle.std.specs.Prelude.{slice_get}
use Rattle.behaviour_tree.specs.Operations.{operations_of, rest_of, service_operations}
use Rattle.behaviour_tree.specs.PartsView.{interface_view, parts_view, service_view}
use Rattle.behaviour_tree.proofs.operations.operation_of.Given as goal

abbrev pub invariant-loop-number : goal.invariant-loop-number
invariant-loop-number l = slice_get (service_operations (parts_view l.parts) (service_view l.service)) l.op ≡ slice_get (operations_of (map interface_view l.parts.interfaces.items) (rest_of l.inputs)) l.left

abbrev pub decreases-loop-number : goal.decreases-loop-number
decreases-loop-number l = length (rest_of l.inputs)
