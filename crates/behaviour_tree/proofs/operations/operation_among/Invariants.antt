use Rattle.std.proofs.Common.{◌≡◌, map, drop}
use Rattle.std.specs.Prelude.{slice_get}
use Rattle.behaviour_tree.specs.Operations.{operations_of}
use Rattle.behaviour_tree.specs.PartsView.{interface_view}
use Rattle.behaviour_tree.proofs.operations.operation_among.Given as goal

abbrev pub invariant-loop-number : goal.invariant-loop-number
invariant-loop-number l = slice_get (operations_of (map interface_view l.interfaces) l.numbers) l.op ≡ slice_get (operations_of (map interface_view l.interfaces) (drop l.number-index l.numbers)) l.left
