use Rattle.std.proofs.Common.{◌≡◌, map, drop}
use Rattle.behaviour_tree.specs.Operations.{is_among, mentions}
use Rattle.behaviour_tree.specs.PartsView.{port_view}
use Rattle.behaviour_tree.proofs.operations.is_mentioned.Given as goal

abbrev pub invariant-loop-port : goal.invariant-loop-port
invariant-loop-port l = is_among (mentions (map port_view l.ports)) l.number ≡ is_among (mentions (map port_view (drop l.port-index l.ports))) l.number
