use Rattle.std.proofs.Common.{◌≡◌, ◌+◌, ◌-◌, map, length}
use Rattle.behaviour_tree.specs.Operations.{coming, rest_of}
use Rattle.behaviour_tree.specs.PartsView.{port_view}
use Rattle.behaviour_tree.proofs.operations.InputInterfaces.next.Given as goal

abbrev pub invariant-loop-port : goal.invariant-loop-port
invariant-loop-port l = record {
  same_ports : l.self.ports.now ≡ l.ports;
  rest : rest_of l.initial.self ≡ rest_of l.self;
}

abbrev pub decreases-loop-port : goal.decreases-loop-port
decreases-loop-port l = length (coming (map port_view l.ports) l.self.port l.self.at) + (length l.ports - l.self.port)
