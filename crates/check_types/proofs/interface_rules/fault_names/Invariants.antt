use Rattle.std.proofs.Common.{◌≡◌, take, map}
use Rattle.jolie_ast.specs.declared.interface.Fault.{Fault}
use Rattle.check_types.proofs.interface_rules.fault_names.Given as goal

abbrev pub invariant-loop-fault : goal.invariant-loop-fault
invariant-loop-fault l = l.names.items ≡ map (λ (f : Fault). f.name) (take l.fault-index l.faults)
