use Rattle.std.proofs.Common.{◌≡◌, take, flat_map}
use Rattle.check_base.specs.Least.{joined}
use Rattle.check_types.specs.InterfaceRules.{fault_refused}
use Rattle.check_types.proofs.interface_rules.faults_refused.Given as goal

abbrev pub invariant-loop-fault : goal.invariant-loop-fault
invariant-loop-fault l = l.least ≡ joined l.initial.least (flat_map (fault_refused l.types) (take l.fault-index l.faults))
