use Rattle.std.proofs.Common.{◌≡◌, take, flat_map}
use Rattle.check_base.specs.Least.{joined}
use Rattle.check_types.specs.InterfaceRules.{answering_refused}
use Rattle.check_types.proofs.interface_rules.all_answering_refused.Given as goal

abbrev pub invariant-loop-operation : goal.invariant-loop-operation
invariant-loop-operation l = l.least ≡ joined l.initial.least (flat_map (answering_refused l.types) (take l.operation-index l.operations))
