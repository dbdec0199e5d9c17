use Rattle.std.proofs.Common.{◌≡◌, take, map}
use Rattle.check_processes.specs.ProcessParts.{handler_name}
use Rattle.check_processes.proofs.process_part_rules.handler_names.Given as goal

abbrev pub invariant-loop-handler : goal.invariant-loop-handler
invariant-loop-handler l = l.names.items ≡ map handler_name (take l.handler-index l.handlers)
