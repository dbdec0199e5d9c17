use Rattle.std.proofs.Common.{◌≡◌, map, take}
use Rattle.behaviour_tree.specs.PartsView.{variable_view}
use Rattle.service_check.specs.Programs.{lowered_variable}
use Rattle.service_check.proofs.program_services.lowered_variables.Given as goal

abbrev pub invariant-loop-variable : goal.invariant-loop-variable
invariant-loop-variable l = map variable_view l.lowered.items ≡ map (lowered_variable l.types) (take l.variable-index l.variables)
