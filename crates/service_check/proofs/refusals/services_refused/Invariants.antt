use Rattle.std.proofs.Common.{◌≡◌, take, flat_map}
use Rattle.service_check.specs.Clauses.{definition_refused}
use Rattle.check_base.specs.Least.{joined}
use Rattle.service_check.proofs.refusals.services_refused.Given as goal

abbrev pub invariant-loop-definition : goal.invariant-loop-definition
invariant-loop-definition l = l.least ≡ joined l.initial.least (flat_map (definition_refused l.types l.interfaces l.locations) (take l.definition-index l.file))
