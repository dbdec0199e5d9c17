use Rattle.std.proofs.Common.{◌≡◌, take, flat_map}
use Rattle.check_base.specs.Least.{joined}
use Rattle.service_check.specs.ServiceRules.{clause_refused}
use Rattle.service_check.proofs.service_rules.clauses_refused.Given as goal

abbrev pub invariant-loop-clause : goal.invariant-loop-clause
invariant-loop-clause l = l.least ≡ joined l.initial.least (flat_map (clause_refused l.surroundings) (take l.clause-index l.clauses))
