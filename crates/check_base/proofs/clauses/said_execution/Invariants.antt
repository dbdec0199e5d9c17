use Rattle.std.proofs.Common.{◌≡◌, drop}
use Rattle.std.specs.List.{filter_map}
use Rattle.check_base.specs.Files.{execution_in, first_there}
use Rattle.check_base.proofs.clauses.said_execution.Given as goal

abbrev pub invariant-loop-clause : goal.invariant-loop-clause
invariant-loop-clause l = first_there (filter_map execution_in (drop l.clause-index l.clauses)) ≡ first_there (filter_map execution_in l.clauses)
