use Rattle.std.proofs.Common.{◌≡◌, drop}
use Rattle.check_base.specs.Files.{init_in}
use Rattle.check_base.proofs.FirstFound.{first_found}
use Rattle.check_base.proofs.clauses.init_of.Given as goal

abbrev pub invariant-loop-clause : goal.invariant-loop-clause
invariant-loop-clause l = first_found init_in l.clauses ≡ first_found init_in (drop l.clause-index l.clauses)
