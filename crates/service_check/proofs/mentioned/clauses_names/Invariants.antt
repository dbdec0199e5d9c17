use Rattle.std.proofs.Common.{◌≡◌, flat_map, take}
use Rattle.service_check.specs.Mentioned.{clause_texts}
use Rattle.check_base.specs.Repeated.{with_texts}
use Rattle.service_check.proofs.mentioned.clauses_names.Given as goal

abbrev pub invariant-loop-clause : goal.invariant-loop-clause
invariant-loop-clause l = l.names ≡ with_texts l.initial.names (flat_map clause_texts (take l.clause-index l.clauses))
