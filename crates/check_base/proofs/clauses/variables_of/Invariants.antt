use Rattle.std.proofs.Common.{◌≡◌, flat_map, take}
use Rattle.std.specs.List.{filter_map}
use Rattle.check_base.specs.Files.{set_in}
use Rattle.check_base.proofs.Variables.{variable_texts}
use Rattle.check_base.proofs.clauses.variables_of.Given as goal

abbrev pub invariant-loop-clause : goal.invariant-loop-clause
invariant-loop-clause l = l.names ≡ flat_map variable_texts (filter_map set_in (take l.clause-index l.clause-items))
