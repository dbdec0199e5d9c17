use Rattle.std.proofs.Common.{◌≡◌, map, flat_map, take}
use Rattle.std.specs.Option.{option_to_list}
use Rattle.behaviour_tree.specs.PartsView.{set_view}
use Rattle.check_base.specs.Files.{set_in}
use Rattle.service_check.specs.Programs.{lowered_set}
use Rattle.service_check.proofs.program_services.lowered_sets.Given as goal

abbrev pub invariant-loop-clause : goal.invariant-loop-clause
invariant-loop-clause l = map set_view l.lowered.items ≡ flat_map (λ x. map (lowered_set l.types) (option_to_list (set_in x))) (take l.clause-index l.clauses)
