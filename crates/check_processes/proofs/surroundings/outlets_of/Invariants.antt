use Rattle.std.proofs.Common.{◌≡◌, map, take, flat_map}
use Rattle.std.specs.Option.{option_to_list}
use Rattle.check_base.specs.Files.{output_port_in}
use Rattle.check_processes.specs.Surroundings.{outlet}
use Rattle.check_processes.proofs.surroundings.outlets_of.Given as goal

abbrev pub invariant-loop-clause : goal.invariant-loop-clause
invariant-loop-clause l = l.outlets ≡ flat_map (λ c. map (outlet l.interfaces) (option_to_list (output_port_in c))) (take l.clause-index l.clause-items)
