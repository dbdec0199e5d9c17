use Rattle.std.proofs.Common.{◌≡◌, drop, flat_map}
use Rattle.check_base.specs.Files.{first_there}
use Rattle.check_ports.specs.Spared.{group_texts}
use Rattle.check_ports.proofs.brought.first_operation.Given as goal

abbrev pub invariant-loop-group : goal.invariant-loop-group
invariant-loop-group l = first_there (flat_map group_texts (drop l.group-index l.groups)) ≡ first_there (flat_map group_texts l.groups)
