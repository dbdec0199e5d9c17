use Rattle.std.proofs.Common.{◌≡◌, ◌∷◌, take}
use Rattle.service_check.specs.KeptPorts.{texts_in}
use Rattle.service_check.proofs.program_services.alias_path.Given as goal

abbrev pub invariant-loop-name : goal.invariant-loop-name
invariant-loop-name l = l.path.items ≡ texts_in (l.alias.first ∷ take l.name-index l.name-items)
