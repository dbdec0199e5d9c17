use Rattle.std.proofs.Common.{◌≡◌, map, take}
use Rattle.check_base.specs.Files.{place_in}
use Rattle.service_check.specs.KeptPorts.{texts_in}
use Rattle.service_check.proofs.program_services.places_in.Given as goal

abbrev pub invariant-loop-name : goal.invariant-loop-name
invariant-loop-name l = l.places.items ≡ map (place_in l.among) (texts_in (take l.name-index l.names))
