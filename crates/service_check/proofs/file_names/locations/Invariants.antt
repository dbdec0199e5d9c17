use Rattle.std.proofs.Common.{◌≡◌, flat_map, take}
use Rattle.std.specs.List.{filter_map}
use Rattle.check_base.specs.Files.{service_in}
use Rattle.service_check.specs.Refusals.{locations_in}
use Rattle.service_check.proofs.file_names.locations.Given as goal

abbrev pub invariant-loop-definition : goal.invariant-loop-definition
invariant-loop-definition l = l.locations.items ≡ flat_map locations_in (filter_map service_in (take l.definition-index l.file))
