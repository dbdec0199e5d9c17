-- The services of a program.
use Rattle.std.specs.Prelude.{◌≡◌, length}
use Rattle.std.proofs.lemmas.List.{length-map}
use Rattle.behaviour_tree.specs.declared.program.Parts.{Parts}
use Rattle.behaviour_tree.specs.PartsSeen.{parts_view, service_view}

-- there are as many as its parts list
pub as_many_services : (parts : Parts) → length (parts_view parts).services ≡ length parts.services.items
as_many_services parts = length-map parts.services.items service_view
