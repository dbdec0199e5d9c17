-- These definitions serve the proofs alone: no promise speaks of them.
-- What is said of one service and of one interface of a port.
use Rattle.std.specs.Prelude.{ℕ, List, [], map, if◌then◌else◌}
use Rattle.jolie_ast.specs.declared.name.Name.{Name}
use Rattle.jolie_ast.specs.declared.interface.Interface.{Interface}
use Rattle.jolie_ast.specs.declared.service.Port.{Port}
use Rattle.jolie_ast.specs.declared.service.Service.{Service}
use Rattle.behaviour_tree.specs.Distinct.{is_in}
use Rattle.check_base.specs.Files.{input_ports}
use Rattle.check_ports.specs.PortRules.{brought_by}

-- the locations of the input ports of a service
abbrev pub service_locations : Service → List (List ℕ)
service_locations s = map (λ (p : Port). p.location.text) (input_ports s)

-- the operations of the interface that a port names, but none where the interface stands in a list
abbrev pub brought_unless : List Interface → List (List ℕ) → Name → List Name
brought_unless interfaces others n = if is_in n.text others then [] else brought_by interfaces n
