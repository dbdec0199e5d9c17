-- What is refused of a file.
use Rattle.std.specs.Prelude.{List, [], ◌∷◌, ◌++◌, map, flat_map, Option}
use Rattle.jolie_ast.specs.declared.name.Name.{Name}
use Rattle.jolie_ast.specs.declared.tree.Definition.{Definition}
use Rattle.jolie_ast.specs.declared.types.TypeDefinition.{TypeDefinition}
use Rattle.jolie_ast.specs.declared.interface.Interface.{Interface}
use Rattle.jolie_ast.specs.declared.service.Port.{Port}
use Rattle.jolie_ast.specs.declared.service.Service.{Service}
use Rattle.check_base.specs.declared.refusal.CheckName.TheVariants.{DuplicateName, NoStart}
use Rattle.check_base.specs.declared.refusal.Refusal.{Refusal}
use Rattle.check_base.specs.Repeated.{as_name, repeated}
use Rattle.check_base.specs.Least.{refused, least}
use Rattle.check_base.specs.Files.{types_of, interfaces_of, services_of, input_ports}
use Rattle.check_types.specs.TypeRules.{type_refused}
use Rattle.check_types.specs.InterfaceRules.{interface_refused}
use Rattle.check_ports.specs.PortRules.{input_locations}
use Rattle.service_check.specs.ServiceRules.{service_refused}

-- a file without a service, at its beginning
abbrev pub no_service : List Service → List Refusal
no_service [] = refused NoStart (0 ∷ [])
no_service (s ∷ services) = []

-- the locations of the input ports of a service
abbrev pub locations_in : Service → List Name
locations_in s = map (λ (p : Port). as_name p.location) (input_ports s)

-- names of types, interfaces and services that stand a second time, and locations of input ports that do
abbrev pub names_refused : List Definition → List Refusal
names_refused file =
    refused DuplicateName (repeated (map (λ (t : TypeDefinition). t.name) (types_of file)))
    ++ refused DuplicateName (repeated (map (λ (i : Interface). i.name) (interfaces_of file)))
    ++ refused DuplicateName (repeated (map (λ (s : Service). s.name) (services_of file)))
    ++ refused DuplicateName
    (repeated (flat_map (λ (s : Service). map (λ (p : Port). as_name p.location) (input_ports s)) (services_of file)))

-- everything that is refused of a file
unfoldable pub refusals : List Definition → List Refusal
refusals file =
    no_service (services_of file) ++ names_refused file
    ++ flat_map (type_refused (types_of file)) (types_of file)
    ++ flat_map (interface_refused (types_of file)) (interfaces_of file)
    ++ flat_map (service_refused (types_of file) (interfaces_of file) (input_locations (services_of file)))
    (services_of file)

-- the refusal of a file, where there is one
abbrev pub refusal_of : List Definition → Option Refusal
refusal_of file = least (refusals file)
