-- What is refused of each part of a file of which nothing is refused, and the names, types and interfaces of its program.
use Rattle.std.proofs.Common.{◌≡◌, true, List, [], ◌++◌, map, flat_map, length, None, ap, sym, ◌∙◌}
use Rattle.std.proofs.lemmas.List.{length-map}
use Rattle.jolie_ast.specs.declared.name.Name.{Name}
use Rattle.jolie_ast.specs.declared.tree.Definition.{Definition}
use Rattle.jolie_ast.specs.declared.types.TypeDefinition.{TypeDefinition}
use Rattle.jolie_ast.specs.declared.interface.Interface.{Interface}
use Rattle.jolie_ast.specs.declared.service.Port.{Port}
use Rattle.jolie_ast.specs.declared.service.Service.{Service}
use Rattle.behaviour_tree.specs.Distinct.{texts_differ}
use Rattle.behaviour_tree.specs.FormedTypes.{are_types}
use Rattle.behaviour_tree.specs.WellFormed.{are_names, are_interfaces}
use Rattle.check_base.specs.declared.refusal.CheckName.TheVariants.{DuplicateName}
use Rattle.check_base.specs.declared.refusal.Refusal.{Refusal}
use Rattle.check_base.specs.Least.{refused}
use Rattle.check_base.specs.Repeated.{as_name, repeated}
use Rattle.check_base.specs.Files.{types_of, interfaces_of, services_of, input_ports, type_names}
use Rattle.check_types.specs.InterfaceRules.{interface_refused}
use Rattle.service_check.specs.Mentioned.{names_of}
use Rattle.check_ports.specs.PortRules.{input_locations}
use Rattle.lower_types.specs.LoweredTypes.{lowered_definition}
use Rattle.service_check.specs.Programs.{program_of}
use Rattle.service_check.specs.Refusals.{no_service, names_refused, refusals, refusal_of}
use Rattle.service_check.specs.ServiceRules.{service_refused}
use Rattle.check_types.specs.TypeRules.{type_refused}
use Rattle.service_check.proofs.Emptied.{least_empty, left_empty, right_empty, names_differ}
use Rattle.service_check.proofs.WellInterfaces.{all_thrown, interfaces_formed}
use Rattle.service_check.proofs.WellNames.{names_formed, all_named}
use Rattle.service_check.proofs.WellTypes.{lowered_types, types_formed}
use Rattle.check_base.proofs.Loops.{mapped_twice}

-- ---- what is refused of a file

-- what is refused of the types of a file one by one
abbrev of_types : List Definition → List Refusal
of_types file = flat_map (type_refused (types_of file)) (types_of file)

-- what is refused of its interfaces
abbrev of_interfaces : List Definition → List Refusal
of_interfaces file = flat_map (interface_refused (types_of file)) (interfaces_of file)

-- what is refused of its services
abbrev of_services : List Definition → List Refusal
of_services file = flat_map (service_refused (types_of file) (interfaces_of file) (input_locations (services_of file))) (services_of file)

-- the names of types that stand a second time
abbrev type_twice : List Definition → List Refusal
type_twice file = refused DuplicateName (repeated (map (λ (t : TypeDefinition). t.name) (types_of file)))

-- the names of interfaces that do
abbrev interface_twice : List Definition → List Refusal
interface_twice file = refused DuplicateName (repeated (map (λ (i : Interface). i.name) (interfaces_of file)))

-- the names of services that do
abbrev service_twice : List Definition → List Refusal
service_twice file = refused DuplicateName (repeated (map (λ (s : Service). s.name) (services_of file)))

-- the locations of input ports that do
abbrev location_twice : List Definition → List Refusal
location_twice file = refused DuplicateName (repeated (flat_map (λ (s : Service). map (λ (p : Port). as_name p.location) (input_ports s)) (services_of file)))

-- nothing is refused of a file
pub record NothingRefused (file : List Definition) : Type 0 where
  pub service : no_service (services_of file) ≡ []
  pub types_once : refused DuplicateName (repeated (map (λ (t : TypeDefinition). t.name) (types_of file))) ≡ []
  pub interfaces_once : refused DuplicateName (repeated (map (λ (i : Interface). i.name) (interfaces_of file))) ≡ []
  pub services_once : refused DuplicateName (repeated (map (λ (s : Service). s.name) (services_of file))) ≡ []
  pub locations_once : refused DuplicateName (repeated (flat_map (λ (s : Service). map (λ (p : Port). as_name p.location) (input_ports s)) (services_of file))) ≡ []
  pub types : flat_map (type_refused (types_of file)) (types_of file) ≡ []
  pub interfaces : flat_map (interface_refused (types_of file)) (interfaces_of file) ≡ []
  pub services : flat_map (service_refused (types_of file) (interfaces_of file) (input_locations (services_of file))) (services_of file) ≡ []

-- nothing is refused of a file whose refusals are none
pub part_by_part : (file : List Definition) → refusal_of file ≡ None → NothingRefused file
unfolding refusals
part_by_part file e =
    let four : List Refusal = no_service (services_of file) ++ names_refused file ++ of_types file ++ of_interfaces file in
    let three : List Refusal = no_service (services_of file) ++ names_refused file ++ of_types file in
    let two : List Refusal = no_service (services_of file) ++ names_refused file in
    let all : four ++ of_services file ≡ [] = least_empty (four ++ of_services file) e in
    let none4 : four ≡ [] = left_empty four (of_services file) all in
    let none3 : three ≡ [] = left_empty three (of_interfaces file) none4 in
    let none2 : two ≡ [] = left_empty two (of_types file) none3 in
    let names : names_refused file ≡ [] = right_empty (no_service (services_of file)) (names_refused file) none2 in
    record {
      service = left_empty (no_service (services_of file)) (names_refused file) none2;
      types_once = left_empty (type_twice file) (interface_twice file) (left_empty (type_twice file ++ interface_twice file) (service_twice file) (left_empty (type_twice file ++ interface_twice file ++ service_twice file) (location_twice file) names));
      interfaces_once = right_empty (type_twice file) (interface_twice file) (left_empty (type_twice file ++ interface_twice file) (service_twice file) (left_empty (type_twice file ++ interface_twice file ++ service_twice file) (location_twice file) names));
      services_once = right_empty (type_twice file ++ interface_twice file) (service_twice file) (left_empty (type_twice file ++ interface_twice file ++ service_twice file) (location_twice file) names);
      locations_once = right_empty (type_twice file ++ interface_twice file ++ service_twice file) (location_twice file) names;
      types = right_empty two (of_types file) none3;
      interfaces = right_empty three (of_interfaces file) none4;
      services = right_empty four (of_services file) all;
    }

-- ---- names, types and interfaces

-- the names of types differ
pub type_names_differ : (file : List Definition) → NothingRefused file → texts_differ (type_names (types_of file)) ≡ true
type_names_differ file none =
    ap texts_differ (sym (mapped_twice (λ (n : Name). n.text) (λ (t : TypeDefinition). t.name) (types_of file))) ∙ names_differ DuplicateName (map (λ (t : TypeDefinition). t.name) (types_of file)) none.types_once

-- the names of the program are well formed
pub program_names : (file : List Definition) → are_names (program_of file).names ≡ true
unfolding program_of
program_names file = names_formed file

-- so are its types
pub program_types : (file : List Definition) → NothingRefused file → are_types (program_of file).types ≡ true
unfolding program_of
program_types file none = types_formed (types_of file) (type_names_differ file none) none.types

-- and its interfaces
pub program_interfaces : (file : List Definition) → NothingRefused file → are_interfaces (program_of file) ≡ true
unfolding program_of
program_interfaces file none =
    interfaces_formed (types_of file) (names_of file) (interfaces_of file) (length (lowered_types (types_of file)))
    (length-map (types_of file) (lowered_definition (type_names (types_of file))) ∙ sym (length-map (types_of file) (λ (t : TypeDefinition). t.name.text)))
    none.interfaces_once none.interfaces (all_thrown (names_of file) file (all_named file))
