-- The ports and the sets of the services of a file are well formed where nothing is refused of the file.
use Rattle.std.proofs.Common.{◌≡◌, ℕ, Bool, true, List, [], ◌∷◌, ◌++◌, map, flat_map, refl, ap, sym, ◌∙◌}
use Rattle.std.specs.Prelude.{◌&&◌}
use Rattle.std.specs.List.{filter_map, list_all}
use Rattle.std.proofs.lemmas.Bool.{and_from}
use Rattle.std.proofs.lemmas.List.{map-append}
use Rattle.jolie_ast.specs.declared.name.Name.{Name}
use Rattle.jolie_ast.specs.declared.interface.Interface.{Interface}
use Rattle.jolie_ast.specs.declared.types.TypeDefinition.{TypeDefinition}
use Rattle.jolie_ast.specs.declared.service.Clause.{Clause}
use Rattle.jolie_ast.specs.declared.service.Clause.TheVariants as clause
use Rattle.jolie_ast.specs.declared.service.Port.{Port}
use Rattle.jolie_ast.specs.declared.service.Service.{Service}
use Rattle.behaviour_tree.specs.Data.{PortPart, ServicePart}
use Rattle.behaviour_tree.specs.Operations.{input_interfaces, operations_of}
use Rattle.behaviour_tree.specs.FormedPorts as formed_ports
use Rattle.behaviour_tree.specs.Distinct.{texts_differ}
use Rattle.behaviour_tree.specs.FormedPorts.{input_location, is_port, operation_names}
use Rattle.behaviour_tree.specs.FormedSets.{are_sets}
use Rattle.check_base.specs.declared.refusal.CheckName.TheVariants.{DuplicateName}
use Rattle.check_base.specs.declared.refusal.Refusal.{Refusal}
use Rattle.check_base.specs.Least.{refused}
use Rattle.check_base.specs.Repeated.{as_name, repeated}
use Rattle.check_base.specs.Files.{execution_of, input_port_in, input_ports, is_concurrent, output_ports, port_in, sets_of, type_names, interface_names, variables_of}
use Rattle.check_ports.specs.PortRules.{brought_in, input_locations, input_ports_refused, operations_repeated, port_name, ports_refused, sided_refused, unmet}
use Rattle.check_ports.specs.PortParts.{service_locations}
use Rattle.lower_types.specs.LoweredInterfaces.{lowered_interface}
use Rattle.service_check.specs.Programs.{lowered_port_part, lowered_service}
use Rattle.service_check.specs.ServiceRules.{clause_refused, execution_place, init_place, main_place, no_start, second, service_refused, uncorrelated}
use Rattle.check_processes.specs.Surroundings.{surroundings}
use Rattle.check_ports.specs.SetRules.{set_of_single, set_refused, sets_refused, two_sets}
use Rattle.service_check.proofs.Emptied.{left_empty, right_empty, names_differ}
use Rattle.service_check.proofs.WellPorts.{ports_of, all_known, each_port_formed, service_operations_differ}
use Rattle.service_check.proofs.WellSets.{sets_formed}
use Rattle.service_check.proofs.WellTypes.{lowered_types}
use Rattle.check_base.proofs.Loops.{mapped_twice}

-- ---- what is refused of a service

-- nothing is refused of a service of a file with these types, interfaces and input locations
pub record NothingOf (types : List TypeDefinition) (is : List Interface) (locations : List (List ℕ)) (s : Service) : Type 0 where
  pub ports : ports_refused is locations s ≡ []
  pub sets : sets_refused types s ≡ []
  pub clauses : flat_map (clause_refused (surroundings is s)) s.clauses ≡ []
  pub correlated : uncorrelated is s ≡ []
  pub starts : no_start s ≡ []

pub service_by_part : (types : List TypeDefinition) (is : List Interface) (locations : List (List ℕ)) (s : Service) → service_refused types is locations s ≡ [] → NothingOf types is locations s
service_by_part types is locations s e =
    let first : List Refusal = second execution_place s ++ second init_place s ++ second main_place s in
    let ports : List Refusal = ports_refused is locations s in
    let sets : List Refusal = sets_refused types s in
    let clauses : List Refusal = flat_map (clause_refused (surroundings is s)) s.clauses in
    let five : first ++ ports ++ sets ++ clauses ++ uncorrelated is s ≡ [] = left_empty (first ++ ports ++ sets ++ clauses ++ uncorrelated is s) (no_start s) e in
    let four : first ++ ports ++ sets ++ clauses ≡ [] = left_empty (first ++ ports ++ sets ++ clauses) (uncorrelated is s) five in
    let three : first ++ ports ++ sets ≡ [] = left_empty (first ++ ports ++ sets) clauses four in
    record {
      ports = right_empty first ports (left_empty (first ++ ports) sets three);
      sets = right_empty (first ++ ports) sets three;
      clauses = right_empty (first ++ ports ++ sets) clauses four;
      correlated = right_empty (first ++ ports ++ sets ++ clauses) (uncorrelated is s) five;
      starts = right_empty (first ++ ports ++ sets ++ clauses ++ uncorrelated is s) (no_start s) e;
    }

-- nothing is refused of the ports of a service
pub record NothingOfPorts (is : List Interface) (locations : List (List ℕ)) (s : Service) : Type 0 where
  pub names : refused DuplicateName (repeated (map port_name (filter_map port_in s.clauses))) ≡ []
  pub each : flat_map (sided_refused is) (filter_map port_in s.clauses) ≡ []
  pub operations : refused DuplicateName (repeated (brought_in is [] (input_ports s))) ≡ []
  pub interfaces : flat_map (operations_repeated is) (input_ports s) ≡ []
  pub outputs : flat_map (operations_repeated is) (output_ports s) ≡ []
  pub near : flat_map (unmet locations) (output_ports s) ≡ []

pub ports_by_part : (is : List Interface) (locations : List (List ℕ)) (s : Service) → ports_refused is locations s ≡ [] → NothingOfPorts is locations s
ports_by_part is locations s e =
    let names : List Refusal = refused DuplicateName (repeated (map port_name (filter_map port_in s.clauses))) in
    let each : List Refusal = flat_map (sided_refused is) (filter_map port_in s.clauses) in
    let inputs : List Refusal = input_ports_refused is (input_ports s) in
    let outputs : List Refusal = flat_map (operations_repeated is) (output_ports s) in
    let far : List Refusal = flat_map (unmet locations) (output_ports s) in
    let operations : List Refusal = refused DuplicateName (repeated (brought_in is [] (input_ports s))) in
    let again : List Refusal = flat_map (operations_repeated is) (input_ports s) in
    let four : names ++ each ++ inputs ++ outputs ≡ [] = left_empty (names ++ each ++ inputs ++ outputs) far e in
    let three : names ++ each ++ inputs ≡ [] = left_empty (names ++ each ++ inputs) outputs four in
    let two : names ++ each ≡ [] = left_empty (names ++ each) inputs three in
    let taken : operations ++ again ≡ [] = right_empty (names ++ each) inputs three in
    record {
      names = left_empty names each two;
      each = right_empty names each two;
      operations = left_empty operations again taken;
      interfaces = right_empty operations again taken;
      outputs = right_empty (names ++ each ++ inputs) outputs four;
      near = right_empty (names ++ each ++ inputs ++ outputs) far e;
    }

-- ---- ports

-- the ports of a service of which nothing is refused
pub ports_formed : (types names : List (List ℕ)) (is : List Interface) (locations : List (List ℕ)) (s : Service) → NothingOfPorts is locations s
    → (texts_differ (map (λ (p : PortPart). p.name) (ports_of (interface_names is) s.clauses)) && list_all (is_port (map (lowered_interface types names) is) locations) (ports_of (interface_names is) s.clauses)
    && texts_differ (operation_names (operations_of (map (lowered_interface types names) is) (input_interfaces (ports_of (interface_names is) s.clauses))))) ≡ true
ports_formed types names is locations s none =
    let ports : List PortPart = ports_of (interface_names is) s.clauses in
    let one : Bool = texts_differ (map (λ (p : PortPart). p.name) ports) in
    let two : Bool = list_all (is_port (map (lowered_interface types names) is) locations) ports in
    and_from (one && two) (texts_differ (operation_names (operations_of (map (lowered_interface types names) is) (input_interfaces ports))))
    (and_from one two
    (ap texts_differ (mapped_twice (λ (p : PortPart). p.name) (lowered_port_part (interface_names is)) (filter_map port_in s.clauses) ∙ sym (mapped_twice (λ (n : Name). n.text) port_name (filter_map port_in s.clauses)))
    ∙ names_differ DuplicateName (map port_name (filter_map port_in s.clauses)) none.names)
    (each_port_formed types names is locations s.clauses none.each none.interfaces none.outputs none.near))
    (service_operations_differ types names is s.clauses (all_known is s.clauses none.each) none.interfaces none.operations)

-- ---- locations

-- the locations of the input ports of a service
pub port_locations : (interfaces : List (List ℕ)) (clauses : List Clause) → flat_map input_location (ports_of interfaces clauses) ≡ map (λ (p : Port). p.location.text) (filter_map input_port_in clauses)
port_locations interfaces [] = refl
port_locations interfaces (clause.InputPort p ∷ clauses) = ap (λ ts. p.location.text ∷ ts) (port_locations interfaces clauses)
port_locations interfaces (clause.OutputPort p ∷ clauses) = port_locations interfaces clauses
port_locations interfaces (clause.Execution at execution ∷ clauses) = port_locations interfaces clauses
port_locations interfaces (clause.CorrelationSet at variables ∷ clauses) = port_locations interfaces clauses
port_locations interfaces (clause.Init at body ∷ clauses) = port_locations interfaces clauses
port_locations interfaces (clause.Main at body ∷ clauses) = port_locations interfaces clauses

-- those of services
pub locations_are : (is : List Interface) (types names : List (List ℕ)) (services : List Service) → formed_ports.input_locations (map (lowered_service is types names) services) ≡ input_locations services
locations_are is types names [] = refl
locations_are is types names (s ∷ services) =
    ap (λ ts. ts ++ formed_ports.input_locations (map (lowered_service is types names) services)) (port_locations (interface_names is) s.clauses)
    ∙ ap (λ ts. service_locations s ++ ts) (locations_are is types names services)

-- the locations as names with their places
abbrev pub location_names : List Service → List Name
location_names services = flat_map (λ (s : Service). map (λ (p : Port). as_name p.location) (input_ports s)) services

location_texts : (services : List Service) → map (λ (n : Name). n.text) (location_names services) ≡ input_locations services
location_texts [] = refl
location_texts (s ∷ services) =
    map-append (λ (n : Name). n.text) (map (λ (p : Port). as_name p.location) (input_ports s)) (location_names services)
    ∙ ap (λ ts. ts ++ map (λ (n : Name). n.text) (location_names services)) (mapped_twice (λ (n : Name). n.text) (λ (p : Port). as_name p.location) (input_ports s))
    ∙ ap (λ ts. service_locations s ++ ts) (location_texts services)

-- the locations of the input ports of services differ
pub locations_differ : (is : List Interface) (types names : List (List ℕ)) (services : List Service) → refused DuplicateName (repeated (location_names services)) ≡ []
    → texts_differ (formed_ports.input_locations (map (lowered_service is types names) services)) ≡ true
locations_differ is types names services none =
    ap texts_differ (locations_are is types names services ∙ sym (location_texts services)) ∙ names_differ DuplicateName (location_names services) none

-- the names of services differ
pub services_differ : (is : List Interface) (types names : List (List ℕ)) (services : List Service) → refused DuplicateName (repeated (map (λ (s : Service). s.name) services)) ≡ []
    → texts_differ (map (λ (s : ServicePart). s.name) (map (lowered_service is types names) services)) ≡ true
services_differ is types names services none =
    ap texts_differ (mapped_twice (λ (s : ServicePart). s.name) (lowered_service is types names) services ∙ sym (mapped_twice (λ (n : Name). n.text) (λ (s : Service). s.name) services))
    ∙ names_differ DuplicateName (map (λ (s : Service). s.name) services) none

-- ---- sets

-- the sets of a service of which nothing is refused
pub service_sets : (is : List Interface) (types : List TypeDefinition) (names : List (List ℕ)) (s : Service) → sets_refused types s ≡ [] → are_sets (lowered_types types) (lowered_service is (type_names types) names s) ≡ true
service_sets is types names s e =
    let twice : List Refusal = refused DuplicateName (repeated (variables_of s)) in
    let each : List Refusal = flat_map (set_refused types) (sets_of s) in
    let single : List Refusal = flat_map (set_of_single (is_concurrent (execution_of s))) s.clauses in
    let three : twice ++ each ++ two_sets (sets_of s) ≡ [] = left_empty (twice ++ each ++ two_sets (sets_of s)) single e in
    let two : twice ++ each ≡ [] = left_empty (twice ++ each) (two_sets (sets_of s)) three in
    sets_formed types (execution_of s) s.clauses (left_empty twice each two) (right_empty twice each two) (right_empty (twice ++ each) (two_sets (sets_of s)) three)
    (right_empty (twice ++ each ++ two_sets (sets_of s)) single e)
