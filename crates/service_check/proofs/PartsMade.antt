-- The parts of a program that are made of pieces which mean what the text says.
use Rattle.std.proofs.Common.{◌≡◌, ℕ, Bool, List, map, ap, ◌∙◌}
use Rattle.std.specs.List.{filter_map}
use Rattle.jolie_ast.specs.declared.name.Name.{Name}
use Rattle.jolie_ast.specs.declared.interface.Interface.{Interface}
use Rattle.jolie_ast.specs.declared.service.Service.{Service}
use Rattle.jolie_ast.specs.declared.tree.Definition.{Definition}
use Rattle.behaviour_tree.specs.declared.program.Execution.{Execution}
use Rattle.behaviour_tree.specs.Data.{Proc, TypeTree, InterfacePart, PortPart, ProgramParts, ServicePart, SetPart}
use Rattle.lower_processes.specs.Behaviours.{lowered_if_there}
use Rattle.check_base.specs.Files.{Sided, execution_of, first_there, init_in, interfaces_of, main_in, place_in, port_in, services_of, sets_of, types_of, type_names, interface_names}
use Rattle.service_check.specs.Mentioned.{names_of}
use Rattle.service_check.specs.KeptPorts.{texts_in}
use Rattle.lower_types.specs.LoweredTypes.{lowered_definition}
use Rattle.service_check.specs.Programs.{lowered_execution, lowered_port_part, lowered_service, lowered_set, numbering, program_of}
use Rattle.lower_types.specs.LoweredInterfaces.{lowered_interface}
use Rattle.check_base.proofs.Loops.{mapped_twice}

-- a port of its pieces
abbrev pub port_of : List ℕ → Bool → List ℕ → List ℕ → PortPart
port_of name input location interfaces = record { name = name; input = input; location = location; interfaces = interfaces }

-- a port whose pieces are those of the text
pub port_made : (interfaces : List (List ℕ)) (p : Sided) (name location places : List ℕ)
    → name ≡ p.port.name.text → location ≡ p.port.location.text → places ≡ map (place_in interfaces) (texts_in p.port.interfaces)
    → port_of name p.input location places ≡ lowered_port_part interfaces p
port_made interfaces p name location places same_name same_location same_places =
    ap (λ x. port_of x p.input location places) same_name
    ∙ ap (λ x. port_of p.port.name.text p.input x places) same_location
    ∙ ap (port_of p.port.name.text p.input p.port.location.text) (same_places ∙ mapped_twice (place_in interfaces) (λ (n : Name). n.text) p.port.interfaces)

-- a service of its pieces
abbrev pub service_of : List ℕ → Execution → List PortPart → List SetPart → Proc → Proc → ServicePart
service_of name execution ports sets init main = record { name = name; execution = execution; ports = ports; sets = sets; init = init; main = main }

-- a service whose pieces are those of the text
pub service_made : (interfaces : List Interface) (types names : List (List ℕ)) (s : Service) (name : List ℕ) (execution : Execution) (ports : List PortPart) (sets : List SetPart) (init main : Proc)
    → name ≡ s.name.text
    → execution ≡ lowered_execution (execution_of s)
    → ports ≡ map (lowered_port_part (interface_names interfaces)) (filter_map port_in s.clauses)
    → sets ≡ map (lowered_set types) (sets_of s)
    → init ≡ lowered_if_there (numbering interfaces names s) (first_there (filter_map init_in s.clauses))
    → main ≡ lowered_if_there (numbering interfaces names s) (first_there (filter_map main_in s.clauses))
    → service_of name execution ports sets init main ≡ lowered_service interfaces types names s
service_made interfaces types names s name execution ports sets init main same_name same_execution same_ports same_sets same_init same_main =
    ap (λ x. service_of x execution ports sets init main) same_name
    ∙ ap (λ x. service_of s.name.text x ports sets init main) same_execution
    ∙ ap (λ x. service_of s.name.text (lowered_execution (execution_of s)) x sets init main) same_ports
    ∙ ap (λ x. service_of s.name.text (lowered_execution (execution_of s)) (map (lowered_port_part (interface_names interfaces)) (filter_map port_in s.clauses)) x init main) same_sets
    ∙ ap (λ x. service_of s.name.text (lowered_execution (execution_of s)) (map (lowered_port_part (interface_names interfaces)) (filter_map port_in s.clauses)) (map (lowered_set types) (sets_of s)) x main) same_init
    ∙ ap (service_of s.name.text (lowered_execution (execution_of s)) (map (lowered_port_part (interface_names interfaces)) (filter_map port_in s.clauses)) (map (lowered_set types) (sets_of s)) (lowered_if_there (numbering interfaces names s) (first_there (filter_map init_in s.clauses)))) same_main

-- a program of its pieces
abbrev pub parts_of : List TypeTree → List InterfacePart → List ServicePart → List (List ℕ) → ProgramParts
parts_of types interfaces services names = record { types = types; interfaces = interfaces; services = services; names = names }

-- a program whose pieces are those of the text
pub program_made : (file : List Definition) (types : List TypeTree) (interfaces : List InterfacePart) (services : List ServicePart) (names : List (List ℕ))
    → types ≡ map (lowered_definition (type_names (types_of file))) (types_of file)
    → interfaces ≡ map (lowered_interface (type_names (types_of file)) (names_of file)) (interfaces_of file)
    → services ≡ map (lowered_service (interfaces_of file) (type_names (types_of file)) (names_of file)) (services_of file)
    → names ≡ names_of file
    → parts_of types interfaces services names ≡ program_of file
unfolding program_of
program_made file types interfaces services names same_types same_interfaces same_services same_names =
    ap (λ x. parts_of x interfaces services names) same_types
    ∙ ap (λ x. parts_of (map (lowered_definition (type_names (types_of file))) (types_of file)) x services names) same_interfaces
    ∙ ap (λ x. parts_of (map (lowered_definition (type_names (types_of file))) (types_of file)) (map (lowered_interface (type_names (types_of file)) (names_of file)) (interfaces_of file)) x names) same_services
    ∙ ap (parts_of (map (lowered_definition (type_names (types_of file))) (types_of file)) (map (lowered_interface (type_names (types_of file)) (names_of file)) (interfaces_of file)) (map (lowered_service (interfaces_of file) (type_names (types_of file)) (names_of file)) (services_of file))) same_names
