-- What is refused of the ports of a service.
use Rattle.std.specs.Prelude.{ℕ, not, ◌&&◌, ◌||◌, List, [], ◌∷◌, ◌++◌, map, flat_map, bytes_eq, codes, if◌then◌else◌}
use Rattle.std.specs.Prelude.{Option, None, Some, is_some}
use Rattle.std.specs.List.{filter_map}
use Rattle.jolie_ast.specs.declared.name.Name.{Name}
use Rattle.jolie_ast.specs.declared.interface.RequestResponse.{RequestResponse}
use Rattle.jolie_ast.specs.declared.interface.OneWay.{OneWay}
use Rattle.jolie_ast.specs.declared.interface.OperationGroup.{OperationGroup}
use Rattle.jolie_ast.specs.declared.interface.Interface.{Interface}
use Rattle.jolie_ast.specs.declared.service.Port.{Port}
use Rattle.jolie_ast.specs.declared.service.Service.{Service}
use Rattle.behaviour_tree.specs.Distinct.{is_in}
use Rattle.check_base.specs.declared.refusal.CheckName.TheVariants.{DuplicateName, UnknownType, UnknownPort, WrongKind}
use Rattle.check_base.specs.declared.refusal.Refusal.{Refusal}
use Rattle.check_base.specs.Repeated.{named, repeated}
use Rattle.check_base.specs.Least.{refused, refused_if}
use Rattle.check_base.specs.Files.{Operation, group_operations, operations_named, interface_named, Sided, port_in}
use Rattle.check_base.specs.Files.{input_ports, output_ports}
use Rattle.behaviour_tree.specs.Locations.{begins_local, is_local, is_socket}
use Rattle.check_base.specs.Console.{console}

-- an interface that is not there
abbrev pub unknown_interface : List Interface → Name → List Refusal
unknown_interface interfaces n = refused_if (not (is_some (interface_named interfaces n.text))) UnknownType n.at

-- an operation at a place
abbrev pub operation_at : ℕ → Operation → Name
operation_at at o = named o.name.text at

-- an operation that answers, at a place
abbrev pub answering_at : ℕ → RequestResponse → Name
answering_at at o = named o.name.text at

-- an operation that does not, at a place
abbrev pub silent_at : ℕ → OneWay → Name
silent_at at o = named o.name.text at

-- the operations after one word, at a place
abbrev pub group_at : ℕ → OperationGroup → List Name
group_at at g = map (operation_at at) (group_operations g)

-- the operations of the interface that a port names, each at that name
abbrev pub brought_by : List Interface → Name → List Name
brought_by interfaces n = map (operation_at n.at) (operations_named interfaces n.text)

-- the operations that a port brings: those of its interfaces, but of those that stand in a list
abbrev pub brought : List Interface → List (List ℕ) → List Name → List Name
brought interfaces others names =
    flat_map (λ (n : Name). if is_in n.text others then [] else brought_by interfaces n) names

-- the operations that input ports bring: an interface that an earlier port has brings nothing new
abbrev pub brought_in : List Interface → List (List ℕ) → List Port → List Name
brought_in interfaces earlier [] = []
brought_in interfaces earlier (p ∷ ports) =
    brought interfaces earlier p.interfaces
    ++ brought_in interfaces (earlier ++ map (λ (n : Name). n.text) p.interfaces) ports

-- an operation that a port has a second time
abbrev pub operations_repeated : List Interface → Port → List Refusal
operations_repeated interfaces port = refused DuplicateName (repeated (brought interfaces [] port.interfaces))

-- an operation that the input ports have a second time, together or one of them alone
abbrev pub input_ports_refused : List Interface → List Port → List Refusal
input_ports_refused interfaces ports =
    refused DuplicateName (repeated (brought_in interfaces [] ports))
    ++ flat_map (operations_repeated interfaces) ports

-- a location that is none
abbrev pub wrong_location : Port → List Refusal
wrong_location port =
    refused_if (not (is_local port.location.text || is_socket port.location.text)) WrongKind port.location.at

-- the protocol of a socket: it has to be there, and to be jsonrpc
abbrev pub wrong_socket_protocol : ℕ → Option Name → List Refusal
wrong_socket_protocol at None = refused WrongKind (at ∷ [])
wrong_socket_protocol at (Some n) = refused_if (not (bytes_eq n.text (codes "jsonrpc"))) WrongKind n.at

-- a local location has no protocol
abbrev pub wrong_local_protocol : Option Name → List Refusal
wrong_local_protocol None = []
wrong_local_protocol (Some n) = refused WrongKind (n.at ∷ [])

-- what is refused of a protocol; of a text that begins as a local location and is none, nothing more is refused
abbrev pub wrong_protocol : Port → List Refusal
wrong_protocol port =
    if is_local port.location.text then wrong_local_protocol port.protocol
    else if begins_local port.location.text then []
    else wrong_socket_protocol port.location.at port.protocol

-- what is refused of a port by itself
abbrev pub port_refused : List Interface → Port → List Refusal
port_refused interfaces port =
    refused_if (bytes_eq port.name.text console) WrongKind port.name.at
    ++ wrong_location port ++ wrong_protocol port ++ flat_map (unknown_interface interfaces) port.interfaces

-- the locations of the input ports of services
abbrev pub input_locations : List Service → List (List ℕ)
input_locations services = flat_map (λ s. map (λ (p : Port). p.location.text) (input_ports s)) services

-- an output port at a local location that no input port has
abbrev pub unmet : List (List ℕ) → Port → List Refusal
unmet locations port =
    refused_if (is_local port.location.text && not (is_in port.location.text locations)) UnknownPort port.location.at

-- the name of a port
abbrev pub port_name : Sided → Name
port_name p = p.port.name

-- what is refused of a port by itself, whatever its direction
abbrev pub sided_refused : List Interface → Sided → List Refusal
sided_refused interfaces p = port_refused interfaces p.port

-- what is refused of the ports of a service
abbrev pub ports_refused : List Interface → List (List ℕ) → Service → List Refusal
ports_refused interfaces locations s =
    refused DuplicateName (repeated (map port_name (filter_map port_in s.clauses)))
    ++ flat_map (sided_refused interfaces) (filter_map port_in s.clauses)
    ++ input_ports_refused interfaces (input_ports s)
    ++ flat_map (operations_repeated interfaces) (output_ports s)
    ++ flat_map (unmet locations) (output_ports s)
