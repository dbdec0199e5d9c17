-- What well-formed ports are.
use Rattle.std.specs.Prelude.{ℕ, Bool, not, ◌&&◌, ◌||◌, nat_lt, bytes_eq, codes, if◌then◌else◌}
use Rattle.std.specs.Prelude.{List, [], ◌∷◌, length, map, flat_map}
use Rattle.std.specs.List.{list_all}
use Rattle.behaviour_tree.specs.Data.{OperationPart, InterfacePart, PortPart, ServicePart}
use Rattle.behaviour_tree.specs.Locations.{is_local, is_socket}
use Rattle.behaviour_tree.specs.Operations.{operations_of}
use Rattle.behaviour_tree.specs.Distinct.{is_in, texts_differ}

-- the name of the port that every service has behind its own
abbrev pub console : List ℕ
console = codes "Console"

-- the names of operations
abbrev pub operation_names : List OperationPart → List (List ℕ)
operation_names operations = map (λ (o : OperationPart). o.name) operations

-- the operations of a port
abbrev pub port_operations : List InterfacePart → PortPart → List OperationPart
port_operations interfaces port = operations_of interfaces port.interfaces

-- a port has no operation twice
abbrev pub has_once : List InterfacePart → PortPart → Bool
has_once interfaces port = texts_differ (operation_names (port_operations interfaces port))

-- an output port at a local location is met by an input port
abbrev pub is_met : List (List ℕ) → PortPart → Bool
is_met locations port = port.input || not (is_local port.location) || is_in port.location locations

-- a port: its name is not that of the port that every service has, it has a location, and its interfaces are there
abbrev pub is_port : List InterfacePart → List (List ℕ) → PortPart → Bool
is_port interfaces locations port =
    not (bytes_eq port.name console) && (is_local port.location || is_socket port.location)
    && list_all (λ n. nat_lt n (length interfaces)) port.interfaces
    && has_once interfaces port && is_met locations port

-- the location of an input port
abbrev pub input_location : PortPart → List (List ℕ)
input_location port = if port.input then port.location ∷ [] else []

-- the locations of the input ports of services
abbrev pub input_locations : List ServicePart → List (List ℕ)
input_locations services = flat_map (λ (s : ServicePart). flat_map input_location s.ports) services
