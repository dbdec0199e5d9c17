-- The operations of a service, numbered from 0.
use Rattle.std.specs.Prelude.{ℕ, ◌+◌, ◌^◌, Bool, ◌==◌, nat_lt, if◌then◌else◌, bytes_eq, List, [], ◌∷◌, ◌++◌, map, take}
use Rattle.std.specs.Prelude.{drop, flat_map, slice_get, Option, Some, None, option_map, option_and_then, unwrap_or}
use Rattle.std.specs.List.{list_any, position_from}
use Rattle.behaviour_tree.specs.Data.{OperationPart, InterfacePart, PortPart, ServicePart, ProgramParts}
use Rattle.behaviour_tree.specs.PartsSeen.{port_view}
use Rattle.behaviour_tree.specs.declared.operations.InputInterfaces.{InputInterfaces}

-- the interfaces by which a port takes messages: none at an output port
abbrev pub inputs_of : PortPart → List ℕ
inputs_of p = if p.input then p.interfaces else []

-- the interfaces that the input ports among some ports name, in order
abbrev pub mentions : List PortPart → List ℕ
mentions ports = flat_map inputs_of ports

-- whether a number is among others
abbrev pub is_among : List ℕ → ℕ → Bool
is_among ns n = list_any (λ m. m == n) ns

-- the numbers that were not mentioned before, each once, at its first mention
abbrev pub first_mentions : List ℕ → List ℕ → List ℕ
first_mentions before [] = []
first_mentions before (n ∷ ns) = (if is_among before n then [] else n ∷ []) ++ first_mentions (before ++ n ∷ []) ns

-- the input interfaces of a service, each once
abbrev pub input_interfaces : List PortPart → List ℕ
input_interfaces ports = first_mentions [] (mentions ports)

-- the operations of an interface that a program may have
abbrev pub operations_in : Option InterfacePart → List OperationPart
operations_in None = []
operations_in (Some i) = i.operations

-- the operations of the interfaces of some numbers, in order
abbrev pub operations_of : List InterfacePart → List ℕ → List OperationPart
operations_of interfaces ns = flat_map (λ n. operations_in (slice_get interfaces n)) ns

-- the operations of a service: those of its input interfaces, in order
abbrev pub service_operations : ProgramParts → ServicePart → List OperationPart
service_operations p s = operations_of p.interfaces (input_interfaces s.ports)

-- the operation of a number of the service of a number
abbrev pub operation_at : ProgramParts → ℕ → ℕ → Option OperationPart
operation_at p service op = option_and_then (λ s. slice_get (service_operations p s) op) (slice_get p.services service)

-- whether an operation has a name
abbrev pub has_name : List ℕ → OperationPart → Bool
has_name name o = bytes_eq o.name name

-- a number of 32 bits, and nothing for a larger one
abbrev pub in_32_bits : ℕ → Option ℕ
in_32_bits n = if nat_lt n (2 ^ 32) then Some n else None

-- the number of the first operation of a name among those of a service
abbrev pub number_named : ProgramParts → List ℕ → ServicePart → Option ℕ
number_named p name s = option_and_then in_32_bits (position_from (has_name name) 0 (service_operations p s))

-- the number of the first operation of a name of the service of a number
abbrev pub operation_named : ProgramParts → ℕ → List ℕ → Option ℕ
operation_named p service name = option_and_then (number_named p name) (slice_get p.services service)

-- the input interfaces of the port of a place
abbrev pub inputs_at : List PortPart → ℕ → List ℕ
inputs_at ports i = unwrap_or (option_map inputs_of (slice_get ports i)) []

-- what was mentioned before the interface of place j of the port of place i
abbrev pub passed : List PortPart → ℕ → ℕ → List ℕ
passed ports i j = mentions (take i ports) ++ take j (inputs_at ports i)

-- what is mentioned from there on
abbrev pub coming : List PortPart → ℕ → ℕ → List ℕ
coming ports i j = drop j (inputs_at ports i) ++ mentions (drop (i + 1) ports)

-- the input interfaces that are still to come from there on
abbrev pub rest_from : List PortPart → ℕ → ℕ → List ℕ
rest_from ports i j = first_mentions (passed ports i j) (coming ports i j)

-- the input interfaces that a walk has still to come to
abbrev pub rest_of : InputInterfaces → List ℕ
rest_of w = rest_from (map port_view w.ports.now) w.port w.at
