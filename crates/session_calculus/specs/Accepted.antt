-- A value where a type is asked for, and the types that a service's operations ask for.
use Rattle.std.specs.Prelude.{ℕ, List, [], ◌∷◌, ◌++◌, map, slice_get, Option, None, Some}
use Rattle.std.specs.Prelude.{option_and_then, option_map, unwrap_or, if◌then◌else◌, nat_eq}
use Rattle.jolie_trees.specs.Data.{Tree}
use Rattle.behaviour_tree.specs.Data.{TypeTree, ThrowsPart, OperationPart, ServicePart, ProgramParts}
use Rattle.behaviour_tree.specs.Conforms.{conforms, wide}
use Rattle.behaviour_tree.specs.Operations.{operation_at}
use Rattle.behaviour_tree.specs.FormedServices.{println, sent_to}

-- a value as a type takes it: widened where it conforms, else none. Without a type, which can't be, none is taken
abbrev pub accepted : List TypeTree → Option TypeTree → Tree → Option Tree
accepted types None v = None
accepted types (Some ty) v = if conforms types v ty then Some (wide types v ty) else None

-- the response type of an operation of the service
abbrev pub response_of : ProgramParts → ℕ → ℕ → Option TypeTree
response_of parts service op = option_and_then (λ o. o.response) (operation_at parts service op)

-- the operations that a service sends to, port by port; Console's stands after them
abbrev pub outputs_of : ProgramParts → ServicePart → List (List OperationPart)
outputs_of parts s = map (sent_to parts.interfaces) s.ports ++ (println ∷ []) ∷ []

-- the operation of a number of a port of the service
abbrev pub operation_sent : ProgramParts → ℕ → ℕ → ℕ → Option OperationPart
operation_sent parts service port op =
    option_and_then (λ operations. slice_get operations op)
    (option_and_then (λ s. slice_get (outputs_of parts s) port) (slice_get parts.services service))

-- what such an operation asks of a message
abbrev pub request_sent : ProgramParts → ℕ → ℕ → ℕ → Option TypeTree
request_sent parts service port op = option_map (λ o. o.request) (operation_sent parts service port op)

-- what it asks of an answer
abbrev pub response_sent : ProgramParts → ℕ → ℕ → ℕ → Option TypeTree
response_sent parts service port op = option_and_then (λ o. o.response) (operation_sent parts service port op)

-- the faults that it may answer
abbrev pub throws_sent : ProgramParts → ℕ → ℕ → ℕ → List ThrowsPart
throws_sent parts service port op = unwrap_or (option_map (λ o. o.throws) (operation_sent parts service port op)) []

-- the type of the value of a fault among those that an operation may answer
abbrev pub type_thrown : List ThrowsPart → ℕ → Option TypeTree
type_thrown [] f = None
type_thrown (t ∷ ts) f = if nat_eq t.fault f then Some t.ty else type_thrown ts f
