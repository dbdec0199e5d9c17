-- What well-formed interfaces are.
use Rattle.std.specs.Prelude.{ℕ, Bool, ◌&&◌, nat_lt, map}
use Rattle.std.specs.List.{list_all}
use Rattle.behaviour_tree.specs.Data.{ThrowsPart, OperationPart, InterfacePart}
use Rattle.behaviour_tree.specs.Distinct.{numbers_differ}
use Rattle.behaviour_tree.specs.FormedTypes.{is_type, is_type_if_there}

-- a fault that an operation may answer: it and its type are there
abbrev pub is_fault : ℕ → ℕ → ThrowsPart → Bool
is_fault types names t = nat_lt t.fault names && is_type types t.ty

-- an operation: its types and faults are there, and no fault stands twice
abbrev pub is_operation : ℕ → ℕ → OperationPart → Bool
is_operation types names o =
    is_type types o.request && is_type_if_there types o.response
    && list_all (is_fault types names) o.throws && numbers_differ (map (λ (t : ThrowsPart). t.fault) o.throws)

-- an interface
abbrev pub is_interface : ℕ → ℕ → InterfacePart → Bool
is_interface types names i = list_all (is_operation types names) i.operations
