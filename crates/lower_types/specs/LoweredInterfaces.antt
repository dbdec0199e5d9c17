-- What interfaces mean in a program.
use Rattle.std.specs.Prelude.{ℕ, List, map, option_map}
use Rattle.jolie_ast.specs.declared.interface.Fault.{Fault}
use Rattle.jolie_ast.specs.declared.interface.Interface.{Interface}
use Rattle.behaviour_tree.specs.Data.{ThrowsPart, OperationPart, InterfacePart}
use Rattle.check_base.specs.Files.{Operation, operations_in, place_in}
use Rattle.lower_types.specs.LoweredTypes.{lowered_type, lowered_data}

-- a fault of an operation
abbrev pub lowered_fault : List (List ℕ) → List (List ℕ) → Fault → ThrowsPart
lowered_fault types names f = record { fault = place_in names f.name.text; ty = lowered_data types f.ty }

-- an operation
abbrev pub lowered_operation : List (List ℕ) → List (List ℕ) → Operation → OperationPart
lowered_operation types names o = record {
  name = o.name.text;
  request = lowered_type types o.request;
  response = option_map (lowered_type types) o.response;
  throws = map (lowered_fault types names) o.throws;
}

-- an interface
abbrev pub lowered_interface : List (List ℕ) → List (List ℕ) → Interface → InterfacePart
lowered_interface types names i = record {
  name = i.name.text;
  operations = map (lowered_operation types names) (operations_in i);
}
