-- What the processes of a service may name.
use Rattle.std.specs.Prelude.{ℕ, List, map}
use Rattle.jolie_ast.specs.declared.name.Name.{Name}
use Rattle.check_base.specs.Files.{Operation, input_operations, output_ports, port_operations, variables_of}
use Rattle.jolie_ast.specs.declared.interface.Interface.{Interface}
use Rattle.jolie_ast.specs.declared.service.Port.{Port}
use Rattle.jolie_ast.specs.declared.service.Service.{Service}

-- an output port: its name, and its operations
pub record Outlet : Type 0 where
  pub name : List ℕ
  pub operations : List Operation

-- what the processes of a service may name: the operations of its input ports, its output ports, and its variables
pub record Surroundings : Type 0 where
  pub inputs : List Operation
  pub outlets : List Outlet
  pub variables : List (List ℕ)

-- an output port with its operations
abbrev pub outlet : List Interface → Port → Outlet
outlet interfaces port = record { name = port.name.text; operations = port_operations interfaces port }

-- what the processes of a service may name
abbrev pub surroundings : List Interface → Service → Surroundings
surroundings interfaces s = record {
  inputs = input_operations interfaces s;
  outlets = map (outlet interfaces) (output_ports s);
  variables = map (λ (n : Name). n.text) (variables_of s);
}
