-- The program of a file.
use Rattle.std.specs.Prelude.{ℕ, zero, suc, true, false, List, [], ◌∷◌, ◌++◌, length, map}
use Rattle.std.specs.List.{filter_map}
use Rattle.jolie_ast.specs.declared.name.Name.{Name}
use Rattle.jolie_ast.specs.declared.tree.Definition.{Definition}
use Rattle.jolie_ast.specs.declared.interface.Interface.{Interface}
use Rattle.jolie_ast.specs.declared.service.Execution as ast_execution
use Rattle.jolie_ast.specs.declared.service.Execution.TheVariants as said
use Rattle.jolie_ast.specs.declared.service.Alias.{Alias}
use Rattle.jolie_ast.specs.declared.service.CorrelationVariable.{CorrelationVariable}
use Rattle.jolie_ast.specs.declared.service.Service.{Service}
use Rattle.behaviour_tree.specs.declared.program.Execution.{Execution}
use Rattle.behaviour_tree.specs.declared.program.Execution.TheVariants as execution
use Rattle.behaviour_tree.specs.Data.{PortPart, AliasPart, VariablePart, SetPart, ServicePart, ProgramParts}
use Rattle.check_base.specs.Files.{Sided, interface_names, texts_of, type_names, types_of, interfaces_of, services_of}
use Rattle.check_base.specs.Files.{place_in, port_in, port_operations, input_operations, sets_of, execution_of}
use Rattle.check_base.specs.Files.{first_there, init_in, main_in, variables_of}
use Rattle.lower_processes.specs.Behaviours.{NumberedPort, Numbering, lowered_if_there}
use Rattle.service_check.specs.Mentioned.{names_of}
use Rattle.lower_types.specs.LoweredTypes.{lowered_definition}
use Rattle.lower_types.specs.LoweredInterfaces.{lowered_interface}

-- ---- services

-- a port
abbrev pub lowered_port_part : List (List ℕ) → Sided → PortPart
lowered_port_part interfaces p = record {
  name = p.port.name.text;
  input = p.input;
  location = p.port.location.text;
  interfaces = map (λ (n : Name). place_in interfaces n.text) p.port.interfaces;
}

-- an alias
abbrev pub lowered_alias : List (List ℕ) → Alias → AliasPart
lowered_alias types a = record { ty = place_in types a.ty.text; path = map (λ (n : Name). n.text) (a.first ∷ a.rest) }

-- a variable of a set
abbrev pub lowered_variable : List (List ℕ) → CorrelationVariable → VariablePart
lowered_variable types v = record { name = v.name.text; aliases = map (lowered_alias types) v.aliases }

-- a set
abbrev pub lowered_set : List (List ℕ) → List CorrelationVariable → SetPart
lowered_set types variables = record { variables = map (lowered_variable types) variables }

-- how sessions are run
abbrev pub lowered_execution : ast_execution.Execution → Execution
lowered_execution said.Concurrent = execution.Concurrent
lowered_execution said.Single = execution.Single

-- a port with its number, where it is an output port
abbrev pub numbered : List Interface → ℕ → Sided → List NumberedPort
numbered interfaces n p =
    elim p.input [
      | true ↦ []
      | false ↦ record
          { name = p.port.name.text; number = n; operations = texts_of (port_operations interfaces p.port) } ∷ []
    ]

-- the output ports among ports that are numbered from n on
abbrev pub numbered_from : List Interface → ℕ → List Sided → List NumberedPort
numbered_from interfaces n [] = []
numbered_from interfaces n (p ∷ ports) = numbered interfaces n p ++ numbered_from interfaces (suc n) ports

-- what the processes of a service name by numbers
abbrev pub numbering : List Interface → List (List ℕ) → Service → Numbering
numbering interfaces names s = record {
  inputs = texts_of (input_operations interfaces s);
  ports = numbered_from interfaces zero (filter_map port_in s.clauses);
  console = length (filter_map port_in s.clauses);
  variables = map (λ (n : Name). n.text) (variables_of s);
  names = names;
}

-- a service
abbrev pub lowered_service : List Interface → List (List ℕ) → List (List ℕ) → Service → ServicePart
lowered_service interfaces types names s = record {
  name = s.name.text;
  execution = lowered_execution (execution_of s);
  ports = map (lowered_port_part (interface_names interfaces)) (filter_map port_in s.clauses);
  sets = map (lowered_set types) (sets_of s);
  init = lowered_if_there (numbering interfaces names s) (first_there (filter_map init_in s.clauses));
  main = lowered_if_there (numbering interfaces names s) (first_there (filter_map main_in s.clauses));
}

-- ---- the file

-- the program of a file
unfoldable pub program_of : List Definition → ProgramParts
program_of file = record {
  types = map (lowered_definition (type_names (types_of file))) (types_of file);
  interfaces = map (lowered_interface (type_names (types_of file)) (names_of file)) (interfaces_of file);
  services = map (lowered_service (interfaces_of file) (type_names (types_of file)) (names_of file)) (services_of file);
  names = names_of file;
}
