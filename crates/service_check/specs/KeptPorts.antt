-- These definitions serve the proofs alone: no promise speaks of them.
-- Ports with their directions, the texts of names, and what clauses say of operations and of how sessions are run.
use Rattle.std.specs.Prelude.{ℕ, List, map, flat_map, unwrap_or}
use Rattle.std.specs.List.{filter_map}
use Rattle.jolie_ast.specs.declared.name.Name.{Name}
use Rattle.jolie_ast.specs.declared.interface.Interface.{Interface}
use Rattle.jolie_ast.specs.declared.service.Clause.{Clause}
use Rattle.jolie_ast.specs.declared.service.Execution.{Execution}
use Rattle.jolie_ast.specs.declared.service.Execution.TheVariants.{Single}
use Rattle.jolie_ast.specs.declared.service.Port.{Port}
use Rattle.service_check.specs.declared.sides.SidedPort.{SidedPort}
use Rattle.check_base.specs.Files.{Operation, Sided, operations_among, execution_in, first_there, input_port_in}
use Rattle.check_base.specs.Files.{texts_of}

-- a port with its direction
abbrev pub sided : SidedPort → Sided
sided p = record { input = p.input; port = p.port.now }

-- the texts of names
abbrev pub texts_in : List Name → List (List ℕ)
texts_in names = map (λ (n : Name). n.text) names

-- the names of the operations of a port's interfaces
abbrev pub port_texts : List Interface → Port → List (List ℕ)
port_texts interfaces port = texts_of (operations_among interfaces port.interfaces)

-- the operations of the input ports among clauses, as they stand
abbrev pub input_operations_among : List Interface → List Clause → List Operation
input_operations_among interfaces clauses =
    flat_map (λ (p : Port). operations_among interfaces p.interfaces) (filter_map input_port_in clauses)

-- how the sessions are run by what clauses say: one alone where nothing is said
abbrev pub said_execution : List Clause → Execution
said_execution clauses = unwrap_or (first_there (filter_map execution_in clauses)) Single
