-- These definitions serve the proofs alone: `check` does not speak of them, the clauses of calls of this crate do.
-- Operations as interfaces declare them, and those that a table keeps, each once.
use Rattle.std.specs.Prelude.{ℕ, Bool, List, ◌++◌, Option, is_some, option_map}
use Rattle.jolie_ast.specs.declared.interface.Interface.{Interface}
use Rattle.jolie_ast.specs.declared.service.Port.{Port}
use Rattle.jolie_ast.specs.declared.service.Clause.{Clause}
use Rattle.check_processes.specs.declared.operation_tables.Declaration.{Declaration}
use Rattle.check_processes.specs.declared.operation_tables.Declaration.TheVariants as declaration
use Rattle.check_base.specs.Files.{Operation, answering, input_port_in, operation_named}
use Rattle.check_base.specs.OnceEach.{each_once_after}
use Rattle.check_base.specs.Files.{operations_among, silent, texts_of}
use Rattle.check_base.specs.MaybeThere.{if_there}

-- the operation that a declaration declares
abbrev pub operation_of : Declaration → Operation
operation_of (declaration.Answering o) = answering o.now
operation_of (declaration.Silent o) = silent o.now

-- whether an operation answers
abbrev pub does_answer : Operation → Bool
does_answer o = is_some o.response

-- whether the operation of a name answers, if it is there
abbrev pub answers_named : List Operation → List ℕ → Option Bool
answers_named operations name = option_map does_answer (operation_named operations name)

-- operations, and after them those of others whose names are new, each once
abbrev pub with_new : List Operation → List Operation → List Operation
with_new known more = known ++ each_once_after (texts_of known) more

-- the operations of the interfaces of a port, as they stand
abbrev pub operations_at : List Interface → Port → List Operation
operations_at interfaces port = operations_among interfaces port.interfaces

-- those of a clause, if it is an input port, else none
abbrev pub operations_of_input : List Interface → Clause → List Operation
operations_of_input interfaces c = if_there (operations_at interfaces) (input_port_in c)
