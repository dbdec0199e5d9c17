-- What is refused of interfaces.
use Rattle.std.specs.Prelude.{List, [], ◌++◌, map, flat_map, Option}
use Rattle.std.specs.Option.{option_map_or}
use Rattle.jolie_ast.specs.declared.types.TypeDefinition.{TypeDefinition}
use Rattle.jolie_ast.specs.declared.interface.TypeName.{TypeName}
use Rattle.jolie_ast.specs.declared.interface.Fault.{Fault}
use Rattle.jolie_ast.specs.declared.interface.RequestResponse.{RequestResponse}
use Rattle.jolie_ast.specs.declared.interface.OneWay.{OneWay}
use Rattle.jolie_ast.specs.declared.interface.OperationGroup.{OperationGroup}
use Rattle.jolie_ast.specs.declared.interface.Interface.{Interface}
use Rattle.check_base.specs.declared.refusal.CheckName.TheVariants.{DuplicateName}
use Rattle.check_base.specs.declared.refusal.Refusal.{Refusal}
use Rattle.check_base.specs.Repeated.{repeated}
use Rattle.check_base.specs.Least.{refused}
use Rattle.check_base.specs.Files.{Operation, answering, silent, group_operations, operations_in}
use Rattle.check_types.specs.TypeRules.{unknown_type_name}

-- a type that may be written
abbrev pub unknown_if_written : List TypeDefinition → Option TypeName → List Refusal
unknown_if_written types ty = option_map_or (unknown_type_name types) ty []

-- a type of the data of a fault that is not there
abbrev pub fault_refused : List TypeDefinition → Fault → List Refusal
fault_refused types f = unknown_if_written types f.ty

-- what is refused of an operation: types that are not there, and a fault that stands a second time
abbrev pub operation_refused : List TypeDefinition → Operation → List Refusal
operation_refused types o =
    unknown_type_name types o.request ++ unknown_if_written types o.response
    ++ flat_map (fault_refused types) o.throws
    ++ refused DuplicateName (repeated (map (λ (f : Fault). f.name) o.throws))

-- what is refused of an operation that answers
abbrev pub answering_refused : List TypeDefinition → RequestResponse → List Refusal
answering_refused types o = operation_refused types (answering o)

-- what is refused of an operation that does not
abbrev pub silent_refused : List TypeDefinition → OneWay → List Refusal
silent_refused types o = operation_refused types (silent o)

-- what is refused of the operations after one word
abbrev pub group_refused : List TypeDefinition → OperationGroup → List Refusal
group_refused types g = flat_map (operation_refused types) (group_operations g)

-- what is refused of an interface by itself
abbrev pub interface_refused : List TypeDefinition → Interface → List Refusal
interface_refused types i = flat_map (operation_refused types) (operations_in i)
