-- A file and its parts by name.
use Rattle.std.specs.Prelude.{ℕ, zero, suc, Bool, true, false, List, [], ◌∷◌, map, flat_map, bytes_eq}
use Rattle.std.specs.Prelude.{if◌then◌else◌, Option, None, Some, option_map, unwrap_or}
use Rattle.std.specs.List.{filter_map, find}
use Rattle.jolie_ast.specs.declared.name.Name.{Name}
use Rattle.jolie_ast.specs.declared.tree.Definition.{Definition}
use Rattle.jolie_ast.specs.declared.tree.Definition.TheVariants as definition
use Rattle.jolie_ast.specs.declared.types.TypeDefinition.{TypeDefinition}
use Rattle.jolie_ast.specs.declared.interface.TypeName.{TypeName}
use Rattle.jolie_ast.specs.declared.interface.Fault.{Fault}
use Rattle.jolie_ast.specs.declared.interface.RequestResponse.{RequestResponse}
use Rattle.jolie_ast.specs.declared.interface.OneWay.{OneWay}
use Rattle.jolie_ast.specs.declared.interface.OperationGroup.{OperationGroup}
use Rattle.jolie_ast.specs.declared.interface.OperationGroup.TheVariants as group
use Rattle.jolie_ast.specs.declared.interface.Interface.{Interface}
use Rattle.jolie_ast.specs.declared.service.Execution.{Execution}
use Rattle.jolie_ast.specs.declared.service.Execution.TheVariants.{Concurrent, Single}
use Rattle.jolie_ast.specs.declared.service.Port.{Port}
use Rattle.jolie_ast.specs.declared.service.Clause.{Clause}
use Rattle.jolie_ast.specs.declared.service.Clause.TheVariants as clause
use Rattle.jolie_ast.specs.declared.service.CorrelationVariable.{CorrelationVariable}
use Rattle.jolie_ast.specs.declared.service.Service.{Service}
use Rattle.jolie_ast.specs.declared.process.Block.{Block}
use Rattle.check_base.specs.Repeated.{once_after}
use Rattle.jolie_ast.specs.declared.types.RootKind.TheVariants as root
use Rattle.jolie_ast.specs.declared.types.TypeBody.{TypeBody, roll-TypeBody}
use Rattle.jolie_ast.specs.declared.types.TypeBody.TheOpen.{TypeBody-F}
use Rattle.jolie_ast.specs.declared.types.Field.{Field}
use Rattle.jolie_ast.specs.declared.types.DefinedType.{DefinedType}
use Rattle.jolie_ast.specs.declared.types.DefinedType.TheVariants as defined

-- ---- definitions

-- a definition, if it is a type
abbrev pub type_in : Definition → Option TypeDefinition
type_in (definition.Type ty) = Some ty
type_in _ = None

-- a definition, if it is an interface
abbrev pub interface_in : Definition → Option Interface
interface_in (definition.Interface i) = Some i
interface_in _ = None

-- a definition, if it is a service
abbrev pub service_in : Definition → Option Service
service_in (definition.Service s) = Some s
service_in _ = None

-- the types of a file in order
abbrev pub types_of : List Definition → List TypeDefinition
types_of file = filter_map type_in file

-- the interfaces of a file in order
abbrev pub interfaces_of : List Definition → List Interface
interfaces_of file = filter_map interface_in file

-- the services of a file in order
abbrev pub services_of : List Definition → List Service
services_of file = filter_map service_in file

-- the names of types
abbrev pub type_names : List TypeDefinition → List (List ℕ)
type_names types = map (λ (t : TypeDefinition). t.name.text) types

-- the names of interfaces
abbrev pub interface_names : List Interface → List (List ℕ)
interface_names interfaces = map (λ (i : Interface). i.name.text) interfaces

-- the first type of a name
abbrev pub type_named : List TypeDefinition → List ℕ → Option TypeDefinition
type_named types name = find (λ (ty : TypeDefinition). bytes_eq ty.name.text name) types

-- the first interface of a name
abbrev pub interface_named : List Interface → List ℕ → Option Interface
interface_named interfaces name = find (λ (i : Interface). bytes_eq i.name.text name) interfaces

-- how many texts stand before the first that is this one; all of them where none is
abbrev pub place_in : List (List ℕ) → List ℕ → ℕ
place_in [] text = zero
place_in (t ∷ ts) text = if bytes_eq t text then zero else suc (place_in ts text)

-- ---- operations

-- an operation: its name, its request, its response where it has one, and what it throws
pub record Operation : Type 0 where
  pub name : Name
  pub request : TypeName
  pub response : Option TypeName
  pub throws : List Fault

-- an operation that answers
abbrev pub answering : RequestResponse → Operation
answering o = record { name = o.name; request = o.request; response = Some o.response; throws = o.throws }

-- an operation that does not
abbrev pub silent : OneWay → Operation
silent o = record { name = o.name; request = o.request; response = None; throws = [] }

-- the operations after one word
abbrev pub group_operations : OperationGroup → List Operation
group_operations (group.RequestResponse at operations) = map answering operations
group_operations (group.OneWay at operations) = map silent operations

-- the operations of an interface in order
abbrev pub operations_in : Interface → List Operation
operations_in i = flat_map group_operations i.groups

-- the operations of the interface of a name, none where it is not there
abbrev pub operations_named : List Interface → List ℕ → List Operation
operations_named interfaces name = unwrap_or (option_map operations_in (interface_named interfaces name)) []

-- the operations of the interfaces of some names, as they stand
abbrev pub operations_among : List Interface → List Name → List Operation
operations_among interfaces names = flat_map (λ (n : Name). operations_named interfaces n.text) names

-- the names of operations
abbrev pub texts_of : List Operation → List (List ℕ)
texts_of operations = map (λ (o : Operation). o.name.text) operations

-- each operation once by its name, where it first stands
abbrev pub each_once : List Operation → List Operation
each_once operations = once_after (λ (o : Operation). o.name.text) [] operations

-- the operation of a name
abbrev pub operation_named : List Operation → List ℕ → Option Operation
operation_named operations name = find (λ (o : Operation). bytes_eq o.name.text name) operations

-- the operations of a port, each once, in the order of its interfaces
abbrev pub port_operations : List Interface → Port → List Operation
port_operations interfaces port = each_once (operations_among interfaces port.interfaces)

-- ---- a service

-- a port with its direction
pub record Sided : Type 0 where
  pub input : Bool
  pub port : Port

-- a clause, if it is a port
abbrev pub port_in : Clause → Option Sided
port_in (clause.InputPort port) = Some (record { input = true; port = port })
port_in (clause.OutputPort port) = Some (record { input = false; port = port })
port_in _ = None

-- a clause, if it is an input port
abbrev pub input_port_in : Clause → Option Port
input_port_in (clause.InputPort port) = Some port
input_port_in _ = None

-- a clause, if it is an output port
abbrev pub output_port_in : Clause → Option Port
output_port_in (clause.OutputPort port) = Some port
output_port_in _ = None

-- a clause, if it is a correlation set
abbrev pub set_in : Clause → Option (List CorrelationVariable)
set_in (clause.CorrelationSet at variables) = Some variables
set_in _ = None

-- a clause, if it says how sessions are run
abbrev pub execution_in : Clause → Option Execution
execution_in (clause.Execution at execution) = Some execution
execution_in _ = None

-- a clause, if it is init
abbrev pub init_in : Clause → Option Block
init_in (clause.Init at body) = Some body
init_in _ = None

-- a clause, if it is main
abbrev pub main_in : Clause → Option Block
main_in (clause.Main at body) = Some body
main_in _ = None

-- the first of a list
abbrev pub first_there : {A : Type 0} → List A → Option A
first_there [] = None
first_there (a ∷ rest) = Some a

-- the input ports of a service in order
abbrev pub input_ports : Service → List Port
input_ports s = filter_map input_port_in s.clauses

-- the output ports of a service in order
abbrev pub output_ports : Service → List Port
output_ports s = filter_map output_port_in s.clauses

-- the correlation sets of a service in order
abbrev pub sets_of : Service → List (List CorrelationVariable)
sets_of s = filter_map set_in s.clauses

-- how the sessions of a service are run: one alone where nothing is said
abbrev pub execution_of : Service → Execution
execution_of s = unwrap_or (first_there (filter_map execution_in s.clauses)) Single

-- whether sessions run beside each other
abbrev pub is_concurrent : Execution → Bool
is_concurrent Concurrent = true
is_concurrent Single = false

-- the input operations of a service, each once, in the order of its ports and their interfaces
abbrev pub input_operations : List Interface → Service → List Operation
input_operations interfaces s = each_once (flat_map (λ p. operations_among interfaces p.interfaces) (input_ports s))

-- the variables of a set in order
abbrev pub set_names : List CorrelationVariable → List Name
set_names set = map (λ (v : CorrelationVariable). v.name) set

-- the variables of a service in order
abbrev pub variables_of : Service → List Name
variables_of s = flat_map set_names (sets_of s)

-- ---- the body of a type

-- the body of a type: fields alone have the root void
abbrev pub body_of : DefinedType → TypeBody
body_of (defined.Body body) = body
body_of (defined.Fields fields) = roll-TypeBody (TypeBody-F.Root 0 root.Void (Some fields))

-- the name that a type is, if it is one
abbrev pub name_in : TypeBody-F TypeBody Field → Option (List ℕ)
name_in (TypeBody-F.Named n) = Some n.text
name_in _ = None
