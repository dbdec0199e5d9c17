-- The printed form of a file.
use Rattle.std.specs.Prelude.{ℕ, ℤ, List, [], ◌∷◌, ◌++◌, flat_map, Option, codes}
use Rattle.std.specs.Fmt.{signed_decimal}
use Rattle.std.specs.Option.{option_map_or}
use Rattle.jolie_ast.specs.declared.name.Name.{Name}
use Rattle.jolie_ast.specs.declared.types.TypeDefinition.{TypeDefinition}
use Rattle.jolie_ast.specs.declared.types.DefinedType.{DefinedType}
use Rattle.jolie_ast.specs.declared.types.DefinedType.TheVariants as defined
use Rattle.jolie_ast.specs.declared.types.RootKind.{RootKind}
use Rattle.jolie_ast.specs.declared.types.RootKind.TheVariants as root
use Rattle.jolie_ast.specs.declared.types.Cardinality.{Cardinality}
use Rattle.jolie_ast.specs.declared.types.Cardinality.TheVariants as cardinality
use Rattle.jolie_ast.specs.declared.types.TypeBody.{TypeBody}
use Rattle.jolie_ast.specs.declared.types.Field.{Field}
use Rattle.jolie_ast.specs.declared.types.TypeBody.TheOpen.{TypeBody-F, Field-F}
use Rattle.jolie_ast.specs.declared.types.TypeBody.TheFolds.{fold-TypeBody, fold-Field}
use Rattle.jolie_ast.specs.declared.interface.TypeName.{TypeName}
use Rattle.jolie_ast.specs.declared.interface.TypeName.TheVariants as type_name
use Rattle.jolie_ast.specs.declared.interface.Fault.{Fault}
use Rattle.jolie_ast.specs.declared.interface.RequestResponse.{RequestResponse}
use Rattle.jolie_ast.specs.declared.interface.OneWay.{OneWay}
use Rattle.jolie_ast.specs.declared.interface.OperationGroup.{OperationGroup}
use Rattle.jolie_ast.specs.declared.interface.OperationGroup.TheVariants as group
use Rattle.jolie_ast.specs.declared.interface.Interface.{Interface}
use Rattle.jolie_ast.specs.declared.service.Execution.{Execution}
use Rattle.jolie_ast.specs.declared.service.Execution.TheVariants as execution
use Rattle.jolie_ast.specs.declared.service.Port.{Port}
use Rattle.jolie_ast.specs.declared.service.Alias.{Alias}
use Rattle.jolie_ast.specs.declared.service.CorrelationVariable.{CorrelationVariable}
use Rattle.jolie_ast.specs.declared.service.Clause.{Clause}
use Rattle.jolie_ast.specs.declared.service.Clause.TheVariants as clause
use Rattle.jolie_ast.specs.declared.service.Service.{Service}
use Rattle.jolie_ast.specs.declared.tree.Definition.{Definition}
use Rattle.jolie_ast.specs.declared.tree.Definition.TheVariants as definition
use Rattle.jolie_ast.specs.Spacing.{Token, Tokens, separated, text_of}
use Rattle.jolie_ast.specs.PrintedExpressions.{in_parens, in_brackets, in_braces, quoted_token, name_tokens}
use Rattle.jolie_ast.specs.PrintedProcesses.{block_tokens}

-- ---- types

-- the word of a kind of root
abbrev pub root_token : RootKind → Token
root_token root.Void = codes "void"
root_token root.Bool = codes "bool"
root_token root.Int = codes "int"
root_token root.Long = codes "long"
root_token root.Str = codes "string"
root_token root.Any = codes "any"

-- the most of a cardinality: an int, or `*` where there is none
abbrev pub most_token : Option ℤ → Token
most_token most = option_map_or signed_decimal most (codes "*")

-- how often a field may stand
abbrev pub cardinality_tokens : Cardinality → Tokens
cardinality_tokens cardinality.Optional = codes "?" ∷ []
cardinality_tokens cardinality.Any = codes "*" ∷ []
cardinality_tokens (cardinality.Between least most) =
    in_brackets (signed_decimal least ∷ (codes "," ∷ (most_token most ∷ [])))

-- one level of what a type is: a kind with fields in braces, if braces are written, a name, or anything
abbrev pub body_level : TypeBody-F Tokens Tokens → Tokens
body_level (TypeBody-F.Root at kind fields) =
    root_token kind ∷ option_map_or (λ written. in_braces (flat_map (λ ts. ts) written)) fields []
body_level (TypeBody-F.Named name) = name.text ∷ []
body_level (TypeBody-F.Undefined at) = codes "undefined" ∷ []

-- one level of a field: its name, how often it may stand, if that is written, and its type
abbrev pub field_level : Field-F Tokens Tokens → Tokens
field_level f = f.name.text ∷ (option_map_or cardinality_tokens f.cardinality [] ++ codes ":" ∷ f.body)

-- the tokens of what a type is
unfoldable pub body_tokens : TypeBody → Tokens
body_tokens = fold-TypeBody Tokens Tokens body_level field_level

-- the tokens of a field
unfoldable pub field_tokens : Field → Tokens
field_tokens = fold-Field Tokens Tokens body_level field_level

-- what stands behind the name that is defined
abbrev pub defined_tokens : DefinedType → Tokens
defined_tokens (defined.Body body) = codes ":" ∷ body_tokens body
defined_tokens (defined.Fields fields) = in_braces (flat_map field_tokens fields)

-- the tokens of a type definition
abbrev pub type_tokens : TypeDefinition → Tokens
type_tokens t = codes "type" ∷ (t.name.text ∷ defined_tokens t.body)

-- ---- interfaces

-- a type that an operation names
abbrev pub type_name_token : TypeName → Token
type_name_token (type_name.Root at kind) = root_token kind
type_name_token (type_name.Named name) = name.text
type_name_token (type_name.Undefined at) = codes "undefined"

-- a fault that `throws` names, with the type of its data in parentheses, if one is written
abbrev pub fault_tokens : Fault → Tokens
fault_tokens f = f.name.text ∷ option_map_or (λ ty. in_parens (type_name_token ty ∷ [])) f.ty []

-- the faults behind `throws`, if there are any
abbrev pub throws_tokens : List Fault → Tokens
throws_tokens [] = []
throws_tokens (f ∷ fs) = codes "throws" ∷ (fault_tokens f ++ flat_map fault_tokens fs)

-- a request-response operation
abbrev pub request_response_tokens : RequestResponse → Tokens
request_response_tokens o =
    o.name.text
    ∷ (in_parens (type_name_token o.request ∷ []) ++ in_parens (type_name_token o.response ∷ [])
    ++ throws_tokens o.throws)

-- a one-way operation
abbrev pub one_way_tokens : OneWay → Tokens
one_way_tokens o = o.name.text ∷ in_parens (type_name_token o.request ∷ [])

-- operations behind one word
abbrev pub group_tokens : OperationGroup → Tokens
group_tokens (group.RequestResponse at operations) =
    codes "RequestResponse" ∷ (codes ":" ∷ separated (codes ",") request_response_tokens operations)
group_tokens (group.OneWay at operations) =
    codes "OneWay" ∷ (codes ":" ∷ separated (codes ",") one_way_tokens operations)

-- an interface
abbrev pub interface_tokens : Interface → Tokens
interface_tokens i = codes "interface" ∷ (i.name.text ∷ in_braces (flat_map group_tokens i.groups))

-- ---- services

-- how a service runs its sessions
abbrev pub execution_token : Execution → Token
execution_token execution.Concurrent = codes "concurrent"
execution_token execution.Single = codes "single"

-- the protocol of a port, if one is written
abbrev pub protocol_tokens : Option Name → Tokens
protocol_tokens protocol =
    option_map_or (λ (name : Name). codes "protocol" ∷ (codes ":" ∷ (name.text ∷ []))) protocol []

-- a port behind its first word
abbrev pub port_tokens : Port → Tokens
port_tokens p =
    p.name.text
    ∷ in_braces (codes "location" ∷ (codes ":" ∷ (quoted_token p.location.text
    ∷ (protocol_tokens p.protocol ++ codes "interfaces"
    ∷ (codes ":" ∷ separated (codes ",") name_tokens p.interfaces)))))

-- a type and the fields that lead to a variable's value in it
abbrev pub alias_tokens : Alias → Tokens
alias_tokens a = a.ty.text ∷ (codes "." ∷ (a.first.text ∷ flat_map (λ name. codes "." ∷ name_tokens name) a.rest))

-- a variable of a `cset`
abbrev pub variable_tokens : CorrelationVariable → Tokens
variable_tokens v = v.name.text ∷ (codes ":" ∷ flat_map alias_tokens v.aliases)

-- a clause of a service
abbrev pub clause_tokens : Clause → Tokens
clause_tokens (clause.Execution at execution) = codes "execution" ∷ (codes ":" ∷ (execution_token execution ∷ []))
clause_tokens (clause.InputPort port) = codes "inputPort" ∷ port_tokens port
clause_tokens (clause.OutputPort port) = codes "outputPort" ∷ port_tokens port
clause_tokens (clause.CorrelationSet at variables) =
    codes "cset" ∷ in_braces (separated (codes ",") variable_tokens variables)
clause_tokens (clause.Init at body) = codes "init" ∷ block_tokens body
clause_tokens (clause.Main at body) = codes "main" ∷ block_tokens body

-- a service
abbrev pub service_tokens : Service → Tokens
service_tokens s = codes "service" ∷ (s.name.text ∷ in_braces (flat_map clause_tokens s.clauses))

-- ---- files

-- a definition
abbrev pub definition_tokens : Definition → Tokens
definition_tokens (definition.Type t) = type_tokens t
definition_tokens (definition.Interface i) = interface_tokens i
definition_tokens (definition.Service s) = service_tokens s

-- the printed form of a file: its tokens with one space between every two, and a line feed
abbrev pub printed_text : List Definition → List ℕ
printed_text definitions = text_of (flat_map definition_tokens definitions)
