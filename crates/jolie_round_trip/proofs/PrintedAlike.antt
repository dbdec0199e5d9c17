-- Files that are the same but for places are printed as the same text.
use Rattle.std.proofs.Common.{◌≡◌, ℕ, List, [], ◌∷◌, ◌++◌, map, Option, Some, None, refl, sym, ap, ◌∙◌, codes}
use Rattle.std.specs.Prelude.{option_map}
use Rattle.std.specs.Option.{option_map_or}
use Rattle.std.specs.List.{flat_map}
use Rattle.jolie_ast.specs.declared.name.Name.{Name}
use Rattle.jolie_ast.specs.declared.interface.TypeName.{TypeName}
use Rattle.jolie_ast.specs.declared.interface.TypeName.TheVariants as type_name
use Rattle.jolie_ast.specs.declared.interface.Fault.{Fault}
use Rattle.jolie_ast.specs.declared.interface.RequestResponse.{RequestResponse}
use Rattle.jolie_ast.specs.declared.interface.OneWay.{OneWay}
use Rattle.jolie_ast.specs.declared.interface.OperationGroup.{OperationGroup}
use Rattle.jolie_ast.specs.declared.interface.OperationGroup.TheVariants as group
use Rattle.jolie_ast.specs.declared.interface.Interface.{Interface}
use Rattle.jolie_ast.specs.declared.service.Port.{Port}
use Rattle.jolie_ast.specs.declared.service.Alias.{Alias}
use Rattle.jolie_ast.specs.declared.service.CorrelationVariable.{CorrelationVariable}
use Rattle.jolie_ast.specs.declared.service.Clause.{Clause}
use Rattle.jolie_ast.specs.declared.service.Clause.TheVariants as clause
use Rattle.jolie_ast.specs.declared.service.Service.{Service}
use Rattle.jolie_ast.specs.declared.tree.Definition.{Definition}
use Rattle.jolie_ast.specs.declared.tree.Definition.TheVariants as definition
use Rattle.jolie_ast.specs.Spacing.{text_of}
use Rattle.jolie_ast.specs.PrintedExpressions.{in_braces, in_parens, name_tokens}
use Rattle.jolie_ast.specs.Printed.{type_name_token, fault_tokens, throws_tokens, request_response_tokens, one_way_tokens, group_tokens, interface_tokens, protocol_tokens, port_tokens, alias_tokens, variable_tokens, clause_tokens, service_tokens, definition_tokens, printed_text}
use Rattle.jolie_round_trip.specs.Placeless.{name_placeless, type_name_placeless, fault_placeless, request_response_placeless, one_way_placeless, group_placeless, interface_placeless, port_placeless, alias_placeless, variable_placeless, clause_placeless, service_placeless, definition_placeless}
use Rattle.jolie_round_trip.specs.ReadsBack.{Same}
use Rattle.jolie_round_trip.proofs.ProcessesAlike.{block_alike}
use Rattle.jolie_round_trip.proofs.TypesAlike.{type_alike}
use Rattle.jolie_round_trip.proofs.ListsAlike.{lists_alike, separated_alike}

-- ---- interfaces

type_name_alike : (t : TypeName) → type_name_token (type_name_placeless t) ≡ type_name_token t
type_name_alike (type_name.Root at kind) = refl
type_name_alike (type_name.Named name) = refl
type_name_alike (type_name.Undefined at) = refl

-- the type of a fault's data in parentheses, if one is written
abbrev data_tokens : Option TypeName → List (List ℕ)
data_tokens ty = option_map_or (λ t. in_parens (type_name_token t ∷ [])) ty []

fault_data_alike : (ty : Option TypeName) → data_tokens (option_map type_name_placeless ty) ≡ data_tokens ty
fault_data_alike None = refl
fault_data_alike (Some ty) = ap (λ t. in_parens (t ∷ [])) (type_name_alike ty)

fault_alike : (f : Fault) → fault_tokens (fault_placeless f) ≡ fault_tokens f
fault_alike f = ap (λ ts. f.name.text ∷ ts) (fault_data_alike f.ty)

throws_alike : (fs : List Fault) → throws_tokens (map fault_placeless fs) ≡ throws_tokens fs
throws_alike [] = refl
throws_alike (f ∷ fs) =
    ap (λ ts. codes "throws" ∷ (ts ++ flat_map fault_tokens (map fault_placeless fs))) (fault_alike f)
    ∙ ap (λ ts. codes "throws" ∷ (fault_tokens f ++ ts)) (lists_alike fault_placeless fault_tokens fault_alike fs)

request_response_alike : (o : RequestResponse) → request_response_tokens (request_response_placeless o) ≡ request_response_tokens o
request_response_alike o =
    ap (λ t. o.name.text ∷ (in_parens (t ∷ []) ++ in_parens (type_name_token (type_name_placeless o.response) ∷ []) ++ throws_tokens (map fault_placeless o.throws))) (type_name_alike o.request)
    ∙ ap (λ t. o.name.text ∷ (in_parens (type_name_token o.request ∷ []) ++ in_parens (t ∷ []) ++ throws_tokens (map fault_placeless o.throws))) (type_name_alike o.response)
    ∙ ap (λ ts. o.name.text ∷ (in_parens (type_name_token o.request ∷ []) ++ in_parens (type_name_token o.response ∷ []) ++ ts)) (throws_alike o.throws)

one_way_alike : (o : OneWay) → one_way_tokens (one_way_placeless o) ≡ one_way_tokens o
one_way_alike o = ap (λ t. o.name.text ∷ in_parens (t ∷ [])) (type_name_alike o.request)

group_alike : (g : OperationGroup) → group_tokens (group_placeless g) ≡ group_tokens g
group_alike (group.RequestResponse at operations) =
    ap (λ ts. codes "RequestResponse" ∷ (codes ":" ∷ ts)) (separated_alike (codes ",") request_response_placeless request_response_tokens request_response_alike operations)
group_alike (group.OneWay at operations) = ap (λ ts. codes "OneWay" ∷ (codes ":" ∷ ts)) (separated_alike (codes ",") one_way_placeless one_way_tokens one_way_alike operations)

interface_alike : (i : Interface) → interface_tokens (interface_placeless i) ≡ interface_tokens i
interface_alike i = ap (λ ts. codes "interface" ∷ (i.name.text ∷ in_braces ts)) (lists_alike group_placeless group_tokens group_alike i.groups)

-- ---- services

protocol_alike : (protocol : Option Name) → protocol_tokens (option_map name_placeless protocol) ≡ protocol_tokens protocol
protocol_alike None = refl
protocol_alike (Some name) = refl

port_alike : (p : Port) → port_tokens (port_placeless p) ≡ port_tokens p
port_alike p = rw (protocol_alike p.protocol, separated_alike (codes ",") name_placeless name_tokens (λ name. refl) p.interfaces) refl

alias_alike : (a : Alias) → alias_tokens (alias_placeless a) ≡ alias_tokens a
alias_alike a = ap (λ ts. a.ty.text ∷ (codes "." ∷ (a.first.text ∷ ts))) (lists_alike name_placeless (λ name. codes "." ∷ name_tokens name) (λ name. refl) a.rest)

variable_alike : (v : CorrelationVariable) → variable_tokens (variable_placeless v) ≡ variable_tokens v
variable_alike v = ap (λ ts. v.name.text ∷ (codes ":" ∷ ts)) (lists_alike alias_placeless alias_tokens alias_alike v.aliases)

clause_alike : (c : Clause) → clause_tokens (clause_placeless c) ≡ clause_tokens c
clause_alike (clause.Execution at execution) = refl
clause_alike (clause.InputPort port) = ap (λ ts. codes "inputPort" ∷ ts) (port_alike port)
clause_alike (clause.OutputPort port) = ap (λ ts. codes "outputPort" ∷ ts) (port_alike port)
clause_alike (clause.CorrelationSet at variables) = ap (λ ts. codes "cset" ∷ in_braces ts) (separated_alike (codes ",") variable_placeless variable_tokens variable_alike variables)
clause_alike (clause.Init at body) = ap (λ ts. codes "init" ∷ ts) (block_alike body)
clause_alike (clause.Main at body) = ap (λ ts. codes "main" ∷ ts) (block_alike body)

service_alike : (s : Service) → service_tokens (service_placeless s) ≡ service_tokens s
service_alike s = ap (λ ts. codes "service" ∷ (s.name.text ∷ in_braces ts)) (lists_alike clause_placeless clause_tokens clause_alike s.clauses)

-- ---- files

definition_alike : (d : Definition) → definition_tokens (definition_placeless d) ≡ definition_tokens d
definition_alike (definition.Type t) = type_alike t
definition_alike (definition.Interface i) = interface_alike i
definition_alike (definition.Service s) = service_alike s

pub printed_alike : (f g : List Definition) → Same g f → printed_text g ≡ printed_text f
printed_alike f g same =
    ap text_of
    (sym (lists_alike definition_placeless definition_tokens definition_alike g)
    ∙ ap (flat_map definition_tokens) same
    ∙ lists_alike definition_placeless definition_tokens definition_alike f)
