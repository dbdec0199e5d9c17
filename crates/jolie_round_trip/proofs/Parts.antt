-- What is kept of each part and how it is printed.
use Rattle.std.proofs.Common.{List, [], ◌∷◌, ◌++◌, map, Option, codes}
use Rattle.std.specs.Prelude.{option_map, flat_map}
use Rattle.jolie_ast.specs.declared.expression.Expr.{Expr}
use Rattle.jolie_ast.specs.declared.name.Name.{Name}
use Rattle.jolie_ast.specs.declared.name.Quoted.{Quoted}
use Rattle.jolie_ast.specs.declared.types.Cardinality.{Cardinality}
use Rattle.jolie_ast.specs.declared.types.Cardinality.TheVariants as cardinality
use Rattle.jolie_ast.specs.Spacing.{Token, separated}
use Rattle.jolie_ast.specs.PrintedExpressions.{in_parens, name_tokens, quoted_token, expr_tokens, operand_tokens, path_tokens, member_tokens}
use Rattle.jolie_ast.specs.PrintedParts.{maybe, int_token}
use Rattle.jolie_ast.specs.PrintedProcesses.{for_step_tokens, thrown_tokens, process_tokens, block_tokens, otherwise_tokens, input_tokens, handler_tokens}
use Rattle.jolie_ast.specs.Printed.{type_name_token, most_token, field_tokens, group_tokens, protocol_tokens, variable_tokens, clause_tokens}
use Rattle.jolie_parse.specs.declared.simple.ForParts.{ForParts}
use Rattle.jolie_parse.specs.declared.process.IfParts.{IfParts}
use Rattle.jolie_parse.specs.Classes.{Spelled}
use Rattle.jolie_parse.specs.Syntax.{Part, an_expression, an_operand, a_path, maybe_path, maybe_expression, a_body, some_handlers, a_name, an_input, an_else_if, for_parts, throw_parts, some_members, a_type_name, some_bounds, some_fields, some_operations, port_parts, some_variables, some_clauses, Meant, Lang}
use Rattle.jolie_parse.specs.Grammar.{production, expr, unary}
use Rattle.jolie_round_trip.specs.Placeless.{name_placeless, quoted_placeless, expr_placeless, member_placeless, path_placeless, for_step_placeless, process_placeless, block_placeless, otherwise_placeless, input_placeless, handler_placeless, type_name_placeless, field_placeless, group_placeless, variable_placeless, clause_placeless}
use Rattle.jolie_round_trip.proofs.Lexemes.{Every, IsValid}
use Rattle.jolie_round_trip.proofs.Echo.{Echo}

-- what is in the parentheses of a `for`, without its places
abbrev pub for_parts_placeless : ForParts → ForParts
for_parts_placeless q =
    record { path = path_placeless q.path; first = expr_placeless q.first; test = expr_placeless q.test; stepped = path_placeless q.stepped; step = for_step_placeless q.step }

-- what is behind an `if`, without its places
abbrev pub if_parts_placeless : IfParts → IfParts
if_parts_placeless q = record { test = expr_placeless q.test; body = block_placeless q.body; otherwise = otherwise_placeless q.otherwise }

-- what a `throw` names, without its places
abbrev pub throw_parts_placeless : Name × Option Expr → Name × Option Expr
throw_parts_placeless q = (name_placeless q.0, option_map expr_placeless q.1)

-- the parts of a port, without their places
abbrev pub port_parts_placeless : Quoted × Option Name × List Name → Quoted × Option Name × List Name
port_parts_placeless q = (quoted_placeless q.0, option_map name_placeless q.1, map name_placeless q.2)

-- a part without its places
abbrev pub part_placeless : (r : Part) → Meant r → Meant r
part_placeless an_expression = expr_placeless
part_placeless an_operand = expr_placeless
part_placeless a_path = path_placeless
part_placeless maybe_path = option_map path_placeless
part_placeless maybe_expression = option_map expr_placeless
part_placeless a_body = option_map process_placeless
part_placeless some_handlers = map handler_placeless
part_placeless a_name = name_placeless
part_placeless an_input = input_placeless
part_placeless an_else_if = if_parts_placeless
part_placeless for_parts = for_parts_placeless
part_placeless throw_parts = throw_parts_placeless
part_placeless some_members = map member_placeless
part_placeless a_type_name = type_name_placeless
part_placeless some_bounds = λ bounds. bounds
part_placeless some_fields = map field_placeless
part_placeless some_operations = map group_placeless
part_placeless port_parts = port_parts_placeless
part_placeless some_variables = map variable_placeless
part_placeless some_clauses = map clause_placeless

-- the tokens in the parentheses of a `for`
abbrev pub for_parts_tokens : ForParts → List Token
for_parts_tokens q = path_tokens q.path ++ codes "=" ∷ (expr_tokens q.first ++ codes "," ∷ (expr_tokens q.test ++ codes "," ∷ (path_tokens q.stepped ++ for_step_tokens q.step)))

-- the tokens behind an `if`
abbrev pub if_parts_tokens : IfParts → List Token
if_parts_tokens q = in_parens (expr_tokens q.test) ++ block_tokens q.body ++ otherwise_tokens q.otherwise

-- the tokens of bounds
abbrev pub bounds_tokens : Cardinality → List Token
bounds_tokens cardinality.Optional = []
bounds_tokens cardinality.Any = []
bounds_tokens (cardinality.Between least most) = int_token least ∷ (codes "," ∷ (most_token most ∷ []))

-- the tokens of the parts of a port
abbrev pub port_parts_tokens : Quoted × Option Name × List Name → List Token
port_parts_tokens q =
    codes "location" ∷ (codes ":" ∷ (quoted_token q.0.text ∷ (protocol_tokens q.1 ++ codes "interfaces" ∷ (codes ":" ∷ separated (codes ",") name_tokens q.2))))

-- the tokens of a part
abbrev pub part_tokens : (r : Part) → Meant r → List Token
part_tokens an_expression v = expr_tokens v
part_tokens an_operand v = operand_tokens v
part_tokens a_path v = path_tokens v
part_tokens maybe_path v = maybe (option_map path_tokens v)
part_tokens maybe_expression v = maybe (option_map expr_tokens v)
part_tokens a_body v = maybe (option_map process_tokens v)
part_tokens some_handlers v = separated (codes ",") handler_tokens v
part_tokens a_name v = name_tokens v
part_tokens an_input v = input_tokens v
part_tokens an_else_if v = if_parts_tokens v
part_tokens for_parts v = for_parts_tokens v
part_tokens throw_parts v = v.0.text ∷ thrown_tokens v.1
part_tokens some_members v = separated (codes ",") member_tokens v
part_tokens a_type_name v = type_name_token v ∷ []
part_tokens some_bounds v = bounds_tokens v
part_tokens some_fields v = flat_map field_tokens v
part_tokens some_operations v = flat_map group_tokens v
part_tokens port_parts v = port_parts_tokens v
part_tokens some_variables v = separated (codes ",") variable_tokens v
part_tokens some_clauses v = flat_map clause_tokens v

-- an expression is read again where it stands alone and where it is an operand
pub record Printable (e : Expr) : Type 0 where
  pub alone : Echo expr_placeless expr e (expr_tokens e)
  pub as_operand : Echo expr_placeless unary e (operand_tokens e)

-- a part is read again
abbrev pub Echoed : (r : Part) → Meant r → Type 0
Echoed an_expression v = Printable v
Echoed an_operand v = Printable v
Echoed r v = Echo (part_placeless r) (production r) v (part_tokens r v)

-- every part is
abbrev pub Inner : ((r : Part) → Lang (Meant r)) → Type 0
Inner w = (r : Part) (ts : List Spelled) (v : Meant r) → w r ts v → Every IsValid ts → Echoed r v

pub part_echo : (r : Part) (v : Meant r) → Echoed r v → Echo (part_placeless r) (production r) v (part_tokens r v)
part_echo an_expression v h = h.alone
part_echo an_operand v h = h.as_operand
part_echo r v h = h
