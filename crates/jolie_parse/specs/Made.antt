-- These definitions serve the proofs alone: no promise speaks of them.
-- Names of what some productions mean.
use Rattle.std.specs.Prelude.{List, [], map, Option, unwrap_or}
use Rattle.jolie_ast.specs.declared.expression.Expr.{Expr}
use Rattle.jolie_ast.specs.declared.expression.ExprForm.TheVariants as form
use Rattle.jolie_ast.specs.declared.expression.Path.{Path}
use Rattle.jolie_ast.specs.declared.process.Block.{Block}
use Rattle.jolie_ast.specs.declared.process.Reply.{Reply, roll-Reply}
use Rattle.jolie_ast.specs.declared.process.Answer.{Answer, roll-Answer}
use Rattle.jolie_ast.specs.declared.process.Handler.{Handler}
use Rattle.jolie_ast.specs.declared.types.TypeBody.{TypeBody}
use Rattle.jolie_ast.specs.declared.types.Field.{Field, roll-Field}
use Rattle.jolie_ast.specs.declared.types.Cardinality.{Cardinality}
use Rattle.jolie_ast.specs.declared.interface.TypeName.{TypeName}
use Rattle.jolie_ast.specs.declared.interface.Fault.{Fault}
use Rattle.jolie_ast.specs.declared.interface.RequestResponse.{RequestResponse}
use Rattle.jolie_ast.specs.declared.interface.OneWay.{OneWay}
use Rattle.jolie_ast.specs.declared.interface.OperationGroup.{OperationGroup}
use Rattle.jolie_ast.specs.declared.interface.Interface.{Interface}
use Rattle.jolie_ast.specs.declared.service.Alias.{Alias}
use Rattle.jolie_ast.specs.declared.service.CorrelationVariable.{CorrelationVariable}
use Rattle.jolie_parse.specs.Classes.{Spelled, place}
use Rattle.jolie_parse.specs.Meanings.{name_of, expression, path_start}

-- the members that may be written, none where they are not
abbrev pub list_of : {A : Type 0} → Option (List A) → List A
list_of written = unwrap_or written []

-- a path as an expression
abbrev pub path_expression : Path → Expr
path_expression p = expression (path_start p) (form.Path p)

-- a reply part of its path and body
abbrev pub reply_of : Option Path × Block → Reply
reply_of q = roll-Reply (record { path = q.0; body = q.1 })

-- what an output awaits
abbrev pub answer_of : Option Path × Option (List Handler) → Answer
answer_of q = roll-Answer (record { path = q.0; handlers = q.1 })

-- a field of its name, cardinality and type
abbrev pub field_of : Spelled → Option Cardinality → TypeBody → Field
field_of t count ty = roll-Field (record { name = name_of t; cardinality = count; body = ty })

-- a fault of its name and type
abbrev pub fault_of : Spelled × Option TypeName → Fault
fault_of q = record { name = name_of q.0; ty = q.1 }

-- a request-response operation of its name, types and faults
abbrev pub request_response_of : Spelled → TypeName → TypeName → Option (List Fault) → RequestResponse
request_response_of t request response throws =
    record { name = name_of t; request = request; response = response; throws = unwrap_or throws [] }

-- a one-way operation of its name and type
abbrev pub one_way_of : Spelled × TypeName → OneWay
one_way_of q = record { name = name_of q.0; request = q.1 }

-- an interface of its name and operations, at its word
abbrev pub interface_of : Spelled → Spelled → List OperationGroup → Interface
interface_of t name groups = record { at = place t; name = name_of name; groups = groups }

-- an alias of its type, the first field and the further ones
abbrev pub alias_of : Spelled → Spelled → List Spelled → Alias
alias_of ty field more = record { ty = name_of ty; first = name_of field; rest = map name_of more }

-- a correlation variable of its name and aliases
abbrev pub variable_of : Spelled → List Alias → CorrelationVariable
variable_of t aliases = record { name = name_of t; aliases = aliases }
