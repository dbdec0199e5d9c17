-- A file without its places: each place is 0.
use Rattle.std.specs.Prelude.{map, option_map}
use Rattle.jolie_ast.specs.declared.name.Name.{Name}
use Rattle.jolie_ast.specs.declared.name.Quoted.{Quoted}
use Rattle.jolie_ast.specs.declared.expression.ExprForm.TheOpen.{Expr-F, ExprForm-F, Factor-F}
use Rattle.jolie_ast.specs.declared.expression.ExprForm.TheOpen.{Member-F, Path-F, Step-F, Term-F}
use Rattle.jolie_ast.specs.declared.expression.ExprForm.TheFolds.{fold-Expr, fold-ExprForm, fold-Factor}
use Rattle.jolie_ast.specs.declared.expression.ExprForm.TheFolds.{fold-Member, fold-Path, fold-Step, fold-Term}
use Rattle.jolie_ast.specs.declared.expression.Expr.{Expr, roll-Expr}
use Rattle.jolie_ast.specs.declared.expression.ExprForm.{ExprForm, roll-ExprForm}
use Rattle.jolie_ast.specs.declared.expression.Factor.{Factor, roll-Factor}
use Rattle.jolie_ast.specs.declared.expression.Term.{Term, roll-Term}
use Rattle.jolie_ast.specs.declared.expression.Member.{Member, roll-Member}
use Rattle.jolie_ast.specs.declared.expression.Path.{Path, roll-Path}
use Rattle.jolie_ast.specs.declared.expression.Step.{Step, roll-Step}
use Rattle.jolie_ast.specs.declared.process.Assignment.{Assignment}
use Rattle.jolie_ast.specs.declared.process.Assignment.TheVariants as assignment
use Rattle.jolie_ast.specs.declared.process.ForStep.{ForStep}
use Rattle.jolie_ast.specs.declared.process.ForStep.TheVariants as for_step
use Rattle.jolie_ast.specs.declared.process.HandlerKey.{HandlerKey}
use Rattle.jolie_ast.specs.declared.process.HandlerKey.TheVariants as key
use Rattle.jolie_ast.specs.declared.process.Otherwise.TheOpen.{Answer-F, Block-F, Branch-F, Handler-F, If-F}
use Rattle.jolie_ast.specs.declared.process.Otherwise.TheOpen.{Input-F, Otherwise-F, Process-F, Reply-F}
use Rattle.jolie_ast.specs.declared.process.Otherwise.TheFolds.{fold-Answer, fold-Block, fold-Branch}
use Rattle.jolie_ast.specs.declared.process.Otherwise.TheFolds.{fold-Handler, fold-If, fold-Input}
use Rattle.jolie_ast.specs.declared.process.Otherwise.TheFolds.{fold-Otherwise, fold-Process, fold-Reply}
use Rattle.jolie_ast.specs.declared.process.Process.{Process}
use Rattle.jolie_ast.specs.declared.process.Process.TheVariants as process
use Rattle.jolie_ast.specs.declared.process.Block.{Block, roll-Block}
use Rattle.jolie_ast.specs.declared.process.If.{If, roll-If}
use Rattle.jolie_ast.specs.declared.process.Otherwise.{Otherwise, roll-Otherwise}
use Rattle.jolie_ast.specs.declared.process.Input.{Input, roll-Input}
use Rattle.jolie_ast.specs.declared.process.Reply.{Reply, roll-Reply}
use Rattle.jolie_ast.specs.declared.process.Branch.{Branch, roll-Branch}
use Rattle.jolie_ast.specs.declared.process.Answer.{Answer, roll-Answer}
use Rattle.jolie_ast.specs.declared.process.Handler.{Handler, roll-Handler}
use Rattle.jolie_ast.specs.declared.types.TypeBody.{TypeBody}
use Rattle.jolie_ast.specs.declared.types.TypeBody.TheVariants as body
use Rattle.jolie_ast.specs.declared.types.Field.{Field, roll-Field}
use Rattle.jolie_ast.specs.declared.types.TypeBody.TheOpen.{TypeBody-F, Field-F}
use Rattle.jolie_ast.specs.declared.types.TypeBody.TheFolds.{fold-TypeBody, fold-Field}
use Rattle.jolie_ast.specs.declared.types.DefinedType.{DefinedType}
use Rattle.jolie_ast.specs.declared.types.DefinedType.TheVariants as defined
use Rattle.jolie_ast.specs.declared.types.TypeDefinition.{TypeDefinition}
use Rattle.jolie_ast.specs.declared.interface.TypeName.{TypeName}
use Rattle.jolie_ast.specs.declared.interface.TypeName.TheVariants as type_name
use Rattle.jolie_ast.specs.declared.interface.Fault.{Fault}
use Rattle.jolie_ast.specs.declared.interface.RequestResponse.{RequestResponse}
use Rattle.jolie_ast.specs.declared.interface.OneWay.{OneWay}
use Rattle.jolie_ast.specs.declared.interface.OperationGroup.{OperationGroup}
use Rattle.jolie_ast.specs.declared.interface.OperationGroup.TheVariants as group
use Rattle.jolie_ast.specs.declared.interface.Interface.{Interface}
use Rattle.jolie_ast.specs.declared.service.Port.{Port}
use Rattle.jolie_ast.specs.declared.service.Alias.{Alias}
use Rattle.jolie_ast.specs.declared.service.CorrelationVariable.{CorrelationVariable}
use Rattle.jolie_ast.specs.declared.service.Clause.{Clause}
use Rattle.jolie_ast.specs.declared.service.Clause.TheVariants as clause
use Rattle.jolie_ast.specs.declared.service.Service.{Service}
use Rattle.jolie_ast.specs.declared.tree.Definition.{Definition}
use Rattle.jolie_ast.specs.declared.tree.Definition.TheVariants as definition

-- ---- names and strings

-- a name without its place
abbrev pub name_placeless : Name → Name
name_placeless name = record { text = name.text; at = 0 }

-- a string without its place
abbrev pub quoted_placeless : Quoted → Quoted
quoted_placeless string = record { text = string.text; at = 0 }

-- ---- expressions

-- one level of a form: it has no place of its own
abbrev pub form_level : ExprForm-F ExprForm Expr Factor Member Path Step Term → ExprForm
form_level form = roll-ExprForm form

-- one level of an expression
abbrev pub expr_level : Expr-F ExprForm Expr Factor Member Path Step Term → Expr
expr_level e = roll-Expr (record { at = 0; form = e.form })

-- one level of a later operand of a product
abbrev pub factor_level : Factor-F ExprForm Expr Factor Member Path Step Term → Factor
factor_level factor = roll-Factor factor

-- one level of a later operand of a sum
abbrev pub term_level : Term-F ExprForm Expr Factor Member Path Step Term → Term
term_level term = roll-Term term

-- one level of a member of a literal
abbrev pub member_level : Member-F ExprForm Expr Factor Member Path Step Term → Member
member_level m = roll-Member (record { name = name_placeless m.name; value = m.value })

-- one level of a path
abbrev pub path_level : Path-F ExprForm Expr Factor Member Path Step Term → Path
path_level path = roll-Path path

-- one level of a step of a path
abbrev pub step_level : Step-F ExprForm Expr Factor Member Path Step Term → Step
step_level s = roll-Step (record { name = name_placeless s.name; index = s.index })

-- a form without its places
unfoldable pub form_placeless : ExprForm → ExprForm
form_placeless =
    fold-ExprForm ExprForm Expr Factor Member Path Step Term
    form_level expr_level factor_level member_level path_level step_level term_level

-- an expression without its places
unfoldable pub expr_placeless : Expr → Expr
expr_placeless =
    fold-Expr ExprForm Expr Factor Member Path Step Term
    form_level expr_level factor_level member_level path_level step_level term_level

-- a later operand of a product without its places
unfoldable pub factor_placeless : Factor → Factor
factor_placeless =
    fold-Factor ExprForm Expr Factor Member Path Step Term
    form_level expr_level factor_level member_level path_level step_level term_level

-- a later operand of a sum without its places
unfoldable pub term_placeless : Term → Term
term_placeless =
    fold-Term ExprForm Expr Factor Member Path Step Term
    form_level expr_level factor_level member_level path_level step_level term_level

-- a member of a literal without its places
unfoldable pub member_placeless : Member → Member
member_placeless =
    fold-Member ExprForm Expr Factor Member Path Step Term
    form_level expr_level factor_level member_level path_level step_level term_level

-- a path without its places
unfoldable pub path_placeless : Path → Path
path_placeless =
    fold-Path ExprForm Expr Factor Member Path Step Term
    form_level expr_level factor_level member_level path_level step_level term_level

-- a step of a path without its places
unfoldable pub step_placeless : Step → Step
step_placeless =
    fold-Step ExprForm Expr Factor Member Path Step Term
    form_level expr_level factor_level member_level path_level step_level term_level

-- ---- processes

-- what is done to a path, without its places
abbrev pub assignment_placeless : Assignment → Assignment
assignment_placeless (assignment.Root value) = assignment.Root (expr_placeless value)
assignment_placeless (assignment.Copy value) = assignment.Copy (expr_placeless value)
assignment_placeless (assignment.Count count) = assignment.Count count

-- what the last part of a `for` does to its path, without its places
abbrev pub for_step_placeless : ForStep → ForStep
for_step_placeless (for_step.Root value) = for_step.Root (expr_placeless value)
for_step_placeless (for_step.Count count) = for_step.Count count

-- what a handler stands under, without its place
abbrev pub key_placeless : HandlerKey → HandlerKey
key_placeless (key.This at) = key.This 0
key_placeless (key.Named name) = key.Named (name_placeless name)

-- one level of a process
abbrev pub process_level : Process-F Otherwise Process Answer Block Branch Handler If Input Reply → Process
process_level (Process-F.«Process::Nothing» at) = process.Nothing 0
process_level (Process-F.Assign path assignment) =
    process.Assign (path_placeless path) (assignment_placeless assignment)
process_level (Process-F.Undef at path) = process.Undef 0 (path_placeless path)
process_level (Process-F.Correlate at variable value) =
    process.Correlate 0 (name_placeless variable) (expr_placeless value)
process_level (Process-F.If conditional) = process.If conditional
process_level (Process-F.While at test body) = process.While 0 (expr_placeless test) body
process_level (Process-F.For at path first test stepped step body) =
    process.For 0 (path_placeless path) (expr_placeless first) (expr_placeless test) (path_placeless stepped)
    (for_step_placeless step) body
process_level (Process-F.Input input) = process.Input input
process_level (Process-F.Choice at branches) = process.Choice 0 branches
process_level (Process-F.Output operation port value answer) =
    process.Output (name_placeless operation) (name_placeless port) (option_map expr_placeless value) answer
process_level (Process-F.Scope at name body) = process.Scope 0 (name_placeless name) body
process_level (Process-F.Install at handlers) = process.Install 0 handlers
process_level (Process-F.Throw at fault value) =
    process.Throw 0 (name_placeless fault) (option_map expr_placeless value)
process_level (Process-F.Compensate at scope) = process.Compensate 0 (name_placeless scope)
process_level (Process-F.InnerHandler at) = process.InnerHandler 0
process_level (Process-F.Block block) = process.Block block
process_level (Process-F.Sequence statements) = process.Sequence statements
process_level (Process-F.Parallel members) = process.Parallel members

-- one level of a block
abbrev pub block_level : Block-F Otherwise Process Answer Block Branch Handler If Input Reply → Block
block_level b = roll-Block (record { at = 0; body = b.body })

-- one level of an `if`
abbrev pub if_level : If-F Otherwise Process Answer Block Branch Handler If Input Reply → If
if_level i = roll-If (record { at = 0; test = expr_placeless i.test; body = i.body; otherwise = i.otherwise })

-- one level of what an `if` does where its test fails: it has no place of its own
abbrev pub otherwise_level : Otherwise-F Otherwise Process Answer Block Branch Handler If Input Reply → Otherwise
otherwise_level otherwise = roll-Otherwise otherwise

-- one level of an input
abbrev pub input_level : Input-F Otherwise Process Answer Block Branch Handler If Input Reply → Input
input_level i = roll-Input (record {
  operation = name_placeless i.operation;
  request = option_map path_placeless i.request;
  reply = i.reply;
})

-- one level of a reply part
abbrev pub reply_level : Reply-F Otherwise Process Answer Block Branch Handler If Input Reply → Reply
reply_level r = roll-Reply (record { path = option_map path_placeless r.path; body = r.body })

-- one level of a branch
abbrev pub branch_level : Branch-F Otherwise Process Answer Block Branch Handler If Input Reply → Branch
branch_level b = roll-Branch (record { at = 0; input = b.input; after = b.after })

-- one level of what an output awaits
abbrev pub answer_level : Answer-F Otherwise Process Answer Block Branch Handler If Input Reply → Answer
answer_level a = roll-Answer (record { path = option_map path_placeless a.path; handlers = a.handlers })

-- one level of a handler
abbrev pub handler_level : Handler-F Otherwise Process Answer Block Branch Handler If Input Reply → Handler
handler_level h = roll-Handler (record { key = key_placeless h.key; body = h.body })

-- a process without its places
unfoldable pub process_placeless : Process → Process
process_placeless =
    fold-Process Otherwise Process Answer Block Branch Handler If Input Reply
    otherwise_level process_level answer_level block_level branch_level handler_level if_level input_level reply_level

-- a block without its places
unfoldable pub block_placeless : Block → Block
block_placeless =
    fold-Block Otherwise Process Answer Block Branch Handler If Input Reply
    otherwise_level process_level answer_level block_level branch_level handler_level if_level input_level reply_level

-- an `if` without its places
unfoldable pub if_placeless : If → If
if_placeless =
    fold-If Otherwise Process Answer Block Branch Handler If Input Reply
    otherwise_level process_level answer_level block_level branch_level handler_level if_level input_level reply_level

-- what an `if` does where its test fails, without its places
unfoldable pub otherwise_placeless : Otherwise → Otherwise
otherwise_placeless =
    fold-Otherwise Otherwise Process Answer Block Branch Handler If Input Reply
    otherwise_level process_level answer_level block_level branch_level handler_level if_level input_level reply_level

-- an input without its places
unfoldable pub input_placeless : Input → Input
input_placeless =
    fold-Input Otherwise Process Answer Block Branch Handler If Input Reply
    otherwise_level process_level answer_level block_level branch_level handler_level if_level input_level reply_level

-- a reply part without its places
unfoldable pub reply_placeless : Reply → Reply
reply_placeless =
    fold-Reply Otherwise Process Answer Block Branch Handler If Input Reply
    otherwise_level process_level answer_level block_level branch_level handler_level if_level input_level reply_level

-- a branch without its places
unfoldable pub branch_placeless : Branch → Branch
branch_placeless =
    fold-Branch Otherwise Process Answer Block Branch Handler If Input Reply
    otherwise_level process_level answer_level block_level branch_level handler_level if_level input_level reply_level

-- what an output awaits, without its places
unfoldable pub answer_placeless : Answer → Answer
answer_placeless =
    fold-Answer Otherwise Process Answer Block Branch Handler If Input Reply
    otherwise_level process_level answer_level block_level branch_level handler_level if_level input_level reply_level

-- a handler without its places
unfoldable pub handler_placeless : Handler → Handler
handler_placeless =
    fold-Handler Otherwise Process Answer Block Branch Handler If Input Reply
    otherwise_level process_level answer_level block_level branch_level handler_level if_level input_level reply_level

-- ---- types

-- one level of what a type is
abbrev pub body_level : TypeBody-F TypeBody Field → TypeBody
body_level (TypeBody-F.Root at kind fields) = body.Root 0 kind fields
body_level (TypeBody-F.Named name) = body.Named (name_placeless name)
body_level (TypeBody-F.Undefined at) = body.Undefined 0

-- one level of a field
abbrev pub field_level : Field-F TypeBody Field → Field
field_level f = roll-Field (record { name = name_placeless f.name; cardinality = f.cardinality; body = f.body })

-- what a type is, without its places
unfoldable pub body_placeless : TypeBody → TypeBody
body_placeless = fold-TypeBody TypeBody Field body_level field_level

-- a field without its places
unfoldable pub field_placeless : Field → Field
field_placeless = fold-Field TypeBody Field body_level field_level

-- what stands after the name that is defined, without its places
abbrev pub defined_placeless : DefinedType → DefinedType
defined_placeless (defined.Body body) = defined.Body (body_placeless body)
defined_placeless (defined.Fields fields) = defined.Fields (map field_placeless fields)

-- a type definition without its places
abbrev pub type_placeless : TypeDefinition → TypeDefinition
type_placeless t = record { at = 0; name = name_placeless t.name; body = defined_placeless t.body }

-- ---- interfaces

-- a type that an operation names, without its place
abbrev pub type_name_placeless : TypeName → TypeName
type_name_placeless (type_name.Root at kind) = type_name.Root 0 kind
type_name_placeless (type_name.Named name) = type_name.Named (name_placeless name)
type_name_placeless (type_name.Undefined at) = type_name.Undefined 0

-- a fault that `throws` names, without its places
abbrev pub fault_placeless : Fault → Fault
fault_placeless f = record { name = name_placeless f.name; ty = option_map type_name_placeless f.ty }

-- a request-response operation without its places
abbrev pub request_response_placeless : RequestResponse → RequestResponse
request_response_placeless o =
    record {
      name = name_placeless o.name;
      request = type_name_placeless o.request;
      response = type_name_placeless o.response;
      throws = map fault_placeless o.throws;
    }

-- a one-way operation without its places
abbrev pub one_way_placeless : OneWay → OneWay
one_way_placeless o = record { name = name_placeless o.name; request = type_name_placeless o.request }

-- operations after one word, without their places
abbrev pub group_placeless : OperationGroup → OperationGroup
group_placeless (group.RequestResponse at operations) =
    group.RequestResponse 0 (map request_response_placeless operations)
group_placeless (group.OneWay at operations) = group.OneWay 0 (map one_way_placeless operations)

-- an interface without its places
abbrev pub interface_placeless : Interface → Interface
interface_placeless i = record { at = 0; name = name_placeless i.name; groups = map group_placeless i.groups }

-- ---- services

-- a port without its places
abbrev pub port_placeless : Port → Port
port_placeless p =
    record {
      at = 0;
      name = name_placeless p.name;
      location = quoted_placeless p.location;
      protocol = option_map name_placeless p.protocol;
      interfaces = map name_placeless p.interfaces;
    }

-- a type and the fields that lead to a variable's value in it, without their places
abbrev pub alias_placeless : Alias → Alias
alias_placeless a = record {
  ty = name_placeless a.ty;
  first = name_placeless a.first;
  rest = map name_placeless a.rest;
}

-- a variable of a `cset` without its places
abbrev pub variable_placeless : CorrelationVariable → CorrelationVariable
variable_placeless v = record { name = name_placeless v.name; aliases = map alias_placeless v.aliases }

-- a clause of a service without its places
abbrev pub clause_placeless : Clause → Clause
clause_placeless (clause.Execution at execution) = clause.Execution 0 execution
clause_placeless (clause.InputPort port) = clause.InputPort (port_placeless port)
clause_placeless (clause.OutputPort port) = clause.OutputPort (port_placeless port)
clause_placeless (clause.CorrelationSet at variables) = clause.CorrelationSet 0 (map variable_placeless variables)
clause_placeless (clause.Init at body) = clause.Init 0 (block_placeless body)
clause_placeless (clause.Main at body) = clause.Main 0 (block_placeless body)

-- a service without its places
abbrev pub service_placeless : Service → Service
service_placeless s = record { at = 0; name = name_placeless s.name; clauses = map clause_placeless s.clauses }

-- ---- files

-- a definition without its places
abbrev pub definition_placeless : Definition → Definition
definition_placeless (definition.Type t) = definition.Type (type_placeless t)
definition_placeless (definition.Interface i) = definition.Interface (interface_placeless i)
definition_placeless (definition.Service s) = definition.Service (service_placeless s)
