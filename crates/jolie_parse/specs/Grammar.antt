-- The grammar, production by production, and what is a file. Of the words that count `the.Type` is `type`, and so on;
-- signs stand under their own names.
use Rattle.std.specs.Prelude.{ℕ, zero, suc, List, [], ◌∷◌, ◌++◌, map, Option, unwrap_or}
use Rattle.jolie_ast.specs.declared.expression.Expr.{Expr}
use Rattle.jolie_ast.specs.declared.expression.ExprForm.TheVariants as form
use Rattle.jolie_ast.specs.declared.expression.Member.{Member, roll-Member}
use Rattle.jolie_ast.specs.declared.expression.Factor.{Factor}
use Rattle.jolie_ast.specs.declared.expression.Term.{Term}
use Rattle.jolie_ast.specs.declared.expression.Path.{Path}
use Rattle.jolie_ast.specs.declared.expression.Step.{Step}
use Rattle.jolie_ast.specs.declared.process.Process.{Process}
use Rattle.jolie_ast.specs.declared.process.Process.TheVariants as process
use Rattle.jolie_ast.specs.declared.process.Assignment.{Assignment}
use Rattle.jolie_ast.specs.declared.process.Assignment.TheVariants as assignment
use Rattle.jolie_ast.specs.declared.process.ForStep.{ForStep}
use Rattle.jolie_ast.specs.declared.process.ForStep.TheVariants as for_step
use Rattle.jolie_ast.specs.declared.process.HandlerKey.{HandlerKey}
use Rattle.jolie_ast.specs.declared.process.HandlerKey.TheVariants as key
use Rattle.jolie_ast.specs.declared.process.Block.{Block}
use Rattle.jolie_ast.specs.declared.process.Otherwise.{Otherwise}
use Rattle.jolie_ast.specs.declared.process.Otherwise.TheVariants as otherwise
use Rattle.jolie_ast.specs.declared.process.Input.{Input}
use Rattle.jolie_ast.specs.declared.process.Reply.{Reply, roll-Reply}
use Rattle.jolie_ast.specs.declared.process.Branch.{Branch}
use Rattle.jolie_ast.specs.declared.process.Answer.{Answer, roll-Answer}
use Rattle.jolie_ast.specs.declared.process.Handler.{Handler}
use Rattle.jolie_ast.specs.declared.types.Cardinality.{Cardinality}
use Rattle.jolie_ast.specs.declared.types.Cardinality.TheVariants as cardinality
use Rattle.jolie_ast.specs.declared.types.TypeBody.{TypeBody}
use Rattle.jolie_ast.specs.declared.types.TypeBody.TheVariants as body
use Rattle.jolie_ast.specs.declared.types.DefinedType.{DefinedType}
use Rattle.jolie_ast.specs.declared.types.DefinedType.TheVariants as defined
use Rattle.jolie_ast.specs.declared.types.TypeDefinition.{TypeDefinition}
use Rattle.jolie_ast.specs.declared.types.Field.{Field, roll-Field}
use Rattle.jolie_ast.specs.declared.interface.TypeName.{TypeName}
use Rattle.jolie_ast.specs.declared.interface.TypeName.TheVariants as type_name
use Rattle.jolie_ast.specs.declared.interface.Fault.{Fault}
use Rattle.jolie_ast.specs.declared.interface.RequestResponse.{RequestResponse}
use Rattle.jolie_ast.specs.declared.interface.OneWay.{OneWay}
use Rattle.jolie_ast.specs.declared.interface.OperationGroup.{OperationGroup}
use Rattle.jolie_ast.specs.declared.interface.OperationGroup.TheVariants as group
use Rattle.jolie_ast.specs.declared.interface.Interface.{Interface}
use Rattle.jolie_ast.specs.declared.service.Alias.{Alias}
use Rattle.jolie_ast.specs.declared.service.CorrelationVariable.{CorrelationVariable}
use Rattle.jolie_ast.specs.declared.service.Clause.{Clause}
use Rattle.jolie_ast.specs.declared.service.Clause.TheVariants as clause
use Rattle.jolie_ast.specs.declared.service.Service.{Service}
use Rattle.jolie_ast.specs.declared.tree.Definition.{Definition}
use Rattle.jolie_ast.specs.declared.tree.Definition.TheVariants as definition
use Rattle.jolie_ast.specs.declared.name.Name.{Name}
use Rattle.jolie_ast.specs.declared.name.Quoted.{Quoted}
use Rattle.jolie_tokens.specs.declared.sign.Sign.TheVariants.{Arrow, Equal, NotEqual, AtMost, AtLeast, DeepAssign}
use Rattle.jolie_tokens.specs.declared.sign.Sign.TheVariants.{Increment, Decrement, And, Or, OpenBrace, CloseBrace}
use Rattle.jolie_tokens.specs.declared.sign.Sign.TheVariants.{OpenParen, CloseParen, OpenBracket, CloseBracket, Comma}
use Rattle.jolie_tokens.specs.declared.sign.Sign.TheVariants.{Semicolon, Colon, Dot, Bar, Assign, Less, Greater, Plus}
use Rattle.jolie_tokens.specs.declared.sign.Sign.TheVariants.{Minus, Star, Slash, Percent, Not, Hash, At, Question}
use Rattle.jolie_parse.specs.declared.word.Word.{Word}
use Rattle.jolie_parse.specs.declared.word.Word.TheVariants as the
use Rattle.jolie_parse.specs.declared.class.Class.{Class}
use Rattle.jolie_parse.specs.declared.class.Class.TheVariants as c
use Rattle.jolie_parse.specs.declared.simple.ForParts.{ForParts}
use Rattle.jolie_parse.specs.declared.process.IfParts.{IfParts}
use Rattle.jolie_parse.specs.Classes.{Spelled, class, place, ids, words}
use Rattle.jolie_parse.specs.Meanings as means_as
use Rattle.jolie_parse.specs.Meanings.{name_of, expression}
use Rattle.jolie_parse.specs.Syntax.{Part, an_expression, an_operand, a_path, maybe_path, maybe_expression, a_body}
use Rattle.jolie_parse.specs.Syntax.{some_handlers, a_name, an_input, an_else_if, for_parts, throw_parts, some_members}
use Rattle.jolie_parse.specs.Syntax.{a_type_name, some_bounds, some_fields, some_operations}
use Rattle.jolie_parse.specs.Syntax.{port_parts, some_variables, some_clauses}
use Rattle.jolie_parse.specs.Syntax.{Meant, Syn, token, give, both, either, many, means, inside, prefix, Lang, Derives}
use Rattle.jolie_parse.specs.Syntax.{separated, some_of, optional, behind, ended, between}

-- a token of one class
abbrev pub one : Class → Syn Spelled
one k = token (k ∷ [])

-- a word that counts
abbrev pub keyword : Word → Syn Spelled
keyword w = one (c.Word w)

-- a part in parentheses
abbrev pub parens : (r : Part) → Syn (Meant r)
parens r = between (c.Sign OpenParen) r (c.Sign CloseParen)

-- a part in braces
abbrev pub braces : (r : Part) → Syn (Meant r)
braces r = between (c.Sign OpenBrace) r (c.Sign CloseBrace)

-- ---- names and paths

-- a word that is not reserved
unfoldable pub id : Syn Spelled
id = token ids

-- any word
unfoldable pub word : Syn Spelled
word = token words

-- an index in brackets, or none
unfoldable pub index : Syn (Option Expr)
index = optional (between (c.Sign OpenBracket) an_expression (c.Sign CloseBracket))

-- a further step of a path: a dot, a name and its index
unfoldable pub step : Syn Step
step = behind (c.Sign Dot) (means (λ q. means_as.step_of q.0 q.1) (both word index))

-- a path after its first name
unfoldable pub path_parts : Syn (Option Expr × List Step)
path_parts = both index (many step)

-- a path: a name that is not reserved, its index and the further steps
unfoldable pub path : Syn Path
path = means (λ q. means_as.path_of q.0 q.1) (both id path_parts)

-- ---- expressions

-- an int
unfoldable pub whole_number : Syn Expr
whole_number = means (λ t. expression (place t) (form.Int (means_as.int_value t))) (one c.Int)

-- a long
unfoldable pub long_number : Syn Expr
long_number = means (λ t. expression (place t) (form.Long (means_as.long_value t))) (one c.Long)

-- a string
unfoldable pub quoted_text : Syn Expr
quoted_text = means (λ t. expression (place t) (form.Str (means_as.meant_text t))) (one c.Str)

-- `true` or `false`
unfoldable pub truth : Syn Expr
truth =
    means (λ t. expression (place t) (form.Bool (means_as.is_true t)))
    (token (c.Word the.True ∷ c.Word the.False ∷ []))

-- the value at a path
unfoldable pub path_value : Syn Expr
path_value = means (λ p. expression (means_as.path_start p) (form.Path p)) path

-- how many nodes stand at a path
unfoldable pub size : Syn Expr
size = means (λ q. expression (place q.0) (form.Size q.1)) (both (one (c.Sign Hash)) path)

-- whether a path is there
unfoldable pub defined_test : Syn Expr
defined_test = means (λ q. expression (place q.0) (form.IsDefined q.1)) (both (keyword the.IsDefined) (parens a_path))

-- a value turned into another kind
unfoldable pub cast : Syn Expr
cast =
    means (λ q. expression (place q.0) (form.Cast (means_as.cast_target (class q.0)) q.1))
    (both (token (c.Word the.Int ∷ c.Word the.Long ∷ c.Word the.Str ∷ [])) (parens an_expression))

-- an expression in parentheses
unfoldable pub grouped : Syn Expr
grouped = means (λ q. means_as.begun_at (place q.0) q.1) (inside (c.Sign OpenParen) an_expression (c.Sign CloseParen))

-- a tree written out
unfoldable pub literal : Syn Expr
literal =
    means (λ q. expression (place q.0) (form.Literal q.1))
    (inside (c.Sign OpenBrace) some_members (c.Sign CloseBrace))

-- an operand without a prefix
unfoldable pub primary : Syn Expr
primary =
    either whole_number (either long_number (either quoted_text (either truth
    (either path_value (either size (either defined_test (either cast (either grouped literal))))))))

-- `-` or `!` and the operand after it
unfoldable pub prefixed_operand : Syn Expr
prefixed_operand = means means_as.prefixed_of (prefix (c.Sign Minus ∷ c.Sign Not ∷ []) an_operand)

-- an operand, after any number of `-` and `!`
unfoldable pub unary : Syn Expr
unary = either prefixed_operand primary

-- a further operand, after `*`, `/` or `%`
unfoldable pub factor : Syn Factor
factor = means means_as.factor_of (both (token (c.Sign Star ∷ c.Sign Slash ∷ c.Sign Percent ∷ [])) unary)

-- operands with `*`, `/` and `%` between them
unfoldable pub product : Syn Expr
product = means means_as.product_of (both unary (many factor))

-- a further operand, after `+` or `-`
unfoldable pub term : Syn Term
term = means means_as.term_of (both (token (c.Sign Plus ∷ c.Sign Minus ∷ [])) product)

-- products with `+` and `-` between them
unfoldable pub sum : Syn Expr
sum = means means_as.sum_of (both product (many term))

-- a sum after a sign that compares
unfoldable pub comparand : Syn (Spelled × Expr)
comparand =
    both
    (token (c.Sign Equal ∷ c.Sign NotEqual ∷ c.Sign Less ∷ c.Sign AtMost ∷ c.Sign Greater ∷ c.Sign AtLeast ∷ []))
    sum

-- a sum, or two that are compared
unfoldable pub comparison : Syn Expr
comparison = means means_as.comparison_made (both sum (optional comparand))

-- comparisons with `&&` between them
unfoldable pub conjunction : Syn Expr
conjunction = means means_as.and_of (separated (c.Sign And) comparison)

-- an expression: conjunctions with `||` between them
unfoldable pub expr : Syn Expr
expr = means means_as.or_of (separated (c.Sign Or) conjunction)

-- a member of a literal: a name and its value
unfoldable pub member : Syn Member
member =
    means (λ q. roll-Member (record { name = name_of q.1.0; value = q.1.1 }))
    (both (optional (one (c.Sign Dot))) (both word (behind (c.Sign Assign) expr)))

-- the members of a literal
unfoldable pub members : Syn (List Member)
members = means (λ written. unwrap_or written []) (optional (separated (c.Sign Comma) member))

-- ---- processes

-- a block: braces and what stands in them
unfoldable pub block : Syn Block
block = means means_as.block_of (inside (c.Sign OpenBrace) a_body (c.Sign CloseBrace))

-- the reply part of an input: its path and its body
unfoldable pub reply : Syn Reply
reply = means (λ q. roll-Reply (record { path = q.0; body = q.1 })) (both (parens maybe_path) block)

-- an input after its operation
unfoldable pub input_parts : Syn (Option Path × Option Reply)
input_parts = both (parens maybe_path) (optional reply)

-- an input: its operation, its path and its reply part
unfoldable pub input : Syn Input
input = means (λ q. means_as.input_of q.0 q.1) (both id input_parts)

-- a branch of a choice: an input in brackets and what comes after
unfoldable pub branch : Syn Branch
branch = means means_as.branch_of (both (inside (c.Sign OpenBracket) an_input (c.Sign CloseBracket)) block)

-- a choice: one branch or more
unfoldable pub choice : Syn Process
choice = means means_as.choice_of (some_of branch)

-- what an output awaits: a path and handlers
unfoldable pub answer : Syn Answer
answer =
    means (λ q. roll-Answer (record { path = q.0; handlers = q.1 }))
    (both (parens maybe_path) (optional (between (c.Sign OpenBracket) some_handlers (c.Sign CloseBracket))))

-- an output after its operation
unfoldable pub output_parts : Syn (Spelled × (Option Expr × Option Answer))
output_parts = behind (c.Sign At) (both id (both (parens maybe_expression) (optional answer)))

-- an output: its operation, its port and what it sends and awaits
unfoldable pub output : Syn Process
output = means (λ q. means_as.output_of q.0 q.1) (both id output_parts)

-- `++` or `--`
unfoldable pub count : Syn Spelled
count = token (c.Sign Increment ∷ c.Sign Decrement ∷ [])

-- what is done to the path before it
unfoldable pub change : Syn Assignment
change =
    either (means assignment.Root (behind (c.Sign Assign) expr))
    (either (means assignment.Copy (behind (c.Sign DeepAssign) expr))
    (means (λ t. assignment.Count (means_as.count_of t)) count))

-- a path and what is done to it
unfoldable pub assign : Syn Process
assign = means (λ q. process.Assign q.0 q.1) (both path change)

-- a correlation variable gets a value
unfoldable pub correlate : Syn Process
correlate =
    means (λ q. process.Correlate (place q.0) (name_of q.1.0) q.1.1)
    (both (keyword the.Csets) (both (behind (c.Sign Dot) id) (behind (c.Sign Assign) expr)))

-- the last part of a `for` behind its path
unfoldable pub last_change : Syn ForStep
last_change =
    either (means (λ t. for_step.Count (means_as.count_of t)) count)
    (means for_step.Root (behind (c.Sign Assign) expr))

-- what stands in the parentheses of a `for`
unfoldable pub loop_parts : Syn ForParts
loop_parts =
    means (λ q. record { path = q.0; first = q.1.0; test = q.1.1.0; stepped = q.1.1.1.0; step = q.1.1.1.1 })
    (both path (both (behind (c.Sign Assign) expr)
    (both (behind (c.Sign Comma) expr) (both (behind (c.Sign Comma) path) last_change))))

-- what may follow an `if` and its block
unfoldable pub else_parts : Syn Otherwise
else_parts =
    either
    (means (λ q. otherwise.ElseIf (means_as.if_of q.0 q.1))
    (behind (c.Word the.Else) (prefix (c.Word the.If ∷ []) an_else_if)))
    (either (means otherwise.Else (behind (c.Word the.Else) block))
    (give otherwise.Nothing))

-- an `if` behind its word
abbrev pub if_parts : Syn Otherwise → Syn IfParts
if_parts rest =
    means (λ q. record { test = q.0; body = q.1.0; otherwise = q.1.1 })
    (both (parens an_expression) (both block rest))

-- a path is taken away
unfoldable pub undefine : Syn Process
undefine = means (λ q. process.Undef (place q.0) q.1) (both (keyword the.Undef) (parens a_path))

-- an `if` statement
abbrev pub conditional : Syn Otherwise → Syn Process
conditional rest = means (λ q. process.If (means_as.if_of q.0 q.1)) (both (keyword the.If) (if_parts rest))

-- a `while` statement
unfoldable pub repetition : Syn Process
repetition =
    means (λ q. process.While (place q.0) q.1.0 q.1.1)
    (both (keyword the.While) (both (parens an_expression) block))

-- a `for` statement
unfoldable pub counted_loop : Syn Process
counted_loop = means (λ q. means_as.for_of q.0 q.1.0 q.1.1) (both (keyword the.For) (both (parens for_parts) block))

-- a scope: its name and its body
unfoldable pub scope : Syn Process
scope = means (λ q. process.Scope (place q.0) q.1.0 q.1.1) (both (keyword the.Scope) (both (parens a_name) block))

-- handlers are put up
unfoldable pub install : Syn Process
install = means (λ q. process.Install (place q.0) q.1) (both (keyword the.Install) (parens some_handlers))

-- a fault is thrown
unfoldable pub throw : Syn Process
throw = means (λ q. process.Throw (place q.0) q.1.0 q.1.1) (both (keyword the.Throw) (parens throw_parts))

-- a finished scope is compensated
unfoldable pub compensate : Syn Process
compensate = means (λ q. process.Compensate (place q.0) q.1) (both (keyword the.Comp) (parens a_name))

-- the handler that this one replaces
unfoldable pub inner_handler : Syn Process
inner_handler = means (λ t. process.InnerHandler (place t)) (keyword the.InnerHandler)

-- a block as a statement
unfoldable pub block_statement : Syn Process
block_statement = means process.Block block

-- the statements that begin with a sign or a reserved word
abbrev pub marked_statement : Syn Otherwise → Syn Process
marked_statement rest =
    either undefine
    (either correlate
    (either (conditional rest)
    (either repetition
    (either counted_loop
    (either choice
    (either scope
    (either install
    (either throw
    (either compensate
    (either inner_handler block_statement))))))))))

-- `nullProcess`
unfoldable pub nothing : Syn Process
nothing = means (λ t. process.Nothing (place t)) (keyword the.NullProcess)

-- a statement
unfoldable pub statement : Syn Process
statement =
    either nothing (either (means process.Input input) (either output (either assign (marked_statement else_parts))))

-- statements one after the other
abbrev pub in_sequence : Syn Process → Syn Process
in_sequence s = means means_as.sequence_of (separated (c.Sign Semicolon) s)

-- sequences beside one another
abbrev pub in_parallel : Syn Process → Syn Process
in_parallel s = means means_as.parallel_of (separated (c.Sign Bar) (in_sequence s))

-- what a handler is for: `this` or a name
unfoldable pub handler_key : Syn HandlerKey
handler_key = either (means (λ t. key.This (place t)) (keyword the.This)) (means (λ t. key.Named (name_of t)) id)

-- a handler: what it is for and what it does
abbrev pub handler : Syn Process → Syn Handler
handler s = means means_as.handler_of (both handler_key (behind (c.Sign Arrow) (in_parallel s)))

-- handlers with commas between them
abbrev pub handlers : Syn Process → Syn (List Handler)
handlers s = separated (c.Sign Comma) (handler s)

-- what a `throw` names: a fault and its data
unfoldable pub thrown : Syn (Name × Option Expr)
thrown = means (λ q. (name_of q.0, q.1)) (both id (optional (behind (c.Sign Comma) expr)))

-- a name alone
unfoldable pub name : Syn Name
name = means name_of id

-- ---- types

-- the words of the kinds of root
abbrev pub kinds : List Class
kinds = c.Word the.Void ∷ c.Word the.Bool ∷ c.Word the.Int ∷ c.Word the.Long ∷ c.Word the.Str ∷ c.Word the.Any ∷ []

-- a kind of root with fields
unfoldable pub root_type : Syn TypeBody
root_type = means means_as.root_body (both (token kinds) (optional (braces some_fields)))

-- what a type is: a kind with fields, a name, or anything
unfoldable pub type_body : Syn TypeBody
type_body =
    either root_type
    (either (means (λ t. body.Named (name_of t)) id)
    (means (λ t. body.Undefined (place t)) (keyword the.Undefined)))

-- the bounds of a cardinality
unfoldable pub bounds : Syn Cardinality
bounds =
    means (λ q. means_as.bounds_of q.0 q.1)
    (both (one c.Int) (behind (c.Sign Comma) (token (c.Int ∷ c.Sign Star ∷ []))))

-- how often a field may stand: `?`, `*` or bounds
unfoldable pub cardinal : Syn Cardinality
cardinal =
    either (means (λ t. cardinality.Optional) (one (c.Sign Question)))
    (either (means (λ t. cardinality.Any) (one (c.Sign Star)))
    (between (c.Sign OpenBracket) some_bounds (c.Sign CloseBracket)))

-- a field of a type
unfoldable pub field : Syn Field
field =
    means (λ q. roll-Field (record { name = name_of q.1.0; cardinality = q.1.1.0; body = q.1.1.1.0 }))
    (both (optional (one (c.Sign Dot))) (both word (both (optional cardinal)
    (both (behind (c.Sign Colon) type_body) (optional (one (c.Sign Comma)))))))

-- what stands after the name of a type
unfoldable pub defined_type : Syn DefinedType
defined_type = either (means defined.Body (behind (c.Sign Colon) type_body)) (means defined.Fields (braces some_fields))

-- a type with its name
unfoldable pub type_definition : Syn TypeDefinition
type_definition = means (λ q. means_as.definition_of q.0 q.1.0 q.1.1) (both (keyword the.Type) (both id defined_type))

-- ---- interfaces

-- a type by name
unfoldable pub type_named : Syn TypeName
type_named =
    either (means (λ t. type_name.Root (place t) (means_as.root_kind (class t))) (token kinds))
    (either (means (λ t. type_name.Named (name_of t)) id)
    (means (λ t. type_name.Undefined (place t)) (keyword the.Undefined)))

-- a fault that an operation may throw, and its type
unfoldable pub fault : Syn Fault
fault = means (λ q. record { name = name_of q.0; ty = q.1 }) (both id (optional (parens a_type_name)))

-- the faults that an operation may throw
unfoldable pub throws : Syn (Option (List Fault))
throws = optional (behind (c.Word the.Throws) (some_of fault))

-- a request-response operation with its types and faults
unfoldable pub request_response : Syn RequestResponse
request_response =
    means (λ q. record { name = name_of q.0; request = q.1.0; response = q.1.1.0; throws = unwrap_or q.1.1.1 [] })
    (both id (both (parens a_type_name) (both (parens a_type_name) throws)))

-- a one-way operation with its type
unfoldable pub one_way : Syn OneWay
one_way = means (λ q. record { name = name_of q.0; request = q.1 }) (both id (parens a_type_name))

-- operations after the word `RequestResponse`
unfoldable pub request_responses : Syn OperationGroup
request_responses =
    means (λ q. group.RequestResponse (place q.0) q.1)
    (both (ended (keyword the.RequestResponse) (c.Sign Colon)) (separated (c.Sign Comma) request_response))

-- operations after the word `OneWay`
unfoldable pub one_ways : Syn OperationGroup
one_ways =
    means (λ q. group.OneWay (place q.0) q.1)
    (both (ended (keyword the.OneWay) (c.Sign Colon)) (separated (c.Sign Comma) one_way))

-- the operations of one kind
unfoldable pub operation_group : Syn OperationGroup
operation_group = either request_responses one_ways

-- an interface with its operations
unfoldable pub interface : Syn Interface
interface =
    means (λ q. record { at = place q.0; name = name_of q.1.0; groups = q.1.1 })
    (both (keyword the.Interface) (both id (braces some_operations)))

-- ---- services

-- where messages of a type have the value of a correlation variable
unfoldable pub alias : Syn Alias
alias =
    means (λ q. record { ty = name_of q.0; first = name_of q.1.0; rest = map name_of q.1.1 })
    (both id (both (behind (c.Sign Dot) word) (many (behind (c.Sign Dot) word))))

-- a correlation variable and its aliases
unfoldable pub variable : Syn CorrelationVariable
variable = means (λ q. record { name = name_of q.0; aliases = q.1 }) (both (ended id (c.Sign Colon)) (some_of alias))

-- a name after a word and a colon
abbrev pub labelled : {A : Type 0} → Class → Syn A → Syn A
labelled k s = behind k (behind (c.Sign Colon) s)

-- how a service runs its sessions
unfoldable pub execution_clause : Syn Clause
execution_clause =
    means (λ q. clause.Execution (place q.0) (means_as.execution_of q.1))
    (both (ended (keyword the.Execution) (c.Sign Colon)) (token (c.Word the.Concurrent ∷ c.Word the.Single ∷ [])))

-- the parts of a port
unfoldable pub port_body : Syn (Quoted × Option Name × List Name)
port_body =
    means (λ q. (means_as.quoted q.0, q.1.0, q.1.1))
    (both (labelled (c.Word the.Location) (one c.Str))
    (both (optional (labelled (c.Word the.Protocol) name))
    (labelled (c.Word the.Interfaces) (separated (c.Sign Comma) name))))

-- a port
unfoldable pub port : Syn Clause
port =
    means (λ q. means_as.port_clause q.0 (means_as.port_of q.0 q.1.0 q.1.1))
    (both (token (c.Word the.InputPort ∷ c.Word the.OutputPort ∷ [])) (both id (braces port_parts)))

-- a correlation set
unfoldable pub correlation_set : Syn Clause
correlation_set = means (λ q. clause.CorrelationSet (place q.0) q.1) (both (keyword the.Cset) (braces some_variables))

-- what each session does first
unfoldable pub init_clause : Syn Clause
init_clause = means (λ q. clause.Init (place q.0) q.1) (both (keyword the.Init) block)

-- what a session does
unfoldable pub main_clause : Syn Clause
main_clause = means (λ q. clause.Main (place q.0) q.1) (both (keyword the.Main) block)

-- a clause of a service
unfoldable pub clauses : Syn Clause
clauses = either execution_clause (either port (either correlation_set (either init_clause main_clause)))

-- a service with its clauses
unfoldable pub service : Syn Service
service = means (λ q. means_as.service_of q.0 q.1.0 q.1.1) (both (keyword the.Service) (both id (braces some_clauses)))

-- a type, an interface or a service
unfoldable pub file_part : Syn Definition
file_part =
    either (means definition.Type type_definition)
    (either (means definition.Interface interface) (means definition.Service service))

-- a file: types, interfaces and services
unfoldable pub file : Syn (List Definition)
file = many file_part

-- ---- what stands a level further in

-- the grammar of each part, where statements and what follows an `if` are read so
abbrev pub part_rules : Syn Process → Syn Otherwise → (r : Part) → Syn (Meant r)
part_rules s rest an_expression = expr
part_rules s rest an_operand = unary
part_rules s rest a_path = path
part_rules s rest maybe_path = optional path
part_rules s rest maybe_expression = optional expr
part_rules s rest a_body = optional (in_parallel s)
part_rules s rest some_handlers = handlers s
part_rules s rest a_name = name
part_rules s rest an_input = input
part_rules s rest an_else_if = if_parts rest
part_rules s rest for_parts = loop_parts
part_rules s rest throw_parts = thrown
part_rules s rest some_members = members
part_rules s rest a_type_name = type_named
part_rules s rest some_bounds = bounds
part_rules s rest some_fields = many field
part_rules s rest some_operations = many operation_group
part_rules s rest port_parts = port_body
part_rules s rest some_variables = separated (c.Sign Comma) variable
part_rules s rest some_clauses = many clauses

-- the grammar of each part
abbrev pub production : (r : Part) → Syn (Meant r)
production = part_rules statement else_parts

-- ---- files

-- what stands a level further in, with nesting at most n from there on
abbrev pub Allowed : ℕ → (r : Part) → Lang (Meant r)
Allowed zero r ts v = ⊥
Allowed (suc n) r ts v = Derives (Allowed n) (production r) ts v

-- the tokens are a file of these definitions, with nesting at most n
abbrev pub IsFile : ℕ → List Spelled → List Definition → Type 0
IsFile n ts f = Derives (Allowed n) file ts f

-- some tokens can follow that make it a file, of whatever nesting
abbrev pub BeginsFile : List Spelled → Type 0
BeginsFile ts = (more : List Spelled) × (n : ℕ) × (f : List Definition) × IsFile n (ts ++ more) f
