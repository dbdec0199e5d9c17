-- What the phrases of the grammar mean as trees.
use Rattle.std.specs.Prelude.{ℕ, ℤ, pos, Bool, List, [], ◌∷◌, Option, Some, None, if◌then◌else◌}
use Rattle.jolie_tokens.specs.declared.token.TokenKind.TheVariants as kind
use Rattle.jolie_ast.specs.declared.name.Name.{Name}
use Rattle.jolie_ast.specs.declared.name.Quoted.{Quoted}
use Rattle.jolie_ast.specs.declared.expression.Additive.{Additive}
use Rattle.jolie_ast.specs.declared.expression.Additive.TheVariants as additive
use Rattle.jolie_ast.specs.declared.expression.Multiplicative.{Multiplicative}
use Rattle.jolie_ast.specs.declared.expression.Multiplicative.TheVariants as multiplicative
use Rattle.jolie_ast.specs.declared.expression.Comparison.{Comparison}
use Rattle.jolie_ast.specs.declared.expression.Comparison.TheVariants as comparison
use Rattle.jolie_ast.specs.declared.expression.CastTarget.{CastTarget}
use Rattle.jolie_ast.specs.declared.expression.CastTarget.TheVariants as target
use Rattle.jolie_ast.specs.declared.expression.Expr.{Expr, roll-Expr, out-Expr}
use Rattle.jolie_ast.specs.declared.expression.ExprForm.{ExprForm}
use Rattle.jolie_ast.specs.declared.expression.ExprForm.TheVariants as form
use Rattle.jolie_ast.specs.declared.expression.Factor.{Factor, roll-Factor}
use Rattle.jolie_ast.specs.declared.expression.Term.{Term, roll-Term}
use Rattle.jolie_ast.specs.declared.expression.Path.{Path, roll-Path, out-Path}
use Rattle.jolie_ast.specs.declared.expression.Step.{Step, roll-Step, out-Step}
use Rattle.jolie_ast.specs.declared.process.Process.{Process}
use Rattle.jolie_ast.specs.declared.process.Process.TheVariants as process
use Rattle.jolie_ast.specs.declared.process.Count.{Count}
use Rattle.jolie_ast.specs.declared.process.Count.TheVariants as count
use Rattle.jolie_ast.specs.declared.process.HandlerKey.{HandlerKey}
use Rattle.jolie_ast.specs.declared.process.Block.{Block, roll-Block}
use Rattle.jolie_ast.specs.declared.process.If.{If, roll-If}
use Rattle.jolie_ast.specs.declared.process.Input.{Input, roll-Input}
use Rattle.jolie_ast.specs.declared.process.Reply.{Reply}
use Rattle.jolie_ast.specs.declared.process.Branch.{Branch, roll-Branch, out-Branch}
use Rattle.jolie_ast.specs.declared.process.Answer.{Answer}
use Rattle.jolie_ast.specs.declared.process.Handler.{Handler, roll-Handler}
use Rattle.jolie_ast.specs.declared.types.RootKind.{RootKind}
use Rattle.jolie_ast.specs.declared.types.RootKind.TheVariants as root
use Rattle.jolie_ast.specs.declared.types.TypeBody.{TypeBody}
use Rattle.jolie_ast.specs.declared.types.TypeBody.TheVariants as body
use Rattle.jolie_ast.specs.declared.types.Field.{Field}
use Rattle.jolie_ast.specs.declared.types.Cardinality.{Cardinality}
use Rattle.jolie_ast.specs.declared.types.Cardinality.TheVariants as cardinality
use Rattle.jolie_ast.specs.declared.types.DefinedType.{DefinedType}
use Rattle.jolie_ast.specs.declared.types.TypeDefinition.{TypeDefinition}
use Rattle.jolie_ast.specs.declared.service.Execution.{Execution}
use Rattle.jolie_ast.specs.declared.service.Execution.TheVariants as execution
use Rattle.jolie_ast.specs.declared.service.Port.{Port}
use Rattle.jolie_ast.specs.declared.service.Clause.{Clause}
use Rattle.jolie_ast.specs.declared.service.Clause.TheVariants as clause
use Rattle.jolie_ast.specs.declared.service.Service.{Service}
use Rattle.jolie_tokens.specs.declared.sign.Sign.TheVariants.{Equal, NotEqual, AtMost, Increment, Less, Greater, Plus}
use Rattle.jolie_tokens.specs.declared.sign.Sign.TheVariants.{Minus, Star, Slash}
use Rattle.jolie_parse.specs.declared.word.Word.TheVariants as the
use Rattle.jolie_parse.specs.declared.class.Class.{Class}
use Rattle.jolie_parse.specs.declared.class.Class.TheVariants as c
use Rattle.jolie_parse.specs.Classes.{Spelled, class, place, same}
use Rattle.jolie_parse.specs.declared.simple.ForParts.{ForParts}
use Rattle.jolie_parse.specs.declared.process.IfParts.{IfParts}

-- ---- tokens

-- a word as a name with its place
abbrev pub name_of : Spelled → Name
name_of t = record { text = t.spelling; at = place t }

-- the value of an int, and of no other token
abbrev pub int_value : Spelled → ℤ
int_value t = elim t.token.kind [ kind.Int n ↦ n | _ ↦ pos 0 ]

-- the value of a long, and of no other token
abbrev pub long_value : Spelled → ℤ
long_value t = elim t.token.kind [ kind.Long n ↦ n | _ ↦ pos 0 ]

-- the text that a string means
abbrev pub meant_text : Spelled → List ℕ
meant_text t = elim t.token.kind [ kind.Str text ↦ text | _ ↦ [] ]

-- whether it is the word `true`
abbrev pub is_true : Spelled → Bool
is_true t = same (class t) (c.Word the.True)

-- a string with its place
abbrev pub quoted : Spelled → Quoted
quoted t = record { text = meant_text t; at = place t }

-- ---- expressions

-- an expression with its place
abbrev pub expression : ℕ → ExprForm → Expr
expression at form = roll-Expr (record { at = at; form = form })

-- an expression that begins earlier, at a parenthesis
abbrev pub begun_at : ℕ → Expr → Expr
begun_at at e = expression at (out-Expr e).form

-- where an expression begins
abbrev pub start : Expr → ℕ
start e = (out-Expr e).at

-- a step of its name and index
abbrev pub step_of : Spelled → Option Expr → Step
step_of t index = roll-Step (record { name = name_of t; index = index })

-- a path of the name of its first step, the index of that and the further steps
abbrev pub path_of : Spelled → Option Expr × List Step → Path
path_of t parts = roll-Path (record { first = step_of t parts.0; rest = parts.1 })

-- where a path begins
abbrev pub path_start : Path → ℕ
path_start p = (out-Step (out-Path p).first).name.at

-- the kind that a cast gives
abbrev pub cast_target : Class → CastTarget
cast_target k =
    if same k (c.Word the.Int) then target.Int else if same k (c.Word the.Long) then target.Long else target.Str

-- the operator of a sign: `*`, `/` or `%`
abbrev pub multiplicative_of : Class → Multiplicative
multiplicative_of k =
    if same k (c.Sign Star) then multiplicative.Times
    else if same k (c.Sign Slash) then multiplicative.Divide
    else multiplicative.Remainder

-- the operator of a sign: `+` or `-`
abbrev pub additive_of : Class → Additive
additive_of k = if same k (c.Sign Plus) then additive.Plus else additive.Minus

-- the comparison of a sign
abbrev pub comparison_of : Class → Comparison
comparison_of k =
    if same k (c.Sign Equal) then comparison.Equal
    else if same k (c.Sign NotEqual) then comparison.NotEqual
    else if same k (c.Sign Less) then comparison.Less
    else if same k (c.Sign AtMost) then comparison.AtMost
    else if same k (c.Sign Greater) then comparison.Greater
    else comparison.AtLeast

-- `-` or `!` and its operand
abbrev pub prefixed_of : Spelled × Expr → Expr
prefixed_of q = expression (place q.0) (if same (class q.0) (c.Sign Minus) then form.Minus q.1 else form.Not q.1)

-- an operand after its operator: `*`, `/` or `%`
abbrev pub factor_of : Spelled × Expr → Factor
factor_of q = roll-Factor (record { operator = multiplicative_of (class q.0); operand = q.1 })

-- an operand after its operator: `+` or `-`
abbrev pub term_of : Spelled × Expr → Term
term_of q = roll-Term (record { operator = additive_of (class q.0); operand = q.1 })

-- operands with `*`, `/` and `%`; one alone is itself
abbrev pub product_of : Expr × List Factor → Expr
product_of (e, []) = e
product_of (e, (q ∷ qs)) = expression (start e) (form.Product e (q ∷ qs))

-- operands with `+` and `-`; one alone is itself
abbrev pub sum_of : Expr × List Term → Expr
sum_of (e, []) = e
sum_of (e, (q ∷ qs)) = expression (start e) (form.Sum e (q ∷ qs))

-- two operands that are compared; one alone is itself
abbrev pub comparison_made : Expr × Option (Spelled × Expr) → Expr
comparison_made (e, None) = e
comparison_made (e, Some q) = expression (start e) (form.Compare e (comparison_of (class q.0)) q.1)

-- where the first of some operands begins
abbrev pub start_of : List Expr → ℕ
start_of [] = 0
start_of (e ∷ es) = start e

-- operands with `&&`; one alone is itself
abbrev pub and_of : List Expr → Expr
and_of [] = expression 0 (form.And [])
and_of (e ∷ []) = e
and_of (e ∷ d ∷ es) = expression (start e) (form.And (e ∷ d ∷ es))

-- operands with `||`; one alone is itself
abbrev pub or_of : List Expr → Expr
or_of [] = expression 0 (form.Or [])
or_of (e ∷ []) = e
or_of (e ∷ d ∷ es) = expression (start e) (form.Or (e ∷ d ∷ es))

-- ---- processes

-- a block at its brace
abbrev pub block_of : Spelled × Option Process → Block
block_of q = roll-Block (record { at = place q.0; body = q.1 })

-- one statement alone is itself
abbrev pub sequence_of : List Process → Process
sequence_of (p ∷ []) = p
sequence_of statements = process.Sequence statements

-- sequences beside one another; one alone is itself
abbrev pub parallel_of : List Process → Process
parallel_of (p ∷ []) = p
parallel_of sequences = process.Parallel sequences

-- up or down
abbrev pub count_of : Spelled → Count
count_of t = if same (class t) (c.Sign Increment) then count.Up else count.Down

-- an `if` at its word
abbrev pub if_of : Spelled → IfParts → If
if_of t parts = roll-If (record { at = place t; test = parts.test; body = parts.body; otherwise = parts.otherwise })

-- a `for` at its word
abbrev pub for_of : Spelled → ForParts → Block → Process
for_of t parts body = process.For (place t) parts.path parts.first parts.test parts.stepped parts.step body

-- an input of its operation, path and reply part
abbrev pub input_of : Spelled → Option Path × Option Reply → Input
input_of t parts = roll-Input (record { operation = name_of t; request = parts.0; reply = parts.1 })

-- a branch at its bracket
abbrev pub branch_of : (Spelled × Input) × Block → Branch
branch_of q = roll-Branch (record { at = place q.0.0; input = q.0.1; after = q.1 })

-- a choice, at its first bracket
abbrev pub choice_of : List Branch → Process
choice_of [] = process.Choice 0 []
choice_of (b ∷ bs) = process.Choice (out-Branch b).at (b ∷ bs)

-- an output of its operation, its port, the value that it sends and what it awaits
abbrev pub output_of : Spelled → Spelled × (Option Expr × Option Answer) → Process
output_of t parts = process.Output (name_of t) (name_of parts.0) parts.1.0 parts.1.1

-- a handler of its key and body
abbrev pub handler_of : HandlerKey × Process → Handler
handler_of q = roll-Handler (record { key = q.0; body = q.1 })

-- ---- types

-- the kind of root of a word
abbrev pub root_kind : Class → RootKind
root_kind k =
    if same k (c.Word the.Void) then root.Void
    else if same k (c.Word the.Bool) then root.Bool
    else if same k (c.Word the.Int) then root.Int
    else if same k (c.Word the.Long) then root.Long
    else if same k (c.Word the.Str) then root.Str
    else root.Any

-- a type of its kind and fields
abbrev pub root_body : Spelled × Option (List Field) → TypeBody
root_body q = body.Root (place q.0) (root_kind (class q.0)) q.1

-- `[least, most]`, where most is an int or `*`
abbrev pub bounds_of : Spelled → Spelled → Cardinality
bounds_of least most =
    cardinality.Between (int_value least) (if same (class most) c.Int then Some (int_value most) else None)

-- a type with its name, at its word
abbrev pub definition_of : Spelled → Spelled → DefinedType → TypeDefinition
definition_of t name defined = record { at = place t; name = name_of name; body = defined }

-- ---- services

-- how a service runs its sessions
abbrev pub execution_of : Spelled → Execution
execution_of t = if same (class t) (c.Word the.Concurrent) then execution.Concurrent else execution.Single

-- a port of its name, location, protocol and interfaces, at its word
abbrev pub port_of : Spelled → Spelled → Quoted × Option Name × List Name → Port
port_of t name parts = record {
  at = place t;
  name = name_of name;
  location = parts.0;
  protocol = parts.1;
  interfaces = parts.2;
}

-- a port of the one kind or the other
abbrev pub port_clause : Spelled → Port → Clause
port_clause t port = if same (class t) (c.Word the.InputPort) then clause.InputPort port else clause.OutputPort port

-- a service of its name and clauses, at its word
abbrev pub service_of : Spelled → Spelled → List Clause → Service
service_of t name clauses = record { at = place t; name = name_of name; clauses = clauses }
