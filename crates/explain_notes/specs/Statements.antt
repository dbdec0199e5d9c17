-- What the parts of a statement mention.
use Rattle.std.specs.Prelude.{List, [], ◌∷◌, ◌++◌, map, Option, Some, None, option_map, unwrap_or}
use Rattle.std.specs.Prelude.{true, codes, if◌then◌else◌, ◌||◌}
use Rattle.jolie_ast.specs.declared.name.Name.{Name}
use Rattle.jolie_ast.specs.declared.expression.Expr.{Expr, out-Expr}
use Rattle.jolie_ast.specs.declared.expression.ExprForm.{out-ExprForm}
use Rattle.jolie_ast.specs.declared.expression.ExprForm.TheOpen.{ExprForm-F}
use Rattle.jolie_ast.specs.declared.expression.Path.{Path, out-Path}
use Rattle.jolie_ast.specs.declared.expression.Step.{Step, out-Step}
use Rattle.jolie_ast.specs.declared.process.Assignment.{Assignment}
use Rattle.jolie_ast.specs.declared.process.Assignment.TheVariants as assignment
use Rattle.jolie_ast.specs.declared.process.ForStep.{ForStep}
use Rattle.jolie_ast.specs.declared.process.ForStep.TheVariants as for_step
use Rattle.jolie_ast.specs.declared.process.HandlerKey.{HandlerKey}
use Rattle.jolie_ast.specs.declared.process.HandlerKey.TheVariants as key
use Rattle.explain_notes.specs.declared.role.Role.{Role}
use Rattle.explain_notes.specs.declared.role.Role.TheVariants as role
use Rattle.explain_notes.specs.Mentions.{Seen, mention, word, fails_at, faults, in_role, in_role_of, sets}
use Rattle.explain_notes.specs.Mentions.{caught_role, filled_role, rethrown_role}
use Rattle.explain_notes.specs.Expressions.{expr_mentions, path_mentions}

-- the variable of a path
abbrev pub variable_of : Path → Name
variable_of path = (out-Step (out-Path path).first).name

-- what a part mentions, if it is written
abbrev pub if_written : {X : Type 0} → (X → Seen) → Option X → Seen
if_written mentions part = unwrap_or (option_map mentions part) []

-- a variable in a role, where a list has something
abbrev pub where_some : {X : Type 0} → List X → Role → Name → Seen
where_some [] r variable = []
where_some (x ∷ xs) r variable = mention r variable ∷ []

-- ---- paths that are set

-- a path that gets a value, in this role: where it goes on, its variable is branched
abbrev pub target_mentions : Role → Path → Seen
target_mentions r path = path_mentions r path ++ where_some (out-Path path).rest role.Branched (variable_of path)

-- a path that takes a message or an answer, if one is written
abbrev pub received_mentions : Option Path → Seen
received_mentions path = if_written (target_mentions role.Received) path

-- ---- assignments

-- a path on the right side of `=`, by what stands after its variable
abbrev pub taken_role : List Step → Role
taken_role [] = role.RootTaken
taken_role (s ∷ ss) = role.FieldRead

-- the right side of `=`, after this variable
abbrev pub root_mentions : Name → Expr → Seen
root_mentions variable value = elim (out-ExprForm (out-Expr value).form) [
  | ExprForm-F.Path path ↦ path_mentions (taken_role (out-Path path).rest) path
  | ExprForm-F.Literal members ↦ where_some members role.Flattened variable ++ expr_mentions value
  | _ ↦ expr_mentions value
]

-- `++` and `--`, which are a sum, at the place of this variable
abbrev pub count_mentions : Name → Seen
count_mentions variable = fails_at true variable.at

-- a path and what is done to it
abbrev pub assigned_mentions : Path → Assignment → Seen
assigned_mentions path (assignment.Root value) =
    target_mentions role.Set path ++ root_mentions (variable_of path) value
assigned_mentions path (assignment.Copy value) = target_mentions role.Set path ++ expr_mentions value
assigned_mentions path (assignment.Count count) = target_mentions role.Set path ++ count_mentions (variable_of path)

-- what a `for` begins with, and its test
abbrev pub begun_mentions : Path → Expr → Expr → Seen
begun_mentions path first test = target_mentions role.Set path ++ (expr_mentions first ++ expr_mentions test)

-- a path and what the last part of a `for` does to it
abbrev pub stepped_mentions : Path → ForStep → Seen
stepped_mentions path (for_step.Root value) = target_mentions role.Set path ++ expr_mentions value
stepped_mentions path (for_step.Count count) = target_mentions role.Set path ++ count_mentions (variable_of path)

-- ---- handlers and requests

-- a handler of these mentions
abbrev pub handler_mentions_of : HandlerKey → Seen → Seen
handler_mentions_of (key.This at) body = mention role.Undoing (word at (codes "this")) ∷ map (in_role caught_role) body
handler_mentions_of (key.Named fault) body = mention role.Handled fault ∷ map (in_role_of fault rethrown_role) body

-- the role of the variable that a request is answered by, with what the request takes and does: a body that a fault may
-- leave need not set it
abbrev pub answered_role : Name → Seen → Role
answered_role variable inside = if sets variable inside || faults inside then role.Answered else role.LeftUnset

-- a request of an operation, by what it takes and does, where its answer stands
abbrev pub request_mentions : Name → Option Path → Seen → Seen
request_mentions operation None inside = mention role.Acknowledged operation ∷ inside
request_mentions operation (Some path) inside =
    mention role.Asked operation
    ∷ (path_mentions (answered_role (variable_of path) inside) path
    ++ map (in_role_of (variable_of path) filled_role) inside)
