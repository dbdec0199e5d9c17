-- What is formed: each sequence and each parallel has two members at least, each level of an expression two operands,
-- each choice one branch.
use Rattle.std.specs.Prelude.{Bool, true, false, ◌&&◌, List, [], ◌∷◌, Option, Some, None}
use Rattle.std.specs.List.{list_all}
use Rattle.jolie_ast.specs.declared.expression.ExprForm.TheOpen.{ExprForm-F}
use Rattle.jolie_ast.specs.declared.expression.Expr.{Expr}
use Rattle.jolie_ast.specs.declared.expression.ExprForm.{ExprForm}
use Rattle.jolie_ast.specs.declared.expression.Factor.{Factor}
use Rattle.jolie_ast.specs.declared.expression.Term.{Term}
use Rattle.jolie_ast.specs.declared.expression.Member.{Member}
use Rattle.jolie_ast.specs.declared.expression.Path.{Path}
use Rattle.jolie_ast.specs.declared.expression.Step.{Step}
use Rattle.jolie_ast.specs.declared.process.Assignment.{Assignment}
use Rattle.jolie_ast.specs.declared.process.Assignment.TheVariants as assignment
use Rattle.jolie_ast.specs.declared.process.ForStep.{ForStep}
use Rattle.jolie_ast.specs.declared.process.ForStep.TheVariants as for_step
use Rattle.jolie_ast.specs.declared.process.Otherwise.TheOpen.{Process-F}
use Rattle.jolie_ast.specs.declared.process.Process.{Process}
use Rattle.jolie_ast.specs.declared.process.Block.{Block}
use Rattle.jolie_ast.specs.declared.process.If.{If}
use Rattle.jolie_ast.specs.declared.process.Otherwise.{Otherwise}
use Rattle.jolie_ast.specs.declared.process.Input.{Input}
use Rattle.jolie_ast.specs.declared.process.Reply.{Reply}
use Rattle.jolie_ast.specs.declared.process.Branch.{Branch}
use Rattle.jolie_ast.specs.declared.process.Answer.{Answer}
use Rattle.jolie_ast.specs.declared.process.Handler.{Handler}
use Rattle.jolie_ast.specs.declared.service.Clause.{Clause}
use Rattle.jolie_ast.specs.declared.service.Clause.TheVariants as clause
use Rattle.jolie_ast.specs.declared.tree.Definition.{Definition}
use Rattle.jolie_ast.specs.declared.tree.Definition.TheVariants as definition
use Rattle.jolie_ast.specs.Folds.{ExprFold, exprs_are, fold_form, fold_expr, fold_factor, fold_term, fold_member}
use Rattle.jolie_ast.specs.Folds.{fold_path, fold_step, ProcessFold, all_are, else_or, fold_process, fold_block}
use Rattle.jolie_ast.specs.Folds.{fold_conditional, fold_otherwise, fold_input, fold_reply, fold_branch, fold_answer}
use Rattle.jolie_ast.specs.Folds.{fold_handler}

-- ---- lists and parts that may be missing

-- one at least
abbrev pub has_one : {A : Type 0} → List A → Bool
has_one [] = false
has_one (a ∷ rest) = true

-- two at least
abbrev pub has_two : {A : Type 0} → List A → Bool
has_two [] = false
has_two (a ∷ rest) = has_one rest

-- each of these
abbrev pub each : List Bool → Bool
each parts = list_all (λ b. b) parts

-- a part that passes the test where there is one
abbrev pub option_all : {A : Type 0} → (A → Bool) → Option A → Bool
option_all test None = true
option_all test (Some a) = test a

-- a part that is formed where there is one
abbrev pub if_there : Option Bool → Bool
if_there part = option_all (λ b. b) part

-- ---- expressions

-- one level of a form, with whether its parts are formed: what joins operands has two at least
abbrev pub form_level : ExprForm-F Bool Bool Bool Bool Bool Bool Bool → Bool
form_level (ExprForm-F.Int n) = true
form_level (ExprForm-F.Long n) = true
form_level (ExprForm-F.Str text) = true
form_level (ExprForm-F.Bool b) = true
form_level (ExprForm-F.Path path) = path
form_level (ExprForm-F.Size path) = path
form_level (ExprForm-F.IsDefined path) = path
form_level (ExprForm-F.Cast to value) = value
form_level (ExprForm-F.Literal members) = each members
form_level (ExprForm-F.Minus value) = value
form_level (ExprForm-F.Not value) = value
form_level (ExprForm-F.Product first rest) = first && (has_one rest && each rest)
form_level (ExprForm-F.Sum first rest) = first && (has_one rest && each rest)
form_level (ExprForm-F.Compare left compared right) = left && right
form_level (ExprForm-F.And values) = has_two values && each values
form_level (ExprForm-F.Or values) = has_two values && each values

-- whether a part of an expression is formed, from whether the parts in it are
abbrev pub expressions_formed : ExprFold (exprs_are Bool)
expressions_formed = record {
  expr = λ e. e.form;
  form = form_level;
  path = λ p. p.first && each p.rest;
  step = λ s. if_there s.index;
  member = λ m. m.value;
  factor = λ f. f.operand;
  term = λ t. t.operand;
}

-- whether a form is formed
unfoldable pub form_formed : ExprForm → Bool
form_formed = fold_form expressions_formed

-- whether an expression is formed
unfoldable pub expr_formed : Expr → Bool
expr_formed = fold_expr expressions_formed

-- whether a later operand of a product is formed
unfoldable pub factor_formed : Factor → Bool
factor_formed = fold_factor expressions_formed

-- whether a later operand of a sum is formed
unfoldable pub term_formed : Term → Bool
term_formed = fold_term expressions_formed

-- whether a member of a literal is formed
unfoldable pub member_formed : Member → Bool
member_formed = fold_member expressions_formed

-- whether a path is formed
unfoldable pub path_formed : Path → Bool
path_formed = fold_path expressions_formed

-- whether a step of a path is formed
unfoldable pub step_formed : Step → Bool
step_formed = fold_step expressions_formed

-- ---- processes

-- what an assignment does to its path
abbrev pub assignment_formed : Assignment → Bool
assignment_formed (assignment.Root value) = expr_formed value
assignment_formed (assignment.Copy value) = expr_formed value
assignment_formed (assignment.Count count) = true

-- what the last part of a `for` does to its path
abbrev pub for_step_formed : ForStep → Bool
for_step_formed (for_step.Root value) = expr_formed value
for_step_formed (for_step.Count count) = true

-- one level of a process, with whether its parts are formed: a sequence and a parallel have two members at least, a
-- choice one branch
abbrev pub process_level : Process-F Bool Bool Bool Bool Bool Bool Bool Bool Bool → Bool
process_level (Process-F.«Process::Nothing» at) = true
process_level (Process-F.Assign path assignment) = path_formed path && assignment_formed assignment
process_level (Process-F.Undef at path) = path_formed path
process_level (Process-F.Correlate at variable value) = expr_formed value
process_level (Process-F.If part) = part
process_level (Process-F.While at test body) = expr_formed test && body
process_level (Process-F.For at path first test stepped step body) =
    path_formed path
    && (expr_formed first && (expr_formed test && (path_formed stepped && (for_step_formed step && body))))
process_level (Process-F.Input part) = part
process_level (Process-F.Choice at branches) = has_one branches && each branches
process_level (Process-F.Output operation port value answer) = option_all expr_formed value && if_there answer
process_level (Process-F.Scope at name body) = body
process_level (Process-F.Install at handlers) = each handlers
process_level (Process-F.Throw at fault value) = option_all expr_formed value
process_level (Process-F.Compensate at scope) = true
process_level (Process-F.InnerHandler at) = true
process_level (Process-F.Block part) = part
process_level (Process-F.Sequence parts) = has_two parts && each parts
process_level (Process-F.Parallel parts) = has_two parts && each parts

-- whether a part of a process is formed, from whether the parts in it are
abbrev pub processes_formed : ProcessFold (all_are Bool)
processes_formed = record {
  process = process_level;
  block = λ b. if_there b.body;
  conditional = λ i. expr_formed i.test && (i.body && i.otherwise);
  otherwise = else_or true;
  input = λ i. option_all path_formed i.request && if_there i.reply;
  reply = λ r. option_all path_formed r.path && r.body;
  branch = λ b. b.input && b.after;
  answer = λ a. option_all path_formed a.path && option_all each a.handlers;
  handler = λ h. h.body;
}

-- whether a process is formed
unfoldable pub process_formed : Process → Bool
process_formed = fold_process processes_formed

-- whether a block is formed
unfoldable pub block_formed : Block → Bool
block_formed = fold_block processes_formed

-- whether an `if` is formed
unfoldable pub if_formed : If → Bool
if_formed = fold_conditional processes_formed

-- whether what an `if` does where its test fails is formed
unfoldable pub otherwise_formed : Otherwise → Bool
otherwise_formed = fold_otherwise processes_formed

-- whether an input is formed
unfoldable pub input_formed : Input → Bool
input_formed = fold_input processes_formed

-- whether a reply part is formed
unfoldable pub reply_formed : Reply → Bool
reply_formed = fold_reply processes_formed

-- whether a branch is formed
unfoldable pub branch_formed : Branch → Bool
branch_formed = fold_branch processes_formed

-- whether what an output awaits is formed
unfoldable pub answer_formed : Answer → Bool
answer_formed = fold_answer processes_formed

-- whether a handler is formed
unfoldable pub handler_formed : Handler → Bool
handler_formed = fold_handler processes_formed

-- ---- files

-- whether the processes in a clause of a service are formed
abbrev pub clause_formed : Clause → Bool
clause_formed (clause.Init at body) = block_formed body
clause_formed (clause.Main at body) = block_formed body
clause_formed (clause.Execution at execution) = true
clause_formed (clause.InputPort port) = true
clause_formed (clause.OutputPort port) = true
clause_formed (clause.CorrelationSet at variables) = true

-- whether the processes in a definition are formed
abbrev pub definition_formed : Definition → Bool
definition_formed (definition.Service s) = list_all clause_formed s.clauses
definition_formed (definition.Type t) = true
definition_formed (definition.Interface i) = true

-- whether the processes of a file are formed
abbrev pub is_formed : List Definition → Bool
is_formed definitions = list_all definition_formed definitions
