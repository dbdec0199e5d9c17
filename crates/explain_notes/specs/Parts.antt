-- These definitions serve the proofs alone: no promise speaks of them.
-- What the parts of expressions and processes mention, each by itself.
use Rattle.std.specs.Prelude.{ℕ, Bool, true, false, not, ◌&&◌, ◌||◌, List, [], ◌++◌, Option, None, Some, map}
use Rattle.std.specs.List.{list_any}
use Rattle.jolie_ast.specs.declared.name.Name.{Name}
use Rattle.jolie_ast.specs.declared.expression.Expr.{Expr, out-Expr}
use Rattle.jolie_ast.specs.declared.expression.ExprForm.{ExprForm, out-ExprForm}
use Rattle.jolie_ast.specs.declared.expression.ExprForm.TheOpen.{ExprForm-F}
use Rattle.jolie_ast.specs.declared.expression.Factor.{Factor}
use Rattle.jolie_ast.specs.declared.expression.Term.{Term, out-Term}
use Rattle.jolie_ast.specs.declared.expression.Member.{Member}
use Rattle.jolie_ast.specs.declared.expression.Path.{Path}
use Rattle.jolie_ast.specs.declared.expression.Step.{Step}
use Rattle.jolie_ast.specs.declared.process.Process.{Process}
use Rattle.jolie_ast.specs.declared.process.If.{If}
use Rattle.jolie_ast.specs.declared.process.Otherwise.{Otherwise}
use Rattle.jolie_ast.specs.declared.process.Input.{Input, out-Input}
use Rattle.jolie_ast.specs.declared.process.Reply.{Reply}
use Rattle.jolie_ast.specs.declared.process.Branch.{Branch}
use Rattle.jolie_ast.specs.declared.process.Answer.{Answer}
use Rattle.jolie_ast.specs.declared.process.Handler.{Handler}
use Rattle.jolie_ast.specs.Folds.{fold_process, fold_conditional, fold_otherwise, fold_input, fold_reply, fold_branch}
use Rattle.jolie_ast.specs.Folds.{fold_answer, fold_handler, fold_form, fold_factor, fold_term, fold_member, fold_step}
use Rattle.explain_notes.specs.Mentions.{Seen, fails_at, in_role, kept_role}
use Rattle.explain_notes.specs.Expressions.{Walked, casts_number, expr_mentions, expression_seen, is_order}
use Rattle.explain_notes.specs.Statements.{received_mentions}
use Rattle.explain_notes.specs.Processes.{process_seen}

-- ---- expressions

-- what a form mentions
unfoldable pub form_mentions : ExprForm → Seen
form_mentions f = (fold_form expression_seen f).seen

-- what a later operand of a product mentions
unfoldable pub factor_mentions : Factor → Seen
factor_mentions f = (fold_factor expression_seen f).seen

-- what a later operand of a sum mentions
unfoldable pub term_mentions : Term → Seen
term_mentions t = (fold_term expression_seen t).seen

-- what a member of a literal mentions
unfoldable pub member_mentions : Member → Seen
member_mentions m = (fold_member expression_seen m).seen

-- a step of a path, and what its index mentions
unfoldable pub step_walked : Step → Walked
step_walked = fold_step expression_seen

-- what the index of a step mentions
abbrev pub index_mentions : Step → Seen
index_mentions s = (step_walked s).indices

-- ---- where an expression may have no value, by its form alone

-- a form is a text in quotes
abbrev pub is_text_in : ExprForm-F ExprForm Expr Factor Member Path Step Term → Bool
is_text_in (ExprForm-F.Str text) = true
is_text_in x = false

-- an expression is a text in quotes
abbrev pub is_text : Expr → Bool
is_text e = is_text_in (out-ExprForm (out-Expr e).form)

-- a later operand of a sum is a text in quotes
abbrev pub adds_text : Term → Bool
adds_text t = is_text (out-Term t).operand

-- a form is a number in digits, or the size of a path
abbrev pub is_number_in : ExprForm-F ExprForm Expr Factor Member Path Step Term → Bool
is_number_in (ExprForm-F.Int n) = true
is_number_in (ExprForm-F.Long n) = true
is_number_in (ExprForm-F.Size path) = true
is_number_in x = false

-- an expression is a number in digits, or the size of a path
abbrev pub is_number : Expr → Bool
is_number e = is_number_in (out-ExprForm (out-Expr e).form)

-- a sum puts texts together
abbrev pub texts_join : Expr → List Term → Bool
texts_join first rest = is_text first || list_any adds_text rest

-- a form may have no value though its parts have one
abbrev pub may_fail_in : ExprForm-F ExprForm Expr Factor Member Path Step Term → Bool
may_fail_in (ExprForm-F.Cast to value) = casts_number to
may_fail_in (ExprForm-F.Minus value) = not (is_number value)
may_fail_in (ExprForm-F.Product first rest) = true
may_fail_in (ExprForm-F.Sum first rest) = not (texts_join first rest)
may_fail_in (ExprForm-F.Compare left compared right) = is_order compared && not (is_number left && is_number right)
may_fail_in x = false

-- the same of a form
abbrev pub may_fail : ExprForm → Bool
may_fail f = may_fail_in (out-ExprForm f)

-- an index after a name at this place, if one is written
abbrev pub index_after : ℕ → Option Expr → Seen
index_after at None = []
index_after at (Some e) = fails_at (not (is_number e)) at ++ expr_mentions e

-- ---- processes

-- what a process mentions
unfoldable pub process_mentions : Process → Seen
process_mentions = fold_process process_seen

-- what an `if` mentions
unfoldable pub if_mentions : If → Seen
if_mentions = fold_conditional process_seen

-- what an `if` mentions where its test fails
unfoldable pub otherwise_mentions : Otherwise → Seen
otherwise_mentions = fold_otherwise process_seen

-- what an input mentions, before what stands after it
unfoldable pub input_mentions : Input → Seen → Seen
input_mentions = fold_input process_seen

-- what a request with this reply part mentions, by its operation and what it takes
unfoldable pub reply_mentions : Reply → Name → Seen → Seen
reply_mentions = fold_reply process_seen

-- what a branch mentions
unfoldable pub branch_mentions : Branch → Seen
branch_mentions = fold_branch process_seen

-- what an output awaits mentions
unfoldable pub answer_mentions : Answer → Seen
answer_mentions = fold_answer process_seen

-- what a handler mentions
unfoldable pub handler_mentions : Handler → Seen
handler_mentions = fold_handler process_seen

-- what an input takes, by its reply part
abbrev pub asked_by : Name → Option Path → Option Reply → Seen
asked_by operation request None = received_mentions request
asked_by operation request (Some r) = reply_mentions r operation (received_mentions request)

-- what an input takes
abbrev pub asked_mentions : Input → Seen
asked_mentions i = asked_by (out-Input i).operation (out-Input i).request (out-Input i).reply

-- what stands after an input, which is answered or not
abbrev pub after_input : Bool → Seen → Seen
after_input true after = after
after_input false after = map (in_role kept_role) after
