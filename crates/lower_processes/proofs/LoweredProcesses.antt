-- What the processes of a text mean at each form.
use Rattle.std.proofs.Common.{◌≡◌, ℕ, List, map, Option, None, Some, ap, sym, ◌∙◌}
use Rattle.std.specs.Prelude.{option_map, unwrap_or}
use Rattle.jolie_ast.specs.declared.name.Name.{Name}
use Rattle.jolie_ast.specs.declared.expression.Expr.{Expr}
use Rattle.jolie_ast.specs.declared.expression.Path.{Path}
use Rattle.jolie_ast.specs.declared.process.Assignment.{Assignment}
use Rattle.jolie_ast.specs.declared.process.ForStep.{ForStep}
use Rattle.jolie_ast.specs.declared.process.Otherwise.TheOpen.{Otherwise-F, Process-F}
use Rattle.jolie_ast.specs.declared.process.Otherwise.TheFolds.{map-Process}
use Rattle.jolie_ast.specs.declared.process.Otherwise.TheVariants as otherwise
use Rattle.jolie_ast.specs.declared.process.Process.TheVariants as process
use Rattle.jolie_ast.specs.declared.process.Process.{Process, roll-Process}
use Rattle.jolie_ast.specs.declared.process.Otherwise.{Otherwise}
use Rattle.jolie_ast.specs.declared.process.Answer.{Answer, out-Answer, roll-Answer, roll-out-Answer}
use Rattle.jolie_ast.specs.declared.process.Block.{Block, out-Block, roll-Block, roll-out-Block}
use Rattle.jolie_ast.specs.declared.process.Branch.{Branch, out-Branch, roll-out-Branch}
use Rattle.jolie_ast.specs.declared.process.Handler.{Handler, out-Handler, roll-out-Handler}
use Rattle.jolie_ast.specs.declared.process.If.{If, out-If, roll-out-If}
use Rattle.jolie_ast.specs.declared.process.Input.{Input, out-Input, roll-Input, roll-out-Input}
use Rattle.jolie_ast.specs.declared.process.Reply.{Reply, out-Reply, roll-out-Reply}
use Rattle.behaviour_tree.specs.Data as plain
use Rattle.behaviour_tree.specs.Data.{Proc}
use Rattle.behaviour_tree.specs.View.{HandlerView, BranchView, ReplyView, procs_of, branches_of, handlers_of}
use Rattle.check_base.specs.Files.{place_in}
use Rattle.lower_processes.specs.Expressions.{lowered_expr, lowered_path, lowered_if_written}
use Rattle.lower_processes.specs.Behaviours.{Numbering, AnswerView, InputView, alone, branch_after, sent, lowered_port, lowered_assignment, lowered_for, lowered_step, key_of, process_level, lowered_process, lowered_conditional, lowered_otherwise, lowered_input, lowered_reply, lowered_branch, lowered_answer, lowered_handler, lowered_block, lowering}
use Rattle.jolie_ast.proofs.Folds.{process_rolls, block_rolls, conditional_rolls, otherwise_rolls, input_rolls, reply_rolls, branch_rolls, answer_rolls, handler_rolls}

-- what a process means, by the form that it is made of
process_made : (e : Numbering) (x : Process-F Otherwise Process Answer Block Branch Handler If Input Reply) {p : Process} → roll-Process x ≡ p
    → lowered_process e p ≡ process_level e (map-Process Otherwise Process Answer Block Branch Handler If Input Reply Proc Proc AnswerView Proc BranchView HandlerView Proc InputView ReplyView (lowered_otherwise e) (lowered_process e) (lowered_answer e) (lowered_block e) (lowered_branch e) (lowered_handler e) (lowered_conditional e) (lowered_input e) (lowered_reply e) x)
unfolding lowered_process lowered_conditional lowered_otherwise lowered_input lowered_reply lowered_branch lowered_answer lowered_handler lowered_block
process_made e x made = ap (lowered_process e) (sym made) ∙ process_rolls (lowering e) x

pub nothing_lowered : (e : Numbering) (at : ℕ) → lowered_process e (process.Nothing at) ≡ plain.nothing
nothing_lowered e at = process_made e (Process-F.«Process::Nothing» at) (process.rolls-Nothing at)

pub assign_lowered : (e : Numbering) (path : Path) (a : Assignment) → lowered_process e (process.Assign path a) ≡ lowered_assignment (lowered_path path) a
assign_lowered e path a = process_made e (Process-F.Assign path a) (process.rolls-Assign path a)

pub undef_lowered : (e : Numbering) (at : ℕ) (path : Path) → lowered_process e (process.Undef at path) ≡ plain.undef (lowered_path path)
undef_lowered e at path = process_made e (Process-F.Undef at path) (process.rolls-Undef at path)

pub correlate_lowered : (e : Numbering) (at : ℕ) (variable : Name) (value : Expr) → lowered_process e (process.Correlate at variable value) ≡ plain.bind (place_in e.variables variable.text) (lowered_expr value)
correlate_lowered e at variable value = process_made e (Process-F.Correlate at variable value) (process.rolls-Correlate at variable value)

pub conditional_lowered : (e : Numbering) (i : If) → lowered_process e (process.If i) ≡ lowered_conditional e i
conditional_lowered e i = process_made e (Process-F.If i) (process.rolls-If i)

pub while_lowered : (e : Numbering) (at : ℕ) (test : Expr) (body : Block) → lowered_process e (process.While at test body) ≡ plain.repeat (lowered_expr test) (lowered_block e body)
while_lowered e at test body = process_made e (Process-F.While at test body) (process.rolls-While at test body)

pub for_lowered : (e : Numbering) (at : ℕ) (path : Path) (first test : Expr) (stepped : Path) (step : ForStep) (body : Block) → lowered_process e (process.For at path first test stepped step body) ≡ lowered_for (plain.assign (lowered_path path) (lowered_expr first)) (lowered_expr test) (lowered_block e body) (lowered_step (lowered_path stepped) step)
for_lowered e at path first test stepped step body = process_made e (Process-F.For at path first test stepped step body) (process.rolls-For at path first test stepped step body)

pub input_form_lowered : (e : Numbering) (i : Input) → lowered_process e (process.Input i) ≡ alone (lowered_input e i)
input_form_lowered e i = process_made e (Process-F.Input i) (process.rolls-Input i)

pub choice_lowered : (e : Numbering) (at : ℕ) (branches : List Branch) → lowered_process e (process.Choice at branches) ≡ plain.choice (branches_of (map (lowered_branch e) branches))
choice_lowered e at branches = process_made e (Process-F.Choice at branches) (process.rolls-Choice at branches)

pub output_lowered : (e : Numbering) (operation port : Name) (value : Option Expr) (answer : Option Answer) → lowered_process e (process.Output operation port value answer) ≡ sent (lowered_port e port.text).number (place_in (lowered_port e port.text).operations operation.text) (lowered_if_written value) (option_map (lowered_answer e) answer)
output_lowered e operation port value None = process_made e (Process-F.Output operation port value None) (process.rolls-Output operation port value None)
output_lowered e operation port value (Some it) = process_made e (Process-F.Output operation port value (Some it)) (process.rolls-Output operation port value (Some it))

pub scope_lowered : (e : Numbering) (at : ℕ) (name : Name) (body : Block) → lowered_process e (process.Scope at name body) ≡ plain.scope (place_in e.names name.text) (lowered_block e body)
scope_lowered e at name body = process_made e (Process-F.Scope at name body) (process.rolls-Scope at name body)

pub install_lowered : (e : Numbering) (at : ℕ) (handlers : List Handler) → lowered_process e (process.Install at handlers) ≡ plain.install (handlers_of (map (lowered_handler e) handlers))
install_lowered e at handlers = process_made e (Process-F.Install at handlers) (process.rolls-Install at handlers)

pub throw_lowered : (e : Numbering) (at : ℕ) (fault : Name) (value : Option Expr) → lowered_process e (process.Throw at fault value) ≡ plain.throw (place_in e.names fault.text) (lowered_if_written value)
throw_lowered e at fault value = process_made e (Process-F.Throw at fault value) (process.rolls-Throw at fault value)

pub compensate_lowered : (e : Numbering) (at : ℕ) (scope : Name) → lowered_process e (process.Compensate at scope) ≡ plain.comp (place_in e.names scope.text)
compensate_lowered e at scope = process_made e (Process-F.Compensate at scope) (process.rolls-Compensate at scope)

pub inner_handler_lowered : (e : Numbering) (at : ℕ) → lowered_process e (process.InnerHandler at) ≡ plain.inner_handler
inner_handler_lowered e at = process_made e (Process-F.InnerHandler at) (process.rolls-InnerHandler at)

pub block_form_lowered : (e : Numbering) (b : Block) → lowered_process e (process.Block b) ≡ plain.block (lowered_block e b)
block_form_lowered e b = process_made e (Process-F.Block b) (process.rolls-Block b)

pub sequence_lowered : (e : Numbering) (ps : List Process) → lowered_process e (process.Sequence ps) ≡ plain.sequence (procs_of (map (lowered_process e) ps))
sequence_lowered e ps = process_made e (Process-F.Sequence ps) (process.rolls-Sequence ps)

pub parallel_lowered : (e : Numbering) (ps : List Process) → lowered_process e (process.Parallel ps) ≡ plain.parallel (procs_of (map (lowered_process e) ps))
parallel_lowered e ps = process_made e (Process-F.Parallel ps) (process.rolls-Parallel ps)

-- ---- what an `if` does where its test fails

pub no_else_lowered : (e : Numbering) → lowered_otherwise e otherwise.Nothing ≡ plain.nothing
unfolding lowered_process lowered_conditional lowered_otherwise lowered_input lowered_reply lowered_branch lowered_answer lowered_handler lowered_block
no_else_lowered e =
    ap (lowered_otherwise e) (sym otherwise.rolls-Nothing)
    ∙ otherwise_rolls (lowering e) Otherwise-F.«Otherwise::Nothing»

pub else_if_lowered : (e : Numbering) (i : If) → lowered_otherwise e (otherwise.ElseIf i) ≡ lowered_conditional e i
unfolding lowered_process lowered_conditional lowered_otherwise lowered_input lowered_reply lowered_branch lowered_answer lowered_handler lowered_block
else_if_lowered e i =
    ap (lowered_otherwise e) (sym (otherwise.rolls-ElseIf i))
    ∙ otherwise_rolls (lowering e) (Otherwise-F.ElseIf i)

pub else_lowered : (e : Numbering) (b : Block) → lowered_otherwise e (otherwise.Else b) ≡ lowered_block e b
unfolding lowered_process lowered_conditional lowered_otherwise lowered_input lowered_reply lowered_branch lowered_answer lowered_handler lowered_block
else_lowered e b =
    ap (lowered_otherwise e) (sym (otherwise.rolls-Else b))
    ∙ otherwise_rolls (lowering e) (Otherwise-F.Else b)

-- ---- the parts of processes

pub if_is : (e : Numbering) (i : If) → lowered_conditional e i ≡ plain.choose (lowered_expr (out-If i).test) (lowered_block e (out-If i).body) (lowered_otherwise e (out-If i).otherwise)
unfolding lowered_process lowered_conditional lowered_otherwise lowered_input lowered_reply lowered_branch lowered_answer lowered_handler lowered_block
if_is e i =
    ap (lowered_conditional e) (sym (roll-out-If i))
    ∙ conditional_rolls (lowering e) (out-If i)

pub branch_is : (e : Numbering) (b : Branch) → lowered_branch e b ≡ branch_after (lowered_input e (out-Branch b).input) (lowered_block e (out-Branch b).after)
unfolding lowered_process lowered_conditional lowered_otherwise lowered_input lowered_reply lowered_branch lowered_answer lowered_handler lowered_block
branch_is e b =
    ap (lowered_branch e) (sym (roll-out-Branch b))
    ∙ branch_rolls (lowering e) (out-Branch b)

pub reply_is : (e : Numbering) (r : Reply) → lowered_reply e r ≡ record { path = option_map lowered_path (out-Reply r).path; body = lowered_block e (out-Reply r).body }
unfolding lowered_process lowered_conditional lowered_otherwise lowered_input lowered_reply lowered_branch lowered_answer lowered_handler lowered_block
reply_is e r =
    ap (lowered_reply e) (sym (roll-out-Reply r))
    ∙ reply_rolls (lowering e) (out-Reply r)

pub handler_is : (e : Numbering) (h : Handler) → lowered_handler e h ≡ record { key = key_of e.names (out-Handler h).key; body = lowered_process e (out-Handler h).body }
unfolding lowered_process lowered_conditional lowered_otherwise lowered_input lowered_reply lowered_branch lowered_answer lowered_handler lowered_block
handler_is e h =
    ap (lowered_handler e) (sym (roll-out-Handler h))
    ∙ handler_rolls (lowering e) (out-Handler h)

pub block_made : (e : Numbering) (at : ℕ) (body : Option Process) → lowered_block e (roll-Block (record { at = at; body = body })) ≡ unwrap_or (option_map (lowered_process e) body) plain.nothing
unfolding lowered_process lowered_conditional lowered_otherwise lowered_input lowered_reply lowered_branch lowered_answer lowered_handler lowered_block
block_made e at None = block_rolls (lowering e) (record { at = at; body = None })
block_made e at (Some it) = block_rolls (lowering e) (record { at = at; body = Some it })

pub block_is : (e : Numbering) (b : Block) → lowered_block e b ≡ unwrap_or (option_map (lowered_process e) (out-Block b).body) plain.nothing
block_is e b = ap (lowered_block e) (sym (roll-out-Block b)) ∙ block_made e (out-Block b).at (out-Block b).body

pub input_made : (e : Numbering) (operation : Name) (request : Option Path) (reply : Option Reply)
    → lowered_input e (roll-Input (record { operation = operation; request = request; reply = reply })) ≡ record { op = place_in e.inputs operation.text; target = option_map lowered_path request; reply = option_map (lowered_reply e) reply }
unfolding lowered_process lowered_conditional lowered_otherwise lowered_input lowered_reply lowered_branch lowered_answer lowered_handler lowered_block
input_made e operation request None = input_rolls (lowering e) (record { operation = operation; request = request; reply = None })
input_made e operation request (Some it) = input_rolls (lowering e) (record { operation = operation; request = request; reply = Some it })

pub input_is : (e : Numbering) (i : Input) → lowered_input e i ≡ record { op = place_in e.inputs (out-Input i).operation.text; target = option_map lowered_path (out-Input i).request; reply = option_map (lowered_reply e) (out-Input i).reply }
input_is e i = ap (lowered_input e) (sym (roll-out-Input i)) ∙ input_made e (out-Input i).operation (out-Input i).request (out-Input i).reply

-- the handlers of an answer, none where no list is written
abbrev pub handlers_lowered : Numbering → Option (List Handler) → plain.HandlerList
handlers_lowered e None = plain.no_handlers
handlers_lowered e (Some handlers) = handlers_of (map (lowered_handler e) handlers)

pub answer_made : (e : Numbering) (path : Option Path) (handlers : Option (List Handler)) → lowered_answer e (roll-Answer (record { path = path; handlers = handlers })) ≡ record { target = option_map lowered_path path; handlers = handlers_lowered e handlers }
unfolding lowered_process lowered_conditional lowered_otherwise lowered_input lowered_reply lowered_branch lowered_answer lowered_handler lowered_block
answer_made e path None = answer_rolls (lowering e) (record { path = path; handlers = None })
answer_made e path (Some it) = answer_rolls (lowering e) (record { path = path; handlers = Some it })

pub answer_is : (e : Numbering) (a : Answer) → lowered_answer e a ≡ record { target = option_map lowered_path (out-Answer a).path; handlers = handlers_lowered e (out-Answer a).handlers }
answer_is e a = ap (lowered_answer e) (sym (roll-out-Answer a)) ∙ answer_made e (out-Answer a).path (out-Answer a).handlers

-- ---- parts that may be missing

pub empty_block : (e : Numbering) (b : Block) → (out-Block b).body ≡ None → lowered_block e b ≡ plain.nothing
empty_block e b none = block_is e b ∙ ap (λ p. unwrap_or (option_map (lowered_process e) p) plain.nothing) none

pub full_block : (e : Numbering) (b : Block) (p : Process) → (out-Block b).body ≡ Some p → lowered_block e b ≡ lowered_process e p
full_block e b p some = block_is e b ∙ ap (λ p. unwrap_or (option_map (lowered_process e) p) plain.nothing) some

-- an input with what comes after it
pub input_before : (e : Numbering) (i : Input) (after : Proc) → branch_after (lowered_input e i) after ≡ record { op = place_in e.inputs (out-Input i).operation.text; target = option_map lowered_path (out-Input i).request; reply = option_map (lowered_reply e) (out-Input i).reply; after = after }
input_before e i after = ap (λ v. branch_after v after) (input_is e i)

-- the path of an answer
pub answer_target : (e : Numbering) (a : Answer) → (lowered_answer e a).target ≡ option_map lowered_path (out-Answer a).path
answer_target e a = ap (λ (v : AnswerView). v.target) (answer_is e a)

-- an answer with no list of handlers
pub bare_answer : (e : Numbering) (a : Answer) → (out-Answer a).handlers ≡ None → (lowered_answer e a).handlers ≡ plain.no_handlers
bare_answer e a none = ap (λ (v : AnswerView). v.handlers) (answer_is e a) ∙ ap (handlers_lowered e) none

-- an answer with handlers
pub handled_answer : (e : Numbering) (a : Answer) (hs : List Handler) → (out-Answer a).handlers ≡ Some hs → (lowered_answer e a).handlers ≡ handlers_of (map (lowered_handler e) hs)
handled_answer e a hs some = ap (λ (v : AnswerView). v.handlers) (answer_is e a) ∙ ap (handlers_lowered e) some
