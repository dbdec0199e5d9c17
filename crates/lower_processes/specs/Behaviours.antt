-- What the processes of a text mean: operations, ports, variables and names by their numbers, and short forms written
-- out.
use Rattle.std.specs.Prelude.{ℕ, pos, List, [], ◌∷◌, bytes_eq, if◌then◌else◌, Option, None, Some, option_map, unwrap_or}
use Rattle.std.specs.Option.{option_map_or}
use Rattle.jolie_trees.specs.declared.root.Root.TheVariants as root
use Rattle.jolie_ast.specs.declared.process.Assignment.{Assignment}
use Rattle.jolie_ast.specs.declared.process.Assignment.TheVariants as assignment
use Rattle.jolie_ast.specs.declared.process.Count.{Count}
use Rattle.jolie_ast.specs.declared.process.Count.TheVariants as count
use Rattle.jolie_ast.specs.declared.process.ForStep.{ForStep}
use Rattle.jolie_ast.specs.declared.process.ForStep.TheVariants as for_step
use Rattle.jolie_ast.specs.declared.process.HandlerKey as ast_key
use Rattle.jolie_ast.specs.declared.process.HandlerKey.TheVariants as key
use Rattle.jolie_ast.specs.declared.process.Otherwise.TheOpen.{Input-F, Process-F}
use Rattle.jolie_ast.specs.declared.process.Answer.{Answer}
use Rattle.jolie_ast.specs.declared.process.Block.{Block}
use Rattle.jolie_ast.specs.declared.process.Branch.{Branch}
use Rattle.jolie_ast.specs.declared.process.Handler.{Handler}
use Rattle.jolie_ast.specs.declared.process.If.{If}
use Rattle.jolie_ast.specs.declared.process.Input.{Input}
use Rattle.jolie_ast.specs.declared.process.Otherwise.{Otherwise}
use Rattle.jolie_ast.specs.declared.process.Process.{Process}
use Rattle.jolie_ast.specs.declared.process.Reply.{Reply}
use Rattle.jolie_ast.specs.Folds.{ProcessResults, ProcessFold, level, all_are, else_or, fold_process, fold_block}
use Rattle.jolie_ast.specs.Folds.{fold_conditional, fold_otherwise, fold_input, fold_reply, fold_branch, fold_answer}
use Rattle.jolie_ast.specs.Folds.{fold_handler}
use Rattle.behaviour_tree.specs.declared.expr.SumOp.{SumOp}
use Rattle.behaviour_tree.specs.declared.expr.SumOp.TheVariants.{Plus, Minus}
use Rattle.behaviour_tree.specs.declared.behaviour.HandlerKey.{HandlerKey}
use Rattle.behaviour_tree.specs.declared.behaviour.HandlerKey.TheVariants as handler_key
use Rattle.behaviour_tree.specs.Data as plain
use Rattle.behaviour_tree.specs.Data.{PathTree, Proc, HandlerList}
use Rattle.behaviour_tree.specs.View.{HandlerView, BranchView, ReplyView, procs_of, branches_of, handlers_of}
use Rattle.check_base.specs.Files.{place_in}
use Rattle.check_base.specs.Console.{console, println}
use Rattle.lower_processes.specs.Expressions.{lowered_expr, lowered_path, lowered_if_written}

-- an output port by its number
pub record NumberedPort : Type 0 where
  pub name : List ℕ
  pub number : ℕ
  pub operations : List (List ℕ)

-- what the processes of a service name by numbers: operations of its input ports, output ports, variables, and faults
-- and scopes
pub record Numbering : Type 0 where
  pub inputs : List (List ℕ)
  pub ports : List NumberedPort
  pub console : ℕ
  pub variables : List (List ℕ)
  pub names : List (List ℕ)

-- the output port of a name; the one that every service has comes after all ports
abbrev pub port_among : List NumberedPort → NumberedPort → List ℕ → NumberedPort
port_among [] none name = none
port_among (p ∷ ports) none name = if bytes_eq p.name name then p else port_among ports none name

-- the port that every service has
abbrev pub console_port : Numbering → NumberedPort
console_port e = record { name = console; number = e.console; operations = println.name.text ∷ [] }

-- the output port of a name
abbrev pub lowered_port : Numbering → List ℕ → NumberedPort
lowered_port e name = if bytes_eq name console then console_port e else port_among e.ports (console_port e) name

-- ---- short forms

-- the operator of a count
abbrev pub count_op : Count → SumOp
count_op count.Up = Plus
count_op count.Down = Minus

-- the value at a path, and one more or less
abbrev pub one_further : PathTree → Count → plain.Exp
one_further p c =
    plain.sum (plain.at_path p) (plain.sum_part (count_op c) (plain.constant (root.Int (pos 1))) plain.no_sum_parts)

-- `p++` is `p = p + 1`, and `p--` is `p = p - 1`
abbrev pub counted : PathTree → Count → Proc
counted p c = plain.assign p (one_further p c)

-- an assignment to a path
abbrev pub lowered_assignment : PathTree → Assignment → Proc
lowered_assignment p (assignment.Root e) = plain.assign p (lowered_expr e)
lowered_assignment p (assignment.Copy e) = plain.copy p (lowered_expr e)
lowered_assignment p (assignment.Count c) = counted p c

-- the last part of a `for`
abbrev pub lowered_step : PathTree → ForStep → Proc
lowered_step p (for_step.Root e) = plain.assign p (lowered_expr e)
lowered_step p (for_step.Count c) = counted p c

-- two behaviours, one after the other
abbrev pub in_turn : Proc → Proc → Proc
in_turn p q = plain.sequence (procs_of (p ∷ q ∷ []))

-- `for (a, e, c) B` is `a ; while (e) { B ; c }`
abbrev pub lowered_for : Proc → plain.Exp → Proc → Proc → Proc
lowered_for first test body step = in_turn first (plain.repeat test (in_turn body step))

-- ---- parts

-- an input before what comes after it
pub record InputView : Type 0 where
  pub op : ℕ
  pub target : Option PathTree
  pub reply : Option ReplyView

-- an input with what comes after it
abbrev pub branch_after : InputView → Proc → BranchView
branch_after i after = record { op = i.op; target = i.target; reply = i.reply; after = after }

-- what an output awaits
pub record AnswerView : Type 0 where
  pub target : Option PathTree
  pub handlers : HandlerList

-- what a handler stands under, its fault by its place among the names
abbrev pub key_of : List (List ℕ) → ast_key.HandlerKey → HandlerKey
key_of names (key.This at) = handler_key.This
key_of names (key.Named n) = handler_key.Fault (place_in names n.text)

-- an output to an operation of a port that awaits nothing, or an answer
abbrev pub sent : ℕ → ℕ → plain.Exp → Option AnswerView → Proc
sent port operation value None = plain.notify port operation value
sent port operation value (Some a) = plain.solicit port operation value a.target a.handlers

-- an output that awaits nothing, or an answer
abbrev pub lowered_output : NumberedPort → List ℕ → plain.Exp → Option AnswerView → Proc
lowered_output port operation value answer = sent port.number (place_in port.operations operation) value answer

-- an input that stands alone is a choice of one
abbrev pub alone : InputView → Proc
alone i = plain.choice (branches_of (branch_after i plain.nothing ∷ []))

-- handlers, none where no list is written
abbrev pub lowered_handlers : Option (List HandlerView) → HandlerList
lowered_handlers handlers = option_map_or handlers_of handlers plain.no_handlers

-- ---- processes

-- what each part of a process means
abbrev pub process_views : ProcessResults
process_views = record (all_are Proc) {
  input = InputView;
  reply = ReplyView;
  branch = BranchView;
  answer = AnswerView;
  handler = HandlerView;
}

-- one level of a process
abbrev pub process_level : Numbering → level process_views Process-F → Proc
process_level e (Process-F.«Process::Nothing» at) = plain.nothing
process_level e (Process-F.Assign path a) = lowered_assignment (lowered_path path) a
process_level e (Process-F.Undef at path) = plain.undef (lowered_path path)
process_level e (Process-F.Correlate at variable value) =
    plain.bind (place_in e.variables variable.text) (lowered_expr value)
process_level e (Process-F.If conditional) = conditional
process_level e (Process-F.While at test body) = plain.repeat (lowered_expr test) body
process_level e (Process-F.For at path first test stepped step body) =
    lowered_for (plain.assign (lowered_path path) (lowered_expr first)) (lowered_expr test) body
    (lowered_step (lowered_path stepped) step)
process_level e (Process-F.Input input) = alone input
process_level e (Process-F.Choice at branches) = plain.choice (branches_of branches)
process_level e (Process-F.Output operation port value answer) =
    lowered_output (lowered_port e port.text) operation.text (lowered_if_written value) answer
process_level e (Process-F.Scope at name body) = plain.scope (place_in e.names name.text) body
process_level e (Process-F.Install at handlers) = plain.install (handlers_of handlers)
process_level e (Process-F.Throw at fault value) = plain.throw (place_in e.names fault.text) (lowered_if_written value)
process_level e (Process-F.Compensate at scope) = plain.comp (place_in e.names scope.text)
process_level e (Process-F.InnerHandler at) = plain.inner_handler
process_level e (Process-F.Block body) = plain.block body
process_level e (Process-F.Sequence statements) = plain.sequence (procs_of statements)
process_level e (Process-F.Parallel members) = plain.parallel (procs_of members)

-- one level of an input
abbrev pub input_level : Numbering → level process_views Input-F → InputView
input_level e i = record {
  op = place_in e.inputs i.operation.text;
  target = option_map lowered_path i.request;
  reply = i.reply;
}

-- what a part means, from what the parts in it mean: a block what stands in it, or nothing
abbrev pub lowering : Numbering → ProcessFold process_views
lowering e = record {
  process = process_level e;
  block = λ b. unwrap_or b.body plain.nothing;
  conditional = λ i. plain.choose (lowered_expr i.test) i.body i.otherwise;
  otherwise = else_or plain.nothing;
  input = input_level e;
  reply = λ r. record { path = option_map lowered_path r.path; body = r.body };
  branch = λ b. branch_after b.input b.after;
  answer = λ a. record { target = option_map lowered_path a.path; handlers = lowered_handlers a.handlers };
  handler = λ h. record { key = key_of e.names h.key; body = h.body };
}

-- the behaviour that a block means
unfoldable pub lowered_block : Numbering → Block → Proc
lowered_block e = fold_block (lowering e)

-- the behaviour that a process means
unfoldable pub lowered_process : Numbering → Process → Proc
lowered_process e = fold_process (lowering e)

-- the behaviour that an `if` means
unfoldable pub lowered_conditional : Numbering → If → Proc
lowered_conditional e = fold_conditional (lowering e)

-- the behaviour that what follows an `if` means
unfoldable pub lowered_otherwise : Numbering → Otherwise → Proc
lowered_otherwise e = fold_otherwise (lowering e)

-- what an input means
unfoldable pub lowered_input : Numbering → Input → InputView
lowered_input e = fold_input (lowering e)

-- what the reply part of an input means
unfoldable pub lowered_reply : Numbering → Reply → ReplyView
lowered_reply e = fold_reply (lowering e)

-- the branch that a branch of the text means
unfoldable pub lowered_branch : Numbering → Branch → BranchView
lowered_branch e = fold_branch (lowering e)

-- what the answer to an output means
unfoldable pub lowered_answer : Numbering → Answer → AnswerView
lowered_answer e = fold_answer (lowering e)

-- the handler that a handler of the text means
unfoldable pub lowered_handler : Numbering → Handler → HandlerView
lowered_handler e = fold_handler (lowering e)

-- the behaviour of a block that may be missing
abbrev pub lowered_if_there : Numbering → Option Block → Proc
lowered_if_there e body = option_map_or (lowered_block e) body plain.nothing
