-- These definitions serve the proofs alone: no promise speaks of them.
-- What is refused of the parts of processes.
use Rattle.std.specs.Prelude.{Bool, true, false, not, List, [], ◌∷◌, ◌++◌, map, flat_map, Option, None, Some, is_some}
use Rattle.jolie_ast.specs.declared.name.Name.{Name}
use Rattle.jolie_ast.specs.declared.process.Otherwise.{Otherwise}
use Rattle.jolie_ast.specs.declared.process.Process.{Process}
use Rattle.jolie_ast.specs.declared.process.Answer.{Answer, out-Answer}
use Rattle.jolie_ast.specs.declared.process.Branch.{Branch, out-Branch}
use Rattle.jolie_ast.specs.declared.process.Handler.{Handler, out-Handler}
use Rattle.jolie_ast.specs.declared.process.If.{If}
use Rattle.jolie_ast.specs.declared.process.Input.{Input, out-Input}
use Rattle.jolie_ast.specs.declared.process.Reply.{Reply, out-Reply}
use Rattle.jolie_ast.specs.Folds.{fold_conditional, fold_otherwise}
use Rattle.check_base.specs.declared.refusal.CheckName.TheVariants.{DuplicateName, UnknownOperation, WrongKind}
use Rattle.check_base.specs.declared.refusal.Refusal.{Refusal}
use Rattle.check_base.specs.Repeated.{repeated}
use Rattle.check_base.specs.Least.{refused, refused_if}
use Rattle.check_processes.specs.declared.process_rules.Where.{Where}
use Rattle.check_processes.specs.declared.process_rules.Where.TheVariants as stands
use Rattle.check_processes.specs.Surroundings.{Surroundings}
use Rattle.check_processes.specs.ProcessRules.{agree, used, sends, wrong_if_written, Found, key_name, process_refused}
use Rattle.check_processes.specs.ProcessRules.{block_refused, parts_refused}

-- whether processes that stand there are in a handler
abbrev pub in_handler : Where → Bool
in_handler stands.Plain = false
in_handler stands.Handler = true

-- what is refused of an `if`
unfoldable pub conditional_refused : Surroundings → If → Found
conditional_refused e = fold_conditional (parts_refused e)

-- what is refused of what an `if` does where its test fails
unfoldable pub otherwise_refused : Surroundings → Otherwise → Found
otherwise_refused e = fold_otherwise (parts_refused e)

-- what is refused of several processes
abbrev pub processes_refused : Surroundings → List Process → Found
processes_refused e processes h = flat_map (λ (p : Process). process_refused e p h) processes

-- what is refused of a reply part
abbrev pub reply_refused : Surroundings → Reply → Found
reply_refused e r h = wrong_if_written (out-Reply r).path ++ block_refused e (out-Reply r).body h

-- the same of one that may be there
abbrev pub reply_if_written : Surroundings → Option Reply → Found
reply_if_written e None h = []
reply_if_written e (Some r) h = reply_refused e r h

-- what is refused of an input
abbrev pub input_refused : Surroundings → Input → Found
input_refused e i h =
    used e.inputs (out-Input i).operation (is_some (out-Input i).reply) ++ wrong_if_written (out-Input i).request
    ++ reply_if_written e (out-Input i).reply h

-- the operation of a branch
abbrev pub branch_operation : Branch → Name
branch_operation b = (out-Input (out-Branch b).input).operation

-- what is refused of a branch
abbrev pub branch_refused : Surroundings → Branch → Found
branch_refused e b h = input_refused e (out-Branch b).input h ++ block_refused e (out-Branch b).after h

-- what is refused of branches one by one
abbrev pub branches_refused : Surroundings → List Branch → Found
branches_refused e branches h = flat_map (λ (b : Branch). branch_refused e b h) branches

-- what is refused of a choice: an operation that stands a second time, and what is refused of its branches
abbrev pub choice_refused : Surroundings → List Branch → Found
choice_refused e branches h =
    refused DuplicateName (repeated (map branch_operation branches)) ++ branches_refused e branches h

-- the name of a handler
abbrev pub handler_name : Handler → Name
handler_name f = key_name (out-Handler f).key

-- what is refused in a handler
abbrev pub handler_refused : Surroundings → Handler → List Refusal
handler_refused e f = process_refused e (out-Handler f).body true

-- what is refused in handlers one by one
abbrev pub bodies_refused : Surroundings → List Handler → List Refusal
bodies_refused e list = flat_map (handler_refused e) list

-- what is refused of handlers
abbrev pub handlers_refused : Surroundings → List Handler → List Refusal
handlers_refused e list = refused DuplicateName (repeated (map handler_name list)) ++ bodies_refused e list

-- what is refused of the handlers of an answer, which may be written
abbrev pub answer_handlers_refused : Surroundings → Option (List Handler) → List Refusal
answer_handlers_refused e None = []
answer_handlers_refused e (Some list) = handlers_refused e list

-- what is refused of what an output awaits
abbrev pub answer_refused : Surroundings → Answer → List Refusal
answer_refused e a = wrong_if_written (out-Answer a).path ++ answer_handlers_refused e (out-Answer a).handlers

-- what is refused of an output
abbrev pub output_refused : Surroundings → Name → Name → Option Answer → List Refusal
output_refused e operation port None = sends e operation port false
output_refused e operation port (Some answer) = sends e operation port true ++ answer_refused e answer

-- an operation that is used with or without an answer, by whether it answers, if it is there
abbrev pub used_as : Option Bool → Name → Bool → List Refusal
used_as None n answers = refused UnknownOperation (n.at ∷ [])
used_as (Some does) n answers = refused_if (not (agree does answers)) WrongKind n.at
