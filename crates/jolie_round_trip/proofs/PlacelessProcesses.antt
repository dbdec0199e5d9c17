-- What is kept of each form of a process, without its places.
use Rattle.std.proofs.Common.{◌≡◌, ℕ, List, map, Option, Some, None, sym, ap, ◌∙◌}
use Rattle.std.specs.Prelude.{option_map}
use Rattle.jolie_ast.specs.declared.name.Name.{Name}
use Rattle.jolie_ast.specs.declared.expression.Expr.{Expr}
use Rattle.jolie_ast.specs.declared.expression.Path.{Path}
use Rattle.jolie_ast.specs.declared.process.Assignment.{Assignment}
use Rattle.jolie_ast.specs.declared.process.ForStep.{ForStep}
use Rattle.jolie_ast.specs.declared.process.HandlerKey.{HandlerKey}
use Rattle.jolie_ast.specs.declared.process.Otherwise.TheOpen.{Otherwise-F, Process-F}
use Rattle.jolie_ast.specs.declared.process.Otherwise.TheFolds.{map-Otherwise, map-Process, fold-roll-Answer, fold-roll-Block, fold-roll-Branch, fold-roll-Handler, fold-roll-If, fold-roll-Input, fold-roll-Otherwise, fold-roll-Process, fold-roll-Reply}
use Rattle.jolie_ast.specs.declared.process.Process.{Process, roll-Process}
use Rattle.jolie_ast.specs.declared.process.Process.TheVariants as process
use Rattle.jolie_ast.specs.declared.process.Block.{Block, roll-Block}
use Rattle.jolie_ast.specs.declared.process.If.{If, roll-If}
use Rattle.jolie_ast.specs.declared.process.Otherwise.{Otherwise, roll-Otherwise}
use Rattle.jolie_ast.specs.declared.process.Otherwise.TheVariants as otherwise
use Rattle.jolie_ast.specs.declared.process.Input.{Input, roll-Input}
use Rattle.jolie_ast.specs.declared.process.Reply.{Reply, roll-Reply}
use Rattle.jolie_ast.specs.declared.process.Branch.{Branch, roll-Branch}
use Rattle.jolie_ast.specs.declared.process.Answer.{Answer, roll-Answer}
use Rattle.jolie_ast.specs.declared.process.Handler.{Handler, roll-Handler}
use Rattle.jolie_round_trip.specs.Placeless.{name_placeless, expr_placeless, path_placeless, assignment_placeless, for_step_placeless, key_placeless, process_level, block_level, if_level, otherwise_level, input_level, reply_level, branch_level, answer_level, handler_level, process_placeless, block_placeless, if_placeless, otherwise_placeless, input_placeless, reply_placeless, branch_placeless, answer_placeless, handler_placeless}

-- ---- processes

-- a process without its places, by the form that it is made of
process_made : (x : Process-F Otherwise Process Answer Block Branch Handler If Input Reply) {p : Process} → roll-Process x ≡ p
    → process_placeless p ≡ process_level (map-Process Otherwise Process Answer Block Branch Handler If Input Reply Otherwise Process Answer Block Branch Handler If Input Reply otherwise_placeless process_placeless answer_placeless block_placeless branch_placeless handler_placeless if_placeless input_placeless reply_placeless x)
unfolding otherwise_placeless process_placeless answer_placeless block_placeless branch_placeless handler_placeless if_placeless input_placeless reply_placeless
process_made x made = ap process_placeless (sym made) ∙ fold-roll-Process Otherwise Process Answer Block Branch Handler If Input Reply otherwise_level process_level answer_level block_level branch_level handler_level if_level input_level reply_level x

pub nothing_placeless : (at : ℕ) → process_placeless (process.Nothing at) ≡ process.Nothing 0
nothing_placeless at = process_made (Process-F.«Process::Nothing» at) (process.rolls-Nothing at)

pub assign_placeless : (path : Path) (assignment : Assignment) → process_placeless (process.Assign path assignment) ≡ process.Assign (path_placeless path) (assignment_placeless assignment)
assign_placeless path assignment = process_made (Process-F.Assign path assignment) (process.rolls-Assign path assignment)

pub undef_placeless : (at : ℕ) (path : Path) → process_placeless (process.Undef at path) ≡ process.Undef 0 (path_placeless path)
undef_placeless at path = process_made (Process-F.Undef at path) (process.rolls-Undef at path)

pub correlate_placeless : (at : ℕ) (variable : Name) (value : Expr) → process_placeless (process.Correlate at variable value) ≡ process.Correlate 0 (name_placeless variable) (expr_placeless value)
correlate_placeless at variable value = process_made (Process-F.Correlate at variable value) (process.rolls-Correlate at variable value)

pub conditional_placeless : (i : If) → process_placeless (process.If i) ≡ process.If (if_placeless i)
conditional_placeless i = process_made (Process-F.If i) (process.rolls-If i)

pub while_placeless : (at : ℕ) (test : Expr) (body : Block) → process_placeless (process.While at test body) ≡ process.While 0 (expr_placeless test) (block_placeless body)
while_placeless at test body = process_made (Process-F.While at test body) (process.rolls-While at test body)

pub for_placeless : (at : ℕ) (path : Path) (first : Expr) (test : Expr) (stepped : Path) (step : ForStep) (body : Block) → process_placeless (process.For at path first test stepped step body) ≡ process.For 0 (path_placeless path) (expr_placeless first) (expr_placeless test) (path_placeless stepped) (for_step_placeless step) (block_placeless body)
for_placeless at path first test stepped step body = process_made (Process-F.For at path first test stepped step body) (process.rolls-For at path first test stepped step body)

pub input_statement_placeless : (i : Input) → process_placeless (process.Input i) ≡ process.Input (input_placeless i)
input_statement_placeless i = process_made (Process-F.Input i) (process.rolls-Input i)

pub choice_placeless : (at : ℕ) (branches : List Branch) → process_placeless (process.Choice at branches) ≡ process.Choice 0 (map branch_placeless branches)
choice_placeless at branches = process_made (Process-F.Choice at branches) (process.rolls-Choice at branches)

pub output_placeless : (operation : Name) (port : Name) (value : Option Expr) (answer : Option Answer) → process_placeless (process.Output operation port value answer) ≡ process.Output (name_placeless operation) (name_placeless port) (option_map expr_placeless value) (option_map answer_placeless answer)
output_placeless operation port value None = process_made (Process-F.Output operation port value None) (process.rolls-Output operation port value None)
output_placeless operation port value (Some it) = process_made (Process-F.Output operation port value (Some it)) (process.rolls-Output operation port value (Some it))

pub scope_placeless : (at : ℕ) (name : Name) (body : Block) → process_placeless (process.Scope at name body) ≡ process.Scope 0 (name_placeless name) (block_placeless body)
scope_placeless at name body = process_made (Process-F.Scope at name body) (process.rolls-Scope at name body)

pub install_placeless : (at : ℕ) (handlers : List Handler) → process_placeless (process.Install at handlers) ≡ process.Install 0 (map handler_placeless handlers)
install_placeless at handlers = process_made (Process-F.Install at handlers) (process.rolls-Install at handlers)

pub throw_placeless : (at : ℕ) (fault : Name) (value : Option Expr) → process_placeless (process.Throw at fault value) ≡ process.Throw 0 (name_placeless fault) (option_map expr_placeless value)
throw_placeless at fault value = process_made (Process-F.Throw at fault value) (process.rolls-Throw at fault value)

pub compensate_placeless : (at : ℕ) (scope : Name) → process_placeless (process.Compensate at scope) ≡ process.Compensate 0 (name_placeless scope)
compensate_placeless at scope = process_made (Process-F.Compensate at scope) (process.rolls-Compensate at scope)

pub inner_handler_placeless : (at : ℕ) → process_placeless (process.InnerHandler at) ≡ process.InnerHandler 0
inner_handler_placeless at = process_made (Process-F.InnerHandler at) (process.rolls-InnerHandler at)

pub block_statement_placeless : (b : Block) → process_placeless (process.Block b) ≡ process.Block (block_placeless b)
block_statement_placeless b = process_made (Process-F.Block b) (process.rolls-Block b)

pub sequence_placeless : (ps : List Process) → process_placeless (process.Sequence ps) ≡ process.Sequence (map process_placeless ps)
sequence_placeless ps = process_made (Process-F.Sequence ps) (process.rolls-Sequence ps)

pub parallel_placeless : (ps : List Process) → process_placeless (process.Parallel ps) ≡ process.Parallel (map process_placeless ps)
parallel_placeless ps = process_made (Process-F.Parallel ps) (process.rolls-Parallel ps)

-- ---- what an `if` does where its test fails

-- what an `if` does where its test fails, without its places, by the form that it is made of
otherwise_made : (x : Otherwise-F Otherwise Process Answer Block Branch Handler If Input Reply) {o : Otherwise} → roll-Otherwise x ≡ o
    → otherwise_placeless o ≡ otherwise_level (map-Otherwise Otherwise Process Answer Block Branch Handler If Input Reply Otherwise Process Answer Block Branch Handler If Input Reply otherwise_placeless process_placeless answer_placeless block_placeless branch_placeless handler_placeless if_placeless input_placeless reply_placeless x)
unfolding otherwise_placeless process_placeless answer_placeless block_placeless branch_placeless handler_placeless if_placeless input_placeless reply_placeless
otherwise_made x made = ap otherwise_placeless (sym made) ∙ fold-roll-Otherwise Otherwise Process Answer Block Branch Handler If Input Reply otherwise_level process_level answer_level block_level branch_level handler_level if_level input_level reply_level x

pub no_else_placeless : otherwise_placeless otherwise.Nothing ≡ otherwise.Nothing
no_else_placeless =
    otherwise_made Otherwise-F.«Otherwise::Nothing» otherwise.rolls-Nothing
    ∙ otherwise.rolls-Nothing

pub else_if_placeless : (i : If) → otherwise_placeless (otherwise.ElseIf i) ≡ otherwise.ElseIf (if_placeless i)
else_if_placeless i =
    otherwise_made (Otherwise-F.ElseIf i) (otherwise.rolls-ElseIf i)
    ∙ otherwise.rolls-ElseIf (if_placeless i)

pub else_placeless : (b : Block) → otherwise_placeless (otherwise.Else b) ≡ otherwise.Else (block_placeless b)
else_placeless b =
    otherwise_made (Otherwise-F.Else b) (otherwise.rolls-Else b)
    ∙ otherwise.rolls-Else (block_placeless b)

-- ---- the parts of processes

pub block_rolled : (at : ℕ) (body : Option Process) → block_placeless (roll-Block (record { at = at; body = body })) ≡ roll-Block (record { at = 0; body = option_map process_placeless body })
unfolding process_placeless block_placeless if_placeless otherwise_placeless input_placeless reply_placeless branch_placeless answer_placeless handler_placeless
block_rolled at None = fold-roll-Block Otherwise Process Answer Block Branch Handler If Input Reply otherwise_level process_level answer_level block_level branch_level handler_level if_level input_level reply_level (record { at = at; body = None })
block_rolled at (Some it) = fold-roll-Block Otherwise Process Answer Block Branch Handler If Input Reply otherwise_level process_level answer_level block_level branch_level handler_level if_level input_level reply_level (record { at = at; body = Some it })

pub if_rolled : (at : ℕ) (test : Expr) (body : Block) (rest : Otherwise) → if_placeless (roll-If (record { at = at; test = test; body = body; otherwise = rest })) ≡ roll-If (record { at = 0; test = expr_placeless test; body = block_placeless body; otherwise = otherwise_placeless rest })
unfolding process_placeless block_placeless if_placeless otherwise_placeless input_placeless reply_placeless branch_placeless answer_placeless handler_placeless
if_rolled at test body rest = fold-roll-If Otherwise Process Answer Block Branch Handler If Input Reply otherwise_level process_level answer_level block_level branch_level handler_level if_level input_level reply_level (record { at = at; test = test; body = body; otherwise = rest })

pub input_rolled : (operation : Name) (request : Option Path) (reply : Option Reply) → input_placeless (roll-Input (record { operation = operation; request = request; reply = reply })) ≡ roll-Input (record { operation = name_placeless operation; request = option_map path_placeless request; reply = option_map reply_placeless reply })
unfolding process_placeless block_placeless if_placeless otherwise_placeless input_placeless reply_placeless branch_placeless answer_placeless handler_placeless
input_rolled operation request None = fold-roll-Input Otherwise Process Answer Block Branch Handler If Input Reply otherwise_level process_level answer_level block_level branch_level handler_level if_level input_level reply_level (record { operation = operation; request = request; reply = None })
input_rolled operation request (Some it) = fold-roll-Input Otherwise Process Answer Block Branch Handler If Input Reply otherwise_level process_level answer_level block_level branch_level handler_level if_level input_level reply_level (record { operation = operation; request = request; reply = Some it })

pub reply_rolled : (path : Option Path) (body : Block) → reply_placeless (roll-Reply (record { path = path; body = body })) ≡ roll-Reply (record { path = option_map path_placeless path; body = block_placeless body })
unfolding process_placeless block_placeless if_placeless otherwise_placeless input_placeless reply_placeless branch_placeless answer_placeless handler_placeless
reply_rolled path body = fold-roll-Reply Otherwise Process Answer Block Branch Handler If Input Reply otherwise_level process_level answer_level block_level branch_level handler_level if_level input_level reply_level (record { path = path; body = body })

pub branch_rolled : (at : ℕ) (input : Input) (after : Block) → branch_placeless (roll-Branch (record { at = at; input = input; after = after })) ≡ roll-Branch (record { at = 0; input = input_placeless input; after = block_placeless after })
unfolding process_placeless block_placeless if_placeless otherwise_placeless input_placeless reply_placeless branch_placeless answer_placeless handler_placeless
branch_rolled at input after = fold-roll-Branch Otherwise Process Answer Block Branch Handler If Input Reply otherwise_level process_level answer_level block_level branch_level handler_level if_level input_level reply_level (record { at = at; input = input; after = after })

pub answer_rolled : (path : Option Path) (handlers : Option (List Handler)) → answer_placeless (roll-Answer (record { path = path; handlers = handlers })) ≡ roll-Answer (record { path = option_map path_placeless path; handlers = option_map (map handler_placeless) handlers })
unfolding process_placeless block_placeless if_placeless otherwise_placeless input_placeless reply_placeless branch_placeless answer_placeless handler_placeless
answer_rolled path None = fold-roll-Answer Otherwise Process Answer Block Branch Handler If Input Reply otherwise_level process_level answer_level block_level branch_level handler_level if_level input_level reply_level (record { path = path; handlers = None })
answer_rolled path (Some it) = fold-roll-Answer Otherwise Process Answer Block Branch Handler If Input Reply otherwise_level process_level answer_level block_level branch_level handler_level if_level input_level reply_level (record { path = path; handlers = Some it })

pub handler_rolled : (key : HandlerKey) (body : Process) → handler_placeless (roll-Handler (record { key = key; body = body })) ≡ roll-Handler (record { key = key_placeless key; body = process_placeless body })
unfolding process_placeless block_placeless if_placeless otherwise_placeless input_placeless reply_placeless branch_placeless answer_placeless handler_placeless
handler_rolled key body = fold-roll-Handler Otherwise Process Answer Block Branch Handler If Input Reply otherwise_level process_level answer_level block_level branch_level handler_level if_level input_level reply_level (record { key = key; body = body })
