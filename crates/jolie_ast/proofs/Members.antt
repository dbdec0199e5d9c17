-- What the members of a process are at each form of process.
use Rattle.std.proofs.Common.{◌≡◌, ℕ, ◌+◌, List, length, map, sum_by, Option, Some, None, ap, sym, ◌∙◌}
use Rattle.std.specs.Prelude.{option_map}
use Rattle.std.proofs.lemmas.List.{length-map}
use Rattle.std.proofs.lemmas.List.Sums.{sum-map}
use Rattle.jolie_ast.specs.declared.name.Name.{Name}
use Rattle.jolie_ast.specs.declared.expression.Expr.{Expr}
use Rattle.jolie_ast.specs.declared.expression.Path.{Path}
use Rattle.jolie_ast.specs.declared.process.Assignment.{Assignment}
use Rattle.jolie_ast.specs.declared.process.ForStep.{ForStep}
use Rattle.jolie_ast.specs.declared.process.HandlerKey.{HandlerKey}
use Rattle.jolie_ast.specs.declared.process.Otherwise.TheOpen.{Otherwise-F, Process-F}
use Rattle.jolie_ast.specs.declared.process.Otherwise.TheFolds.{map-Otherwise, map-Process}
use Rattle.jolie_ast.specs.declared.process.Process.{Process, roll-Process}
use Rattle.jolie_ast.specs.declared.process.Process.TheVariants as process
use Rattle.jolie_ast.specs.declared.process.Block.{Block, roll-Block}
use Rattle.jolie_ast.specs.declared.process.If.{If, roll-If}
use Rattle.jolie_ast.specs.declared.process.Otherwise.{Otherwise, roll-Otherwise}
use Rattle.jolie_ast.specs.declared.process.Otherwise.TheVariants as otherwise
use Rattle.jolie_ast.specs.declared.process.Input.{Input, roll-Input}
use Rattle.jolie_ast.specs.declared.process.Reply.{Reply, roll-Reply}
use Rattle.jolie_ast.specs.declared.process.Branch.{Branch, roll-Branch}
use Rattle.jolie_ast.specs.declared.process.Answer.{Answer, roll-Answer}
use Rattle.jolie_ast.specs.declared.process.Handler.{Handler, roll-Handler}
use Rattle.jolie_ast.specs.Members.{optional_count, process_level, members, process_members, block_members, if_members, otherwise_members, input_members, reply_members, branch_members, answer_members, handler_members}
use Rattle.jolie_ast.proofs.Folds.{process_rolls, block_rolls, conditional_rolls, otherwise_rolls, input_rolls, reply_rolls, branch_rolls, answer_rolls, handler_rolls}
use Rattle.jolie_ast.specs.Folds.{else_or}

-- ---- processes

-- how many members a process has, by the form that it is made of
process_made : (x : Process-F Otherwise Process Answer Block Branch Handler If Input Reply) {p : Process} → roll-Process x ≡ p
    → process_members p ≡ process_level (map-Process Otherwise Process Answer Block Branch Handler If Input Reply ℕ ℕ ℕ ℕ ℕ ℕ ℕ ℕ ℕ otherwise_members process_members answer_members block_members branch_members handler_members if_members input_members reply_members x)
unfolding otherwise_members process_members answer_members block_members branch_members handler_members if_members input_members reply_members
process_made x made = ap process_members (sym made) ∙ process_rolls members x

pub nothing_counts : (at : ℕ) → process_members (process.Nothing at) ≡ 0
nothing_counts at = process_made (Process-F.«Process::Nothing» at) (process.rolls-Nothing at)

pub assign_counts : (path : Path) (assignment : Assignment) → process_members (process.Assign path assignment) ≡ 0
assign_counts path assignment = process_made (Process-F.Assign path assignment) (process.rolls-Assign path assignment)

pub undef_counts : (at : ℕ) (path : Path) → process_members (process.Undef at path) ≡ 0
undef_counts at path = process_made (Process-F.Undef at path) (process.rolls-Undef at path)

pub correlate_counts : (at : ℕ) (variable : Name) (value : Expr) → process_members (process.Correlate at variable value) ≡ 0
correlate_counts at variable value = process_made (Process-F.Correlate at variable value) (process.rolls-Correlate at variable value)

pub conditional_counts : (i : If) → process_members (process.If i) ≡ if_members i
conditional_counts i = process_made (Process-F.If i) (process.rolls-If i)

pub while_counts : (at : ℕ) (test : Expr) (body : Block) → process_members (process.While at test body) ≡ block_members body
while_counts at test body = process_made (Process-F.While at test body) (process.rolls-While at test body)

pub for_counts : (at : ℕ) (path : Path) (first : Expr) (test : Expr) (stepped : Path) (step : ForStep) (body : Block) → process_members (process.For at path first test stepped step body) ≡ block_members body
for_counts at path first test stepped step body = process_made (Process-F.For at path first test stepped step body) (process.rolls-For at path first test stepped step body)

pub input_counts : (i : Input) → process_members (process.Input i) ≡ input_members i
input_counts i = process_made (Process-F.Input i) (process.rolls-Input i)

pub choice_counts : (at : ℕ) (branches : List Branch) → process_members (process.Choice at branches) ≡ sum_by branch_members branches
choice_counts at branches =
    process_made (Process-F.Choice at branches) (process.rolls-Choice at branches)
    ∙ sum-map branch_members branches

pub output_counts : (operation : Name) (port : Name) (value : Option Expr) (answer : Option Answer) → process_members (process.Output operation port value answer) ≡ optional_count (option_map answer_members answer)
output_counts operation port value None = process_made (Process-F.Output operation port value None) (process.rolls-Output operation port value None)
output_counts operation port value (Some it) = process_made (Process-F.Output operation port value (Some it)) (process.rolls-Output operation port value (Some it))

pub scope_counts : (at : ℕ) (name : Name) (body : Block) → process_members (process.Scope at name body) ≡ block_members body
scope_counts at name body = process_made (Process-F.Scope at name body) (process.rolls-Scope at name body)

pub install_counts : (at : ℕ) (handlers : List Handler) → process_members (process.Install at handlers) ≡ sum_by handler_members handlers
install_counts at handlers =
    process_made (Process-F.Install at handlers) (process.rolls-Install at handlers)
    ∙ sum-map handler_members handlers

pub throw_counts : (at : ℕ) (fault : Name) (value : Option Expr) → process_members (process.Throw at fault value) ≡ 0
throw_counts at fault value = process_made (Process-F.Throw at fault value) (process.rolls-Throw at fault value)

pub compensate_counts : (at : ℕ) (scope : Name) → process_members (process.Compensate at scope) ≡ 0
compensate_counts at scope = process_made (Process-F.Compensate at scope) (process.rolls-Compensate at scope)

pub inner_handler_counts : (at : ℕ) → process_members (process.InnerHandler at) ≡ 0
inner_handler_counts at = process_made (Process-F.InnerHandler at) (process.rolls-InnerHandler at)

pub block_statement_counts : (b : Block) → process_members (process.Block b) ≡ block_members b
block_statement_counts b = process_made (Process-F.Block b) (process.rolls-Block b)

pub sequence_counts : (ps : List Process) → process_members (process.Sequence ps) ≡ sum_by process_members ps
sequence_counts ps =
    process_made (Process-F.Sequence ps) (process.rolls-Sequence ps)
    ∙ sum-map process_members ps

pub parallel_counts : (ps : List Process) → process_members (process.Parallel ps) ≡ length ps + sum_by process_members ps
parallel_counts ps =
    process_made (Process-F.Parallel ps) (process.rolls-Parallel ps)
    ∙ ap (λ n. length (map process_members ps) + n) (sum-map process_members ps)
    ∙ ap (λ n. n + sum_by process_members ps) (length-map ps process_members)

-- ---- what an `if` does where its test fails

-- how many what an `if` does where its test fails has, by the form that it is made of
otherwise_made : (x : Otherwise-F Otherwise Process Answer Block Branch Handler If Input Reply) {o : Otherwise} → roll-Otherwise x ≡ o
    → otherwise_members o ≡ else_or 0 (map-Otherwise Otherwise Process Answer Block Branch Handler If Input Reply ℕ ℕ ℕ ℕ ℕ ℕ ℕ ℕ ℕ otherwise_members process_members answer_members block_members branch_members handler_members if_members input_members reply_members x)
unfolding otherwise_members process_members answer_members block_members branch_members handler_members if_members input_members reply_members
otherwise_made x made = ap otherwise_members (sym made) ∙ otherwise_rolls members x

pub no_else_counts : otherwise_members otherwise.Nothing ≡ 0
no_else_counts = otherwise_made Otherwise-F.«Otherwise::Nothing» otherwise.rolls-Nothing

pub else_if_counts : (i : If) → otherwise_members (otherwise.ElseIf i) ≡ if_members i
else_if_counts i = otherwise_made (Otherwise-F.ElseIf i) (otherwise.rolls-ElseIf i)

pub else_counts : (b : Block) → otherwise_members (otherwise.Else b) ≡ block_members b
else_counts b = otherwise_made (Otherwise-F.Else b) (otherwise.rolls-Else b)

-- ---- the parts of processes

pub block_counts : (at : ℕ) (body : Option Process) → block_members (roll-Block (record { at = at; body = body })) ≡ optional_count (option_map process_members body)
unfolding answer_members block_members branch_members handler_members if_members input_members otherwise_members process_members reply_members
block_counts at None = block_rolls members (record { at = at; body = None })
block_counts at (Some it) = block_rolls members (record { at = at; body = Some it })

pub if_counts : (at : ℕ) (test : Expr) (body : Block) (rest : Otherwise) → if_members (roll-If (record { at = at; test = test; body = body; otherwise = rest })) ≡ block_members body + otherwise_members rest
unfolding answer_members block_members branch_members handler_members if_members input_members otherwise_members process_members reply_members
if_counts at test body rest = conditional_rolls members (record { at = at; test = test; body = body; otherwise = rest })

pub input_part_counts : (operation : Name) (request : Option Path) (reply : Option Reply) → input_members (roll-Input (record { operation = operation; request = request; reply = reply })) ≡ optional_count (option_map reply_members reply)
unfolding answer_members block_members branch_members handler_members if_members input_members otherwise_members process_members reply_members
input_part_counts operation request None = input_rolls members (record { operation = operation; request = request; reply = None })
input_part_counts operation request (Some it) = input_rolls members (record { operation = operation; request = request; reply = Some it })

pub reply_counts : (path : Option Path) (body : Block) → reply_members (roll-Reply (record { path = path; body = body })) ≡ block_members body
unfolding answer_members block_members branch_members handler_members if_members input_members otherwise_members process_members reply_members
reply_counts path body = reply_rolls members (record { path = path; body = body })

pub branch_counts : (at : ℕ) (i : Input) (after : Block) → branch_members (roll-Branch (record { at = at; input = i; after = after })) ≡ input_members i + block_members after
unfolding answer_members block_members branch_members handler_members if_members input_members otherwise_members process_members reply_members
branch_counts at i after = branch_rolls members (record { at = at; input = i; after = after })

pub answer_counts : (path : Option Path) (handlers : Option (List Handler)) → answer_members (roll-Answer (record { path = path; handlers = handlers })) ≡ optional_count (option_map (sum_by handler_members) handlers)
unfolding answer_members block_members branch_members handler_members if_members input_members otherwise_members process_members reply_members
answer_counts path None = answer_rolls members (record { path = path; handlers = None })
answer_counts path (Some it) = answer_rolls members (record { path = path; handlers = Some it }) ∙ sum-map handler_members it

pub handler_counts : (key : HandlerKey) (body : Process) → handler_members (roll-Handler (record { key = key; body = body })) ≡ process_members body
unfolding answer_members block_members branch_members handler_members if_members input_members otherwise_members process_members reply_members
handler_counts key body = handler_rolls members (record { key = key; body = body })
