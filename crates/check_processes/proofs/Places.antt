-- The place of a process at each form.
use Rattle.std.proofs.Common.{◌≡◌, ℕ, List, map, Option, ap, sym, ◌∙◌}
use Rattle.jolie_ast.specs.declared.name.Name.{Name}
use Rattle.jolie_ast.specs.declared.expression.Expr.{Expr}
use Rattle.jolie_ast.specs.declared.expression.Path.{Path}
use Rattle.jolie_ast.specs.declared.process.Assignment.{Assignment}
use Rattle.jolie_ast.specs.declared.process.ForStep.{ForStep}
use Rattle.jolie_ast.specs.declared.process.Otherwise.TheOpen.{Process-F}
use Rattle.jolie_ast.specs.declared.process.Otherwise.{Otherwise}
use Rattle.jolie_ast.specs.declared.process.Process.{Process, roll-Process}
use Rattle.jolie_ast.specs.declared.process.Reply.{Reply}
use Rattle.jolie_ast.specs.declared.process.Process.TheVariants as process
use Rattle.jolie_ast.specs.declared.process.Otherwise.TheFolds.{map-Process, fold-Answer, fold-Block, fold-Branch, fold-Handler, fold-If, fold-Input, fold-Otherwise, fold-Reply, fold-roll-Block, fold-roll-If, fold-roll-Input, fold-roll-Process}
use Rattle.jolie_ast.specs.declared.process.Answer.{Answer}
use Rattle.jolie_ast.specs.declared.process.Block.{Block, out-Block, roll-out-Block}
use Rattle.jolie_ast.specs.declared.process.Branch.{Branch}
use Rattle.jolie_ast.specs.declared.process.Handler.{Handler}
use Rattle.jolie_ast.specs.declared.process.If.{If, out-If, roll-out-If}
use Rattle.jolie_ast.specs.declared.process.Input.{Input, out-Input, roll-out-Input}
use Rattle.check_processes.specs.InitRules.{first_place, path_place, place_level, process_place}

-- ---- the places of the parts of a process

abbrev pub place_of_otherwise : Otherwise → ℕ
place_of_otherwise = fold-Otherwise ℕ ℕ ℕ ℕ ℕ ℕ ℕ ℕ ℕ (λ o. 0) place_level (λ a. 0) (λ b. b.at) (λ b. b.at) (λ h. 0) (λ i. i.at) (λ i. i.operation.at) (λ r. 0)

abbrev pub place_of_answer : Answer → ℕ
place_of_answer = fold-Answer ℕ ℕ ℕ ℕ ℕ ℕ ℕ ℕ ℕ (λ o. 0) place_level (λ a. 0) (λ b. b.at) (λ b. b.at) (λ h. 0) (λ i. i.at) (λ i. i.operation.at) (λ r. 0)

abbrev pub place_of_block : Block → ℕ
place_of_block = fold-Block ℕ ℕ ℕ ℕ ℕ ℕ ℕ ℕ ℕ (λ o. 0) place_level (λ a. 0) (λ b. b.at) (λ b. b.at) (λ h. 0) (λ i. i.at) (λ i. i.operation.at) (λ r. 0)

abbrev pub place_of_branch : Branch → ℕ
place_of_branch = fold-Branch ℕ ℕ ℕ ℕ ℕ ℕ ℕ ℕ ℕ (λ o. 0) place_level (λ a. 0) (λ b. b.at) (λ b. b.at) (λ h. 0) (λ i. i.at) (λ i. i.operation.at) (λ r. 0)

abbrev pub place_of_handler : Handler → ℕ
place_of_handler = fold-Handler ℕ ℕ ℕ ℕ ℕ ℕ ℕ ℕ ℕ (λ o. 0) place_level (λ a. 0) (λ b. b.at) (λ b. b.at) (λ h. 0) (λ i. i.at) (λ i. i.operation.at) (λ r. 0)

abbrev pub place_of_if : If → ℕ
place_of_if = fold-If ℕ ℕ ℕ ℕ ℕ ℕ ℕ ℕ ℕ (λ o. 0) place_level (λ a. 0) (λ b. b.at) (λ b. b.at) (λ h. 0) (λ i. i.at) (λ i. i.operation.at) (λ r. 0)

abbrev pub place_of_input : Input → ℕ
place_of_input = fold-Input ℕ ℕ ℕ ℕ ℕ ℕ ℕ ℕ ℕ (λ o. 0) place_level (λ a. 0) (λ b. b.at) (λ b. b.at) (λ h. 0) (λ i. i.at) (λ i. i.operation.at) (λ r. 0)

abbrev pub place_of_reply : Reply → ℕ
place_of_reply = fold-Reply ℕ ℕ ℕ ℕ ℕ ℕ ℕ ℕ ℕ (λ o. 0) place_level (λ a. 0) (λ b. b.at) (λ b. b.at) (λ h. 0) (λ i. i.at) (λ i. i.operation.at) (λ r. 0)

-- the place of an `if`
pub if_at : (i : If) → place_of_if i ≡ (out-If i).at
if_at i =
    ap place_of_if (sym (roll-out-If i))
    ∙ fold-roll-If ℕ ℕ ℕ ℕ ℕ ℕ ℕ ℕ ℕ (λ o. 0) place_level (λ a. 0) (λ b. b.at) (λ b. b.at) (λ h. 0) (λ i. i.at) (λ i. i.operation.at) (λ r. 0) (out-If i)

-- the place of an input
pub input_at : (i : Input) → place_of_input i ≡ (out-Input i).operation.at
input_at i =
    ap place_of_input (sym (roll-out-Input i))
    ∙ fold-roll-Input ℕ ℕ ℕ ℕ ℕ ℕ ℕ ℕ ℕ (λ o. 0) place_level (λ a. 0) (λ b. b.at) (λ b. b.at) (λ h. 0) (λ i. i.at) (λ i. i.operation.at) (λ r. 0) (out-Input i)

-- the place of a block
pub block_at : (b : Block) → place_of_block b ≡ (out-Block b).at
block_at b =
    ap place_of_block (sym (roll-out-Block b))
    ∙ fold-roll-Block ℕ ℕ ℕ ℕ ℕ ℕ ℕ ℕ ℕ (λ o. 0) place_level (λ a. 0) (λ b. b.at) (λ b. b.at) (λ h. 0) (λ i. i.at) (λ i. i.operation.at) (λ r. 0) (out-Block b)

-- ---- the place of a process

-- by the form that it is made of
process_made : (x : Process-F Otherwise Process Answer Block Branch Handler If Input Reply) {p : Process} → roll-Process x ≡ p
    → process_place p ≡ place_level (map-Process Otherwise Process Answer Block Branch Handler If Input Reply ℕ ℕ ℕ ℕ ℕ ℕ ℕ ℕ ℕ place_of_otherwise process_place place_of_answer place_of_block place_of_branch place_of_handler place_of_if place_of_input place_of_reply x)
unfolding process_place
process_made x made = ap process_place (sym made) ∙ fold-roll-Process ℕ ℕ ℕ ℕ ℕ ℕ ℕ ℕ ℕ (λ o. 0) place_level (λ a. 0) (λ b. b.at) (λ b. b.at) (λ h. 0) (λ i. i.at) (λ i. i.operation.at) (λ r. 0) x

pub nothing_place : (at : ℕ) → process_place (process.Nothing at) ≡ at
nothing_place at = process_made (Process-F.«Process::Nothing» at) (process.rolls-Nothing at)

pub assign_place : (path : Path) (assignment : Assignment) → process_place (process.Assign path assignment) ≡ path_place path
assign_place path assignment = process_made (Process-F.Assign path assignment) (process.rolls-Assign path assignment)

pub undef_place : (at : ℕ) (path : Path) → process_place (process.Undef at path) ≡ at
undef_place at path = process_made (Process-F.Undef at path) (process.rolls-Undef at path)

pub correlate_place : (at : ℕ) (variable : Name) (value : Expr) → process_place (process.Correlate at variable value) ≡ at
correlate_place at variable value = process_made (Process-F.Correlate at variable value) (process.rolls-Correlate at variable value)

pub if_place : (i : If) → process_place (process.If i) ≡ (out-If i).at
if_place i =
    process_made (Process-F.If i) (process.rolls-If i)
    ∙ if_at i

pub while_place : (at : ℕ) (test : Expr) (body : Block) → process_place (process.While at test body) ≡ at
while_place at test body = process_made (Process-F.While at test body) (process.rolls-While at test body)

pub for_place : (at : ℕ) (path : Path) (first : Expr) (test : Expr) (stepped : Path) (step : ForStep) (body : Block) → process_place (process.For at path first test stepped step body) ≡ at
for_place at path first test stepped step body = process_made (Process-F.For at path first test stepped step body) (process.rolls-For at path first test stepped step body)

pub input_place : (i : Input) → process_place (process.Input i) ≡ (out-Input i).operation.at
input_place i =
    process_made (Process-F.Input i) (process.rolls-Input i)
    ∙ input_at i

pub choice_place : (at : ℕ) (branches : List Branch) → process_place (process.Choice at branches) ≡ at
choice_place at branches = process_made (Process-F.Choice at branches) (process.rolls-Choice at branches)

pub output_place : (operation : Name) (port : Name) (value : Option Expr) (answer : Option Answer) → process_place (process.Output operation port value answer) ≡ operation.at
output_place operation port value answer = process_made (Process-F.Output operation port value answer) (process.rolls-Output operation port value answer)

pub scope_place : (at : ℕ) (name : Name) (body : Block) → process_place (process.Scope at name body) ≡ at
scope_place at name body = process_made (Process-F.Scope at name body) (process.rolls-Scope at name body)

pub install_place : (at : ℕ) (fs : List Handler) → process_place (process.Install at fs) ≡ at
install_place at fs = process_made (Process-F.Install at fs) (process.rolls-Install at fs)

pub throw_place : (at : ℕ) (fault : Name) (value : Option Expr) → process_place (process.Throw at fault value) ≡ at
throw_place at fault value = process_made (Process-F.Throw at fault value) (process.rolls-Throw at fault value)

pub compensate_place : (at : ℕ) (scope : Name) → process_place (process.Compensate at scope) ≡ at
compensate_place at scope = process_made (Process-F.Compensate at scope) (process.rolls-Compensate at scope)

pub inner_handler_place : (at : ℕ) → process_place (process.InnerHandler at) ≡ at
inner_handler_place at = process_made (Process-F.InnerHandler at) (process.rolls-InnerHandler at)

pub block_place : (b : Block) → process_place (process.Block b) ≡ (out-Block b).at
block_place b =
    process_made (Process-F.Block b) (process.rolls-Block b)
    ∙ block_at b

pub sequence_place : (statements : List Process) → process_place (process.Sequence statements) ≡ first_place (map process_place statements)
sequence_place statements = process_made (Process-F.Sequence statements) (process.rolls-Sequence statements)

pub parallel_place : (members : List Process) → process_place (process.Parallel members) ≡ first_place (map process_place members)
parallel_place members = process_made (Process-F.Parallel members) (process.rolls-Parallel members)
