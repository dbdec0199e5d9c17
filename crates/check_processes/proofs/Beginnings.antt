-- What a process begins with at each form.
use Rattle.std.proofs.Common.{◌≡◌, ℕ, true, false, ◌+◌, ◌<◌, ◌≤◌, List, [], ◌∷◌, map, length, get_or, drop, Option, Some, None, refl, ap, sym, ◌∙◌}
use Rattle.std.specs.Prelude.{if◌then◌else◌}
use Rattle.std.proofs.lemmas.List.{at_drop_all}
use Rattle.jolie_ast.specs.declared.name.Name.{Name}
use Rattle.jolie_ast.specs.declared.expression.Expr.{Expr}
use Rattle.jolie_ast.specs.declared.expression.Path.{Path}
use Rattle.jolie_ast.specs.declared.process.Assignment.{Assignment}
use Rattle.jolie_ast.specs.declared.process.ForStep.{ForStep}
use Rattle.jolie_ast.specs.declared.process.Otherwise.TheOpen.{Process-F}
use Rattle.jolie_ast.specs.declared.process.Process.{Process, out-Process, roll-Process, roll-out-Process}
use Rattle.jolie_ast.specs.declared.process.Process.TheVariants as process
use Rattle.jolie_ast.specs.declared.process.Otherwise.TheFolds.{map-Process, fold-Branch, fold-Input, fold-roll-Block, fold-roll-Branch, fold-roll-Input, fold-roll-Process}
use Rattle.jolie_ast.specs.declared.process.Otherwise.{Otherwise}
use Rattle.jolie_ast.specs.declared.process.Answer.{Answer}
use Rattle.jolie_ast.specs.declared.process.Reply.{Reply}
use Rattle.jolie_ast.specs.declared.process.Block.{Block, out-Block, roll-Block, roll-out-Block}
use Rattle.jolie_ast.specs.declared.process.Branch.{Branch, out-Branch, roll-out-Branch}
use Rattle.jolie_ast.specs.declared.process.Handler.{Handler}
use Rattle.jolie_ast.specs.declared.process.If.{If}
use Rattle.jolie_ast.specs.declared.process.Input.{Input, out-Input, roll-out-Input}
use Rattle.check_processes.specs.FirstInputParts.{beginning, branch_level, input_level}
use Rattle.check_processes.specs.ProcessParts.{branch_operation}
use Rattle.check_processes.specs.FirstInputs.{Beginning, block_level, first_input, of_sequence, process_level}
use Rattle.check_base.proofs.FirstFound.{left_at}

-- the operation of an input
abbrev pub input_name : Input → Name
input_name = fold-Input (Unit {0}) Beginning (Unit {0}) (Option (List Name)) Name (Unit {0}) (Unit {0}) Name (Unit {0}) (λ o. tt) process_level (λ a. tt) block_level branch_level (λ h. tt) (λ i. tt) input_level (λ r. tt)

pub input_name_is : (i : Input) → input_name i ≡ (out-Input i).operation
input_name_is i =
    ap input_name (sym (roll-out-Input i))
    ∙ fold-roll-Input (Unit {0}) Beginning (Unit {0}) (Option (List Name)) Name (Unit {0}) (Unit {0}) Name (Unit {0}) (λ o. tt) process_level (λ a. tt) block_level branch_level (λ h. tt) (λ i. tt) input_level (λ r. tt) (out-Input i)

-- the operation of a branch
abbrev pub branch_name : Branch → Name
branch_name = fold-Branch (Unit {0}) Beginning (Unit {0}) (Option (List Name)) Name (Unit {0}) (Unit {0}) Name (Unit {0}) (λ o. tt) process_level (λ a. tt) block_level branch_level (λ h. tt) (λ i. tt) input_level (λ r. tt)

pub branch_name_is : (b : Branch) → branch_name b ≡ branch_operation b
branch_name_is b =
    ap branch_name (sym (roll-out-Branch b))
    ∙ fold-roll-Branch (Unit {0}) Beginning (Unit {0}) (Option (List Name)) Name (Unit {0}) (Unit {0}) Name (Unit {0}) (λ o. tt) process_level (λ a. tt) block_level branch_level (λ h. tt) (λ i. tt) input_level (λ r. tt) (out-Branch b)
    ∙ input_name_is (out-Branch b).input

-- the operations of branches
pub branch_names_are : (bs : List Branch) → map branch_name bs ≡ map branch_operation bs
branch_names_are [] = refl
branch_names_are (b ∷ bs) = ap (λ n. n ∷ map branch_name bs) (branch_name_is b) ∙ ap (λ ns. branch_operation b ∷ ns) (branch_names_are bs)

-- the first input of what may stand in a block
abbrev pub body_begins : Option Process → Option (List Name)
body_begins None = None
body_begins (Some p) = (beginning p).operations

pub block_made : (at : ℕ) (body : Option Process) → first_input (roll-Block (record { at = at; body = body })) ≡ body_begins body
unfolding first_input beginning
block_made at None = fold-roll-Block (Unit {0}) Beginning (Unit {0}) (Option (List Name)) Name (Unit {0}) (Unit {0}) Name (Unit {0}) (λ o. tt) process_level (λ a. tt) block_level branch_level (λ h. tt) (λ i. tt) input_level (λ r. tt) (record { at = at; body = None })
block_made at (Some p) = fold-roll-Block (Unit {0}) Beginning (Unit {0}) (Option (List Name)) Name (Unit {0}) (Unit {0}) Name (Unit {0}) (λ o. tt) process_level (λ a. tt) block_level branch_level (λ h. tt) (λ i. tt) input_level (λ r. tt) (record { at = at; body = Some p })

pub block_begins : (b : Block) → first_input b ≡ body_begins (out-Block b).body
block_begins b = ap first_input (sym (roll-out-Block b)) ∙ block_made (out-Block b).at (out-Block b).body

-- ---- processes

-- what a process begins with, by the form that it is made of
process_made : (x : Process-F Otherwise Process Answer Block Branch Handler If Input Reply) {p : Process} → roll-Process x ≡ p
    → beginning p ≡ process_level (map-Process Otherwise Process Answer Block Branch Handler If Input Reply (Unit {0}) Beginning (Unit {0}) (Option (List Name)) Name (Unit {0}) (Unit {0}) Name (Unit {0}) (λ o. tt) beginning (λ a. tt) first_input branch_name (λ h. tt) (λ i. tt) input_name (λ r. tt) x)
unfolding first_input beginning
process_made x made = ap beginning (sym made) ∙ fold-roll-Process (Unit {0}) Beginning (Unit {0}) (Option (List Name)) Name (Unit {0}) (Unit {0}) Name (Unit {0}) (λ o. tt) process_level (λ a. tt) block_level branch_level (λ h. tt) (λ i. tt) input_level (λ r. tt) x

-- its operations
operations_made : (x : Process-F Otherwise Process Answer Block Branch Handler If Input Reply) {p : Process} → roll-Process x ≡ p
    → (beginning p).operations ≡ (process_level (map-Process Otherwise Process Answer Block Branch Handler If Input Reply (Unit {0}) Beginning (Unit {0}) (Option (List Name)) Name (Unit {0}) (Unit {0}) Name (Unit {0}) (λ o. tt) beginning (λ a. tt) first_input branch_name (λ h. tt) (λ i. tt) input_name (λ r. tt) x)).operations
operations_made x made = ap (λ (b : Beginning). b.operations) (process_made x made)

pub nothing_begins : (at : ℕ) → (beginning (process.Nothing at)).operations ≡ None
nothing_begins at = operations_made (Process-F.«Process::Nothing» at) (process.rolls-Nothing at)

pub assign_begins : (path : Path) (assignment : Assignment) → (beginning (process.Assign path assignment)).operations ≡ None
assign_begins path assignment = operations_made (Process-F.Assign path assignment) (process.rolls-Assign path assignment)

pub undef_begins : (at : ℕ) (path : Path) → (beginning (process.Undef at path)).operations ≡ None
undef_begins at path = operations_made (Process-F.Undef at path) (process.rolls-Undef at path)

pub correlate_begins : (at : ℕ) (variable : Name) (value : Expr) → (beginning (process.Correlate at variable value)).operations ≡ None
correlate_begins at variable value = operations_made (Process-F.Correlate at variable value) (process.rolls-Correlate at variable value)

pub if_begins : (i : If) → (beginning (process.If i)).operations ≡ None
if_begins i = operations_made (Process-F.If i) (process.rolls-If i)

pub while_begins : (at : ℕ) (test : Expr) (body : Block) → (beginning (process.While at test body)).operations ≡ None
while_begins at test body = operations_made (Process-F.While at test body) (process.rolls-While at test body)

pub for_begins : (at : ℕ) (path : Path) (first : Expr) (test : Expr) (stepped : Path) (step : ForStep) (body : Block) → (beginning (process.For at path first test stepped step body)).operations ≡ None
for_begins at path first test stepped step body = operations_made (Process-F.For at path first test stepped step body) (process.rolls-For at path first test stepped step body)

pub input_begins : (i : Input) → (beginning (process.Input i)).operations ≡ Some ((out-Input i).operation ∷ [])
input_begins i =
    operations_made (Process-F.Input i) (process.rolls-Input i)
    ∙ ap (λ n. Some (n ∷ [])) (input_name_is i)

pub choice_begins : (at : ℕ) (branches : List Branch) → (beginning (process.Choice at branches)).operations ≡ Some (map branch_operation branches)
choice_begins at branches =
    operations_made (Process-F.Choice at branches) (process.rolls-Choice at branches)
    ∙ ap Some (branch_names_are branches)

pub output_begins : (operation : Name) (port : Name) (value : Option Expr) (answer : Option Answer) → (beginning (process.Output operation port value answer)).operations ≡ None
output_begins operation port value answer = operations_made (Process-F.Output operation port value answer) (process.rolls-Output operation port value answer)

pub scope_begins : (at : ℕ) (name : Name) (body : Block) → (beginning (process.Scope at name body)).operations ≡ first_input body
scope_begins at name body = operations_made (Process-F.Scope at name body) (process.rolls-Scope at name body)

pub install_begins : (at : ℕ) (fs : List Handler) → (beginning (process.Install at fs)).operations ≡ None
install_begins at fs = operations_made (Process-F.Install at fs) (process.rolls-Install at fs)

pub throw_begins : (at : ℕ) (fault : Name) (value : Option Expr) → (beginning (process.Throw at fault value)).operations ≡ None
throw_begins at fault value = operations_made (Process-F.Throw at fault value) (process.rolls-Throw at fault value)

pub compensate_begins : (at : ℕ) (scope : Name) → (beginning (process.Compensate at scope)).operations ≡ None
compensate_begins at scope = operations_made (Process-F.Compensate at scope) (process.rolls-Compensate at scope)

pub inner_handler_begins : (at : ℕ) → (beginning (process.InnerHandler at)).operations ≡ None
inner_handler_begins at = operations_made (Process-F.InnerHandler at) (process.rolls-InnerHandler at)

pub block_form_begins : (b : Block) → (beginning (process.Block b)).operations ≡ first_input b
block_form_begins b = operations_made (Process-F.Block b) (process.rolls-Block b)

pub sequence_begins : (statements : List Process) → (beginning (process.Sequence statements)).operations ≡ of_sequence (map beginning statements)
sequence_begins statements = operations_made (Process-F.Sequence statements) (process.rolls-Sequence statements)

pub parallel_begins : (members : List Process) → (beginning (process.Parallel members)).operations ≡ None
parallel_begins members = operations_made (Process-F.Parallel members) (process.rolls-Parallel members)

-- ---- installs

pub install_installs : (at : ℕ) (fs : List Handler) → (beginning (process.Install at fs)).installs ≡ true
install_installs at fs = ap (λ (b : Beginning). b.installs) (process_made (Process-F.Install at fs) (process.rolls-Install at fs))

pub no_install_form : (f : Process-F Otherwise Process Answer Block Branch Handler If Input Reply) → ((at : ℕ) (fs : List Handler) → roll-Process f ≡ process.Install at fs → ⊥) → (beginning (roll-Process f)).installs ≡ false
no_install_form (Process-F.Install at fs) other = absurd (other at fs (process.rolls-Install at fs))
no_install_form f other = ap (λ (b : Beginning). b.installs) (process_made f {p = roll-Process f} refl)

pub other_installs : (p : Process) → ((at : ℕ) (fs : List Handler) → p ≡ process.Install at fs → ⊥) → (beginning p).installs ≡ false
other_installs p other =
    ap (λ q. (beginning q).installs) (sym (roll-out-Process p))
    ∙ no_install_form (out-Process p) (λ at fs e. other at fs (sym (roll-out-Process p) ∙ e))

-- ---- the statements of a sequence, one after the other

-- the first statement is an install
pub sequence_later : (ps : List Process) (i : ℕ) (p : Process) → i < length ps → p ≡ get_or ps i p → (beginning p).installs ≡ true → of_sequence (map beginning ps) ≡ of_sequence (map beginning (drop i ps)) → of_sequence (map beginning ps) ≡ of_sequence (map beginning (drop (i + 1) ps))
sequence_later ps i p below item installs before =
    before
    ∙ left_at (λ xs. of_sequence (map beginning xs)) ps i p below item
    ∙ ap (λ b. if b then of_sequence (map beginning (drop (i + 1) ps)) else (beginning p).operations) installs

-- the first statement is no install
pub sequence_here : (ps : List Process) (i : ℕ) (p : Process) → i < length ps → p ≡ get_or ps i p → (beginning p).installs ≡ false → of_sequence (map beginning ps) ≡ of_sequence (map beginning (drop i ps)) → of_sequence (map beginning ps) ≡ (beginning p).operations
sequence_here ps i p below item installs before =
    before
    ∙ left_at (λ xs. of_sequence (map beginning xs)) ps i p below item
    ∙ ap (λ b. if b then of_sequence (map beginning (drop (i + 1) ps)) else (beginning p).operations) installs

-- every statement is an install
pub sequence_nowhere : (ps : List Process) (i : ℕ) → length ps ≤ i → of_sequence (map beginning ps) ≡ of_sequence (map beginning (drop i ps)) → of_sequence (map beginning ps) ≡ None
sequence_nowhere ps i end before = before ∙ at_drop_all (λ xs. of_sequence (map beginning xs)) ps i end
