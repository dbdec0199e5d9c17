-- The first input of a behaviour is that of the process that means it.
use Rattle.std.proofs.Common.{◌≡◌, ℕ, Bool, true, false, List, [], ◌∷◌, map, Option, None, Some, refl, ap, sym, subst, ◌∙◌}
use Rattle.std.specs.Prelude.{if◌then◌else◌, option_map}
use Rattle.jolie_ast.specs.declared.name.Name.{Name}
use Rattle.jolie_ast.specs.declared.process.Assignment.{Assignment}
use Rattle.jolie_ast.specs.declared.process.Assignment.TheVariants as assignment
use Rattle.jolie_ast.specs.declared.process.Otherwise.TheOpen.{Process-F}
use Rattle.jolie_ast.specs.declared.process.Otherwise.TheFolds.{fold-roll-Process, ind-Block, map-Block, map-Process}
use Rattle.jolie_ast.specs.declared.process.Otherwise.{Otherwise}
use Rattle.jolie_ast.specs.declared.process.Process.{Process, roll-Process}
use Rattle.jolie_ast.specs.declared.process.Process.TheVariants as process
use Rattle.jolie_ast.specs.declared.process.Answer.{Answer}
use Rattle.jolie_ast.specs.declared.process.Block.{Block, roll-Block}
use Rattle.jolie_ast.specs.declared.process.Branch.{Branch, out-Branch}
use Rattle.jolie_ast.specs.declared.process.Handler.{Handler}
use Rattle.jolie_ast.specs.declared.process.If.{If}
use Rattle.jolie_ast.specs.declared.process.Input.{Input, out-Input}
use Rattle.jolie_ast.specs.declared.process.Reply.{Reply}
use Rattle.behaviour_tree.specs.Data as plain
use Rattle.behaviour_tree.specs.Data.{PathTree, Proc, Branches}
use Rattle.behaviour_tree.specs.View.{BranchView, ReplyView, branch_of, branches_of, handlers_of, procs_of}
use Rattle.behaviour_tree.specs.FormedServices as formed_services
use Rattle.behaviour_tree.specs.FormedBehaviours.{branch_operations}
use Rattle.behaviour_tree.specs.FormedServices.{first_of_members, is_install}
use Rattle.check_base.specs.Files.{place_in}
use Rattle.lower_processes.specs.Behaviours.{InputView, Numbering, alone, lowered_answer, lowered_assignment, lowered_block, lowered_branch, lowered_conditional, lowered_for, lowered_handler, lowered_input, lowered_port, lowered_process, lowered_step, sent}
use Rattle.lower_processes.specs.Expressions.{lowered_expr, lowered_if_written, lowered_path}
use Rattle.check_processes.specs.FirstInputParts.{beginning, branch_level, input_level}
use Rattle.check_processes.specs.ProcessParts.{branch_operation}
use Rattle.check_processes.specs.FirstInputs.{Beginning, block_level, first_input, of_sequence, process_level}
use Rattle.check_processes.proofs.Beginnings as begins
use Rattle.lower_processes.proofs.LoweredProcesses as means

-- ---- branches

-- the operations of a branch before others
operations_of_branch : (op : ℕ) (target : Option PathTree) (reply : Option ReplyView) (after : Proc) (rest : Branches) → branch_operations (branch_of op target reply after rest) ≡ op ∷ branch_operations rest
operations_of_branch op target None after rest = refl
operations_of_branch op target (Some r) after rest = refl

-- the number of the operation of an input
pub input_number : (m : Numbering) (i : Input) → (lowered_input m i).op ≡ place_in m.inputs (out-Input i).operation.text
input_number m i = ap (λ (v : InputView). v.op) (means.input_is m i)

-- the number of the operation of a branch
pub branch_number : (m : Numbering) (b : Branch) → (lowered_branch m b).op ≡ place_in m.inputs (branch_operation b).text
branch_number m b = ap (λ (v : BranchView). v.op) (means.branch_is m b) ∙ input_number m (out-Branch b).input

-- the numbers of names of operations
abbrev pub numbers_of : Numbering → List Name → List ℕ
numbers_of m ns = map (λ (n : Name). place_in m.inputs n.text) ns

-- the numbers of the operations of branches
pub branch_numbers : (m : Numbering) (bs : List Branch) → branch_operations (branches_of (map (lowered_branch m) bs)) ≡ numbers_of m (map branch_operation bs)
branch_numbers m [] = refl
branch_numbers m (b ∷ bs) =
    operations_of_branch (lowered_branch m b).op (lowered_branch m b).target (lowered_branch m b).reply (lowered_branch m b).after (branches_of (map (lowered_branch m) bs))
    ∙ ap (λ n. n ∷ branch_operations (branches_of (map (lowered_branch m) bs))) (branch_number m b)
    ∙ ap (λ ns. place_in m.inputs (branch_operation b).text ∷ ns) (branch_numbers m bs)

-- ---- what processes begin with

-- the numbers of a first input, where there is one
abbrev pub starts_at : Numbering → Option (List Name) → Option (List ℕ)
starts_at m o = option_map (numbers_of m) o

abbrev pub ProcessBegins : Numbering → Process → Type 0
ProcessBegins m x = (formed_services.first_input (lowered_process m x) ≡ starts_at m (beginning x).operations) × (is_install (lowered_process m x) ≡ (beginning x).installs)

abbrev pub BlockBegins : Numbering → Block → Type 0
BlockBegins m b = formed_services.first_input (lowered_block m b) ≡ starts_at m (first_input b)

-- an install
abbrev installs_form : Process-F Otherwise Process Answer Block Branch Handler If Input Reply → Bool
installs_form (Process-F.Install at hs) = true
installs_form x = false

installs_is : (x : Process-F Otherwise Process Answer Block Branch Handler If Input Reply) → (beginning (roll-Process x)).installs ≡ installs_form x
unfolding beginning
installs_is (Process-F.Install at hs) =
    ap (λ (b : Beginning). b.installs) (fold-roll-Process (Unit {0}) Beginning (Unit {0}) (Option (List Name)) Name (Unit {0}) (Unit {0}) Name (Unit {0}) (λ o. tt) process_level (λ a. tt) block_level branch_level (λ h. tt) (λ i. tt) input_level (λ r. tt) (Process-F.Install at hs))
installs_is x =
    ap (λ (b : Beginning). b.installs) (fold-roll-Process (Unit {0}) Beginning (Unit {0}) (Option (List Name)) Name (Unit {0}) (Unit {0}) Name (Unit {0}) (λ o. tt) process_level (λ a. tt) block_level branch_level (λ h. tt) (λ i. tt) input_level (λ r. tt) x)

-- what a form begins with, by what it means and what is said of it
begins_by : (m : Numbering) (f : Process-F Otherwise Process Answer Block Branch Handler If Input Reply) (x : Process) (p : Proc) (o : Option (List Name)) → roll-Process f ≡ x → lowered_process m x ≡ p → (beginning x).operations ≡ o
    → formed_services.first_input p ≡ starts_at m o → is_install p ≡ installs_form f → ProcessBegins m (roll-Process f)
begins_by m f x p o rolls lowered said first installs = (
  ap (λ z. formed_services.first_input (lowered_process m z)) rolls ∙ ap formed_services.first_input lowered ∙ first ∙ sym (ap (λ z. starts_at m (beginning z).operations) rolls ∙ ap (starts_at m) said),
  ap (λ z. is_install (lowered_process m z)) rolls ∙ ap is_install lowered ∙ installs ∙ sym (installs_is f),
)

assignment_first : (p : PathTree) (a : Assignment) → formed_services.first_input (lowered_assignment p a) ≡ None
assignment_first p (assignment.Root e) = refl
assignment_first p (assignment.Copy e) = refl
assignment_first p (assignment.Count c) = refl

assignment_installs : (p : PathTree) (a : Assignment) → is_install (lowered_assignment p a) ≡ false
assignment_installs p (assignment.Root e) = refl
assignment_installs p (assignment.Copy e) = refl
assignment_installs p (assignment.Count c) = refl

-- ---- one level, of which the parts are known

abbrev KnownProcess : Numbering → Type 0
KnownProcess m = (x : Process) × ProcessBegins m x

abbrev KnownBlock : Numbering → Type 0
KnownBlock m = (b : Block) × BlockBegins m b

-- a thing of which nothing is known
abbrev Plain : Type 0 → Type 0
Plain X = X × Unit {0}

abbrev Known-F : Numbering → Type 0
Known-F m = Process-F (Plain Otherwise) (KnownProcess m) (Plain Answer) (KnownBlock m) (Plain Branch) (Plain Handler) (Plain If) (Plain Input) (Plain Reply)

abbrev process_of : (m : Numbering) → Known-F m → Process-F Otherwise Process Answer Block Branch Handler If Input Reply
process_of m y =
    map-Process (Plain Otherwise) (KnownProcess m) (Plain Answer) (KnownBlock m) (Plain Branch) (Plain Handler) (Plain If) (Plain Input) (Plain Reply) Otherwise Process Answer Block Branch Handler If Input Reply
    (λ e. e.0) (λ e. e.0) (λ e. e.0) (λ e. e.0) (λ e. e.0) (λ e. e.0) (λ e. e.0) (λ e. e.0) (λ e. e.0) y

members_turn : (m : Numbering) (b : Bool) (first rest : Option (List ℕ)) (said later : Option (List Name)) → first ≡ starts_at m said → rest ≡ starts_at m later → (if b then rest else first) ≡ starts_at m (if b then later else said)
members_turn m true first rest said later e f = f
members_turn m false first rest said later e f = e

members_begin : (m : Numbering) (ps : List (KnownProcess m)) → first_of_members (procs_of (map (lowered_process m) (map (λ e. e.0) ps))) ≡ starts_at m (of_sequence (map beginning (map (λ e. e.0) ps)))
members_begin m [] = refl
members_begin m (p ∷ ps) =
    let rest : Option (List ℕ) = first_of_members (procs_of (map (lowered_process m) (map (λ e. e.0) ps))) in
    ap (λ b. if b then rest else formed_services.first_input (lowered_process m p.0)) p.1.1
    ∙ members_turn m (beginning p.0).installs (formed_services.first_input (lowered_process m p.0)) rest (beginning p.0).operations (of_sequence (map beginning (map (λ e. e.0) ps))) p.1.0 (members_begin m ps)

process_known : (m : Numbering) (y : Known-F m) → ProcessBegins m (roll-Process (process_of m y))
process_known m (Process-F.«Process::Nothing» at) = begins_by m (Process-F.«Process::Nothing» at) (process.Nothing at) plain.nothing None (process.rolls-Nothing at) (means.nothing_lowered m at) (begins.nothing_begins at) refl refl
process_known m (Process-F.Assign path a) =
    begins_by m (Process-F.Assign path a) (process.Assign path a) (lowered_assignment (lowered_path path) a) None (process.rolls-Assign path a) (means.assign_lowered m path a) (begins.assign_begins path a) (assignment_first (lowered_path path) a) (assignment_installs (lowered_path path) a)
process_known m (Process-F.Undef at path) = begins_by m (Process-F.Undef at path) (process.Undef at path) (plain.undef (lowered_path path)) None (process.rolls-Undef at path) (means.undef_lowered m at path) (begins.undef_begins at path) refl refl
process_known m (Process-F.Correlate at variable value) =
    begins_by m (Process-F.Correlate at variable value) (process.Correlate at variable value) (plain.bind (place_in m.variables variable.text) (lowered_expr value)) None (process.rolls-Correlate at variable value) (means.correlate_lowered m at variable value) (begins.correlate_begins at variable value) refl refl
process_known m (Process-F.If (i, k)) =
    begins_by m (Process-F.If i) (process.If i) (lowered_conditional m i) None (process.rolls-If i) (means.conditional_lowered m i) (begins.if_begins i) (ap formed_services.first_input (means.if_is m i)) (ap is_install (means.if_is m i))
process_known m (Process-F.While at test (body, k)) =
    begins_by m (Process-F.While at test body) (process.While at test body) (plain.repeat (lowered_expr test) (lowered_block m body)) None (process.rolls-While at test body) (means.while_lowered m at test body) (begins.while_begins at test body) refl refl
process_known m (Process-F.For at path first test stepped step (body, k)) =
    begins_by m (Process-F.For at path first test stepped step body) (process.For at path first test stepped step body) (lowered_for (plain.assign (lowered_path path) (lowered_expr first)) (lowered_expr test) (lowered_block m body) (lowered_step (lowered_path stepped) step)) None
    (process.rolls-For at path first test stepped step body) (means.for_lowered m at path first test stepped step body) (begins.for_begins at path first test stepped step body) refl refl
process_known m (Process-F.Input (i, k)) =
    begins_by m (Process-F.Input i) (process.Input i) (alone (lowered_input m i)) (Some ((out-Input i).operation ∷ [])) (process.rolls-Input i) (means.input_form_lowered m i) (begins.input_begins i)
    (ap Some (operations_of_branch (lowered_input m i).op (lowered_input m i).target (lowered_input m i).reply plain.nothing plain.no_branches ∙ ap (λ n. n ∷ []) (input_number m i))) refl
process_known m (Process-F.Choice at branches) =
    let bs : List Branch = map (λ e. e.0) branches in
    begins_by m (Process-F.Choice at bs) (process.Choice at bs) (plain.choice (branches_of (map (lowered_branch m) bs))) (Some (map branch_operation bs)) (process.rolls-Choice at bs) (means.choice_lowered m at bs) (begins.choice_begins at bs)
    (ap Some (branch_numbers m bs)) refl
process_known m (Process-F.Output operation port value None) =
    begins_by m (Process-F.Output operation port value None) (process.Output operation port value None) (sent (lowered_port m port.text).number (place_in (lowered_port m port.text).operations operation.text) (lowered_if_written value) None) None
    (process.rolls-Output operation port value None) (means.output_lowered m operation port value None) (begins.output_begins operation port value None) refl refl
process_known m (Process-F.Output operation port value (Some (a, k))) =
    begins_by m (Process-F.Output operation port value (Some a)) (process.Output operation port value (Some a)) (sent (lowered_port m port.text).number (place_in (lowered_port m port.text).operations operation.text) (lowered_if_written value) (Some (lowered_answer m a))) None
    (process.rolls-Output operation port value (Some a)) (means.output_lowered m operation port value (Some a)) (begins.output_begins operation port value (Some a)) refl refl
process_known m (Process-F.Scope at name (body, k)) =
    begins_by m (Process-F.Scope at name body) (process.Scope at name body) (plain.scope (place_in m.names name.text) (lowered_block m body)) (first_input body) (process.rolls-Scope at name body) (means.scope_lowered m at name body) (begins.scope_begins at name body) k refl
process_known m (Process-F.Install at handlers) =
    let hs : List Handler = map (λ e. e.0) handlers in
    begins_by m (Process-F.Install at hs) (process.Install at hs) (plain.install (handlers_of (map (lowered_handler m) hs))) None (process.rolls-Install at hs) (means.install_lowered m at hs) (begins.install_begins at hs) refl refl
process_known m (Process-F.Throw at fault value) =
    begins_by m (Process-F.Throw at fault value) (process.Throw at fault value) (plain.throw (place_in m.names fault.text) (lowered_if_written value)) None (process.rolls-Throw at fault value) (means.throw_lowered m at fault value) (begins.throw_begins at fault value) refl refl
process_known m (Process-F.Compensate at scope) =
    begins_by m (Process-F.Compensate at scope) (process.Compensate at scope) (plain.comp (place_in m.names scope.text)) None (process.rolls-Compensate at scope) (means.compensate_lowered m at scope) (begins.compensate_begins at scope) refl refl
process_known m (Process-F.InnerHandler at) =
    begins_by m (Process-F.InnerHandler at) (process.InnerHandler at) plain.inner_handler None (process.rolls-InnerHandler at) (means.inner_handler_lowered m at) (begins.inner_handler_begins at) refl refl
process_known m (Process-F.Block (b, k)) =
    begins_by m (Process-F.Block b) (process.Block b) (plain.block (lowered_block m b)) (first_input b) (process.rolls-Block b) (means.block_form_lowered m b) (begins.block_form_begins b) k refl
process_known m (Process-F.Sequence statements) =
    let ps : List Process = map (λ e. e.0) statements in
    begins_by m (Process-F.Sequence ps) (process.Sequence ps) (plain.sequence (procs_of (map (lowered_process m) ps))) (of_sequence (map beginning ps)) (process.rolls-Sequence ps) (means.sequence_lowered m ps) (begins.sequence_begins ps) (members_begin m statements) refl
process_known m (Process-F.Parallel members) =
    let ps : List Process = map (λ e. e.0) members in
    begins_by m (Process-F.Parallel ps) (process.Parallel ps) (plain.parallel (procs_of (map (lowered_process m) ps))) None (process.rolls-Parallel ps) (means.parallel_lowered m ps) (begins.parallel_begins ps) refl refl

abbrev block_of : (m : Numbering) → ℕ → Option (KnownProcess m) → Block
block_of m at body =
    roll-Block (map-Block (Plain Otherwise) (KnownProcess m) (Plain Answer) (KnownBlock m) (Plain Branch) (Plain Handler) (Plain If) (Plain Input) (Plain Reply) Otherwise Process Answer Block Branch Handler If Input Reply
    (λ e. e.0) (λ e. e.0) (λ e. e.0) (λ e. e.0) (λ e. e.0) (λ e. e.0) (λ e. e.0) (λ e. e.0) (λ e. e.0) (record { at = at; body = body }))

block_known : (m : Numbering) (at : ℕ) (body : Option (KnownProcess m)) → BlockBegins m (block_of m at body)
block_known m at None = ap formed_services.first_input (means.block_made m at None) ∙ sym (ap (starts_at m) (begins.block_made at None))
block_known m at (Some (p, k)) = ap formed_services.first_input (means.block_made m at (Some p)) ∙ k.0 ∙ sym (ap (starts_at m) (begins.block_made at (Some p)))

-- ---- by induction

-- a block begins with the input that its meaning begins with
pub block_starts : (m : Numbering) (b : Block) → BlockBegins m b
block_starts m = ind-Block (λ (x : Otherwise). Unit {0}) (ProcessBegins m) (λ (x : Answer). Unit {0}) (BlockBegins m) (λ (x : Branch). Unit {0}) (λ (x : Handler). Unit {0}) (λ (x : If). Unit {0}) (λ (x : Input). Unit {0}) (λ (x : Reply). Unit {0})
    (λ x y is. tt)
    (λ x y is. subst (λ z. ProcessBegins m (roll-Process z)) is (process_known m y))
    (λ x y is. tt)
    (λ x y is. subst (λ z. BlockBegins m (roll-Block z)) is (block_known m y.at y.body))
    (λ x y is. tt)
    (λ x y is. tt)
    (λ x y is. tt)
    (λ x y is. tt)
    (λ x y is. tt)
