-- The parallels of the behaviour that a block means have as many members in all as those of the block.
use Rattle.std.proofs.Common.{◌≡◌, ℕ, suc, ◌+◌, arith, List, [], ◌∷◌, map, length, sum, Option, None, Some, refl, ap, sym, subst, ◌∙◌}
use Rattle.std.proofs.lemmas.List.Sums.{sum_by-cons}
use Rattle.jolie_ast.specs.declared.name.Name.{Name}
use Rattle.jolie_ast.specs.declared.expression.Expr.{Expr}
use Rattle.jolie_ast.specs.declared.expression.Path.{Path}
use Rattle.jolie_ast.specs.declared.process.Assignment.{Assignment}
use Rattle.jolie_ast.specs.declared.process.Assignment.TheVariants as assignment
use Rattle.jolie_ast.specs.declared.process.ForStep.{ForStep}
use Rattle.jolie_ast.specs.declared.process.ForStep.TheVariants as for_step
use Rattle.jolie_ast.specs.declared.process.HandlerKey.{HandlerKey}
use Rattle.jolie_ast.specs.declared.process.Otherwise.TheOpen.{Otherwise-F, Process-F}
use Rattle.jolie_ast.specs.declared.process.Otherwise.TheFolds.{ind-Block, map-Answer, map-Block, map-Input, map-Otherwise, map-Process}
use Rattle.jolie_ast.specs.declared.process.Otherwise.{Otherwise, roll-Otherwise}
use Rattle.jolie_ast.specs.declared.process.Otherwise.TheVariants as otherwise
use Rattle.jolie_ast.specs.declared.process.Process.{Process, roll-Process}
use Rattle.jolie_ast.specs.declared.process.Process.TheVariants as process
use Rattle.jolie_ast.specs.declared.process.Answer.{Answer, roll-Answer}
use Rattle.jolie_ast.specs.declared.process.Block.{Block, roll-Block}
use Rattle.jolie_ast.specs.declared.process.Branch.{Branch, roll-Branch}
use Rattle.jolie_ast.specs.declared.process.Handler.{Handler, roll-Handler}
use Rattle.jolie_ast.specs.declared.process.If.{If, roll-If}
use Rattle.jolie_ast.specs.declared.process.Input.{Input, roll-Input}
use Rattle.jolie_ast.specs.declared.process.Reply.{Reply, roll-Reply}
use Rattle.jolie_ast.specs.Members as count
use Rattle.jolie_ast.specs.Members.{answer_members, block_members, branch_members, handler_members, if_members, input_members, otherwise_members, process_members, reply_members}
use Rattle.jolie_ast.proofs.Folds.{process_rolls, block_rolls, conditional_rolls, otherwise_rolls, input_rolls, reply_rolls, branch_rolls, answer_rolls, handler_rolls}
use Rattle.behaviour_tree.specs.Data as plain
use Rattle.behaviour_tree.specs.Data.{PathTree, Proc, Branches}
use Rattle.behaviour_tree.specs.View.{BranchView, HandlerView, ReplyView, branch_of, branches_of, handlers_of, procs_of}
use Rattle.behaviour_tree.specs.FormedBehaviours.{count_of, members_of_branches, members_of_handlers, members_within, parallel_members}
use Rattle.lower_processes.specs.Behaviours.{AnswerView, InputView, Numbering, alone, lowered_answer, lowered_assignment, lowered_block, lowered_branch, lowered_conditional, lowered_for, lowered_handler, lowered_input, lowered_otherwise, lowered_port, lowered_process, lowered_reply, lowered_step, sent}
use Rattle.lower_processes.specs.Expressions.{lowered_expr, lowered_if_written, lowered_path}
use Rattle.check_base.specs.Files.{place_in}
use Rattle.lower_processes.proofs.LoweredProcesses as means
use Rattle.service_check.proofs.RolledProcesses as rolled

-- ---- what is known of each part

abbrev ProcessCounts : Numbering → Process → Type 0
ProcessCounts m x = parallel_members (lowered_process m x) ≡ process_members x

abbrev BlockCounts : Numbering → Block → Type 0
BlockCounts m x = parallel_members (lowered_block m x) ≡ block_members x

abbrev IfCounts : Numbering → If → Type 0
IfCounts m x = parallel_members (lowered_conditional m x) ≡ if_members x

abbrev OtherwiseCounts : Numbering → Otherwise → Type 0
OtherwiseCounts m x = parallel_members (lowered_otherwise m x) ≡ otherwise_members x

abbrev AnswerCounts : Numbering → Answer → Type 0
AnswerCounts m x = members_of_handlers (lowered_answer m x).handlers ≡ answer_members x

abbrev InputCounts : Numbering → Input → Type 0
InputCounts m x = (after : Proc) (rest : Branches) → members_of_branches (branch_of (lowered_input m x).op (lowered_input m x).target (lowered_input m x).reply after rest) ≡ (input_members x + parallel_members after) + members_of_branches rest

abbrev ReplyCounts : Numbering → Reply → Type 0
ReplyCounts m x = parallel_members (lowered_reply m x).body ≡ reply_members x

abbrev BranchCounts : Numbering → Branch → Type 0
BranchCounts m x = (rest : Branches) → members_of_branches (branch_of (lowered_branch m x).op (lowered_branch m x).target (lowered_branch m x).reply (lowered_branch m x).after rest) ≡ branch_members x + members_of_branches rest

abbrev HandlerCounts : Numbering → Handler → Type 0
HandlerCounts m x = parallel_members (lowered_handler m x).body ≡ handler_members x

-- a thing of which this is known
abbrev pub Known : (X : Type 0) → (X → Type 0) → Type 0
Known X P = (x : X) × P x

-- the things themselves
abbrev pub bare : {X : Type 0} {P : X → Type 0} → List (Known X P) → List X
bare xs = map (λ x. x.0) xs

-- ---- lists

within_known : (m : Numbering) (ps : List (Known Process (ProcessCounts m))) → members_within (procs_of (map (lowered_process m) (bare ps))) ≡ sum (map process_members (bare ps))
within_known m [] = refl
within_known m (p ∷ ps) =
    ap (λ n. n + members_within (procs_of (map (lowered_process m) (bare ps)))) p.1
    ∙ ap (λ n. process_members p.0 + n) (within_known m ps)
    ∙ sym (sum_by-cons (λ n. n) (process_members p.0) (map process_members (bare ps)))

count_known : (m : Numbering) (ps : List Process) → count_of (procs_of (map (lowered_process m) ps)) ≡ length (map process_members ps)
count_known m [] = refl
count_known m (p ∷ ps) = ap suc (count_known m ps)

handlers_known : (m : Numbering) (fs : List (Known Handler (HandlerCounts m))) → members_of_handlers (handlers_of (map (lowered_handler m) (bare fs))) ≡ sum (map handler_members (bare fs))
handlers_known m [] = refl
handlers_known m (f ∷ fs) =
    ap (λ n. n + members_of_handlers (handlers_of (map (lowered_handler m) (bare fs)))) f.1
    ∙ ap (λ n. handler_members f.0 + n) (handlers_known m fs)
    ∙ sym (sum_by-cons (λ n. n) (handler_members f.0) (map handler_members (bare fs)))

branches_known : (m : Numbering) (bs : List (Known Branch (BranchCounts m))) → members_of_branches (branches_of (map (lowered_branch m) (bare bs))) ≡ sum (map branch_members (bare bs))
branches_known m [] = refl
branches_known m (b ∷ bs) =
    b.1 (branches_of (map (lowered_branch m) (bare bs)))
    ∙ ap (λ n. branch_members b.0 + n) (branches_known m bs)
    ∙ sym (sum_by-cons (λ n. n) (branch_members b.0) (map branch_members (bare bs)))

-- ---- one form of a process

assignment_none : (p : PathTree) (a : Assignment) → parallel_members (lowered_assignment p a) ≡ 0
assignment_none p (assignment.Root value) = refl
assignment_none p (assignment.Copy value) = refl
assignment_none p (assignment.Count c) = refl

step_none : (p : PathTree) (a : ForStep) → parallel_members (lowered_step p a) ≡ 0
step_none p (for_step.Root value) = refl
step_none p (for_step.Count c) = refl

-- what a form counts
abbrev count_in : Process-F Otherwise Process Answer Block Branch Handler If Input Reply → ℕ
count_in f = count.process_level (map-Process Otherwise Process Answer Block Branch Handler If Input Reply ℕ ℕ ℕ ℕ ℕ ℕ ℕ ℕ ℕ otherwise_members process_members answer_members block_members branch_members handler_members if_members input_members reply_members f)

process_counts : (f : Process-F Otherwise Process Answer Block Branch Handler If Input Reply) → process_members (roll-Process f) ≡ count_in f
unfolding process_members block_members if_members otherwise_members input_members reply_members branch_members answer_members handler_members
process_counts f = process_rolls count.members f

by_form : (m : Numbering) (f : Process-F Otherwise Process Answer Block Branch Handler If Input Reply) (x : Process) (p : Proc) → roll-Process f ≡ x → lowered_process m x ≡ p → parallel_members p ≡ count_in f → ProcessCounts m (roll-Process f)
by_form m f x p rolls lowered counts = ap (λ z. parallel_members (lowered_process m z)) rolls ∙ ap parallel_members lowered ∙ counts ∙ sym (process_counts f)

abbrev form_of : (m : Numbering) → Process-F (Known Otherwise (OtherwiseCounts m)) (Known Process (ProcessCounts m)) (Known Answer (AnswerCounts m)) (Known Block (BlockCounts m)) (Known Branch (BranchCounts m)) (Known Handler (HandlerCounts m)) (Known If (IfCounts m)) (Known Input (InputCounts m)) (Known Reply (ReplyCounts m)) → Process-F Otherwise Process Answer Block Branch Handler If Input Reply
form_of m y = map-Process (Known Otherwise (OtherwiseCounts m)) (Known Process (ProcessCounts m)) (Known Answer (AnswerCounts m)) (Known Block (BlockCounts m)) (Known Branch (BranchCounts m)) (Known Handler (HandlerCounts m)) (Known If (IfCounts m)) (Known Input (InputCounts m)) (Known Reply (ReplyCounts m)) Otherwise Process Answer Block Branch Handler If Input Reply (λ x. x.0) (λ x. x.0) (λ x. x.0) (λ x. x.0) (λ x. x.0) (λ x. x.0) (λ x. x.0) (λ x. x.0) (λ x. x.0) y

for_counts : (b s n : ℕ) → b ≡ n → s ≡ 0 → 0 + (b + (s + 0) + 0) ≡ n
for_counts b s n e z = omega (arith, e, z)

nothing_more : (n : ℕ) → n + 0 + 0 ≡ n
nothing_more n = omega arith

process_known : (m : Numbering) (y : Process-F (Known Otherwise (OtherwiseCounts m)) (Known Process (ProcessCounts m)) (Known Answer (AnswerCounts m)) (Known Block (BlockCounts m)) (Known Branch (BranchCounts m)) (Known Handler (HandlerCounts m)) (Known If (IfCounts m)) (Known Input (InputCounts m)) (Known Reply (ReplyCounts m))) → ProcessCounts m (roll-Process (form_of m y))
process_known m (Process-F.«Process::Nothing» at) = by_form m (Process-F.«Process::Nothing» at) (process.Nothing at) plain.nothing (process.rolls-Nothing at) (means.nothing_lowered m at) refl
process_known m (Process-F.Assign path a) = by_form m (Process-F.Assign path a) (process.Assign path a) (lowered_assignment (lowered_path path) a) (process.rolls-Assign path a) (means.assign_lowered m path a) (assignment_none (lowered_path path) a)
process_known m (Process-F.Undef at path) = by_form m (Process-F.Undef at path) (process.Undef at path) (plain.undef (lowered_path path)) (process.rolls-Undef at path) (means.undef_lowered m at path) refl
process_known m (Process-F.Correlate at variable value) =
    by_form m (Process-F.Correlate at variable value) (process.Correlate at variable value) (plain.bind (place_in m.variables variable.text) (lowered_expr value)) (process.rolls-Correlate at variable value) (means.correlate_lowered m at variable value) refl
process_known m (Process-F.If (i, k)) = by_form m (Process-F.If i) (process.If i) (lowered_conditional m i) (process.rolls-If i) (means.conditional_lowered m i) k
process_known m (Process-F.While at test (body, k)) = by_form m (Process-F.While at test body) (process.While at test body) (plain.repeat (lowered_expr test) (lowered_block m body)) (process.rolls-While at test body) (means.while_lowered m at test body) k
process_known m (Process-F.For at path first test stepped step (body, k)) =
    by_form m (Process-F.For at path first test stepped step body) (process.For at path first test stepped step body) (lowered_for (plain.assign (lowered_path path) (lowered_expr first)) (lowered_expr test) (lowered_block m body) (lowered_step (lowered_path stepped) step))
    (process.rolls-For at path first test stepped step body) (means.for_lowered m at path first test stepped step body)
    (for_counts (parallel_members (lowered_block m body)) (parallel_members (lowered_step (lowered_path stepped) step)) (block_members body) k (step_none (lowered_path stepped) step))
process_known m (Process-F.Input (i, k)) =
    by_form m (Process-F.Input i) (process.Input i) (alone (lowered_input m i)) (process.rolls-Input i) (means.input_form_lowered m i) (k plain.nothing plain.no_branches ∙ nothing_more (input_members i))
process_known m (Process-F.Choice at branches) =
    let bs : List Branch = bare branches in
    by_form m (Process-F.Choice at bs) (process.Choice at bs) (plain.choice (branches_of (map (lowered_branch m) bs))) (process.rolls-Choice at bs) (means.choice_lowered m at bs) (branches_known m branches)
process_known m (Process-F.Output operation port value None) =
    by_form m (Process-F.Output operation port value None) (process.Output operation port value None) (sent (lowered_port m port.text).number (place_in (lowered_port m port.text).operations operation.text) (lowered_if_written value) None) (process.rolls-Output operation port value None) (means.output_lowered m operation port value None) refl
process_known m (Process-F.Output operation port value (Some (a, k))) =
    by_form m (Process-F.Output operation port value (Some a)) (process.Output operation port value (Some a)) (sent (lowered_port m port.text).number (place_in (lowered_port m port.text).operations operation.text) (lowered_if_written value) (Some (lowered_answer m a)))
    (process.rolls-Output operation port value (Some a)) (means.output_lowered m operation port value (Some a)) k
process_known m (Process-F.Scope at name (body, k)) = by_form m (Process-F.Scope at name body) (process.Scope at name body) (plain.scope (place_in m.names name.text) (lowered_block m body)) (process.rolls-Scope at name body) (means.scope_lowered m at name body) k
process_known m (Process-F.Install at handlers) =
    let fs : List Handler = bare handlers in
    by_form m (Process-F.Install at fs) (process.Install at fs) (plain.install (handlers_of (map (lowered_handler m) fs))) (process.rolls-Install at fs) (means.install_lowered m at fs) (handlers_known m handlers)
process_known m (Process-F.Throw at fault value) = by_form m (Process-F.Throw at fault value) (process.Throw at fault value) (plain.throw (place_in m.names fault.text) (lowered_if_written value)) (process.rolls-Throw at fault value) (means.throw_lowered m at fault value) refl
process_known m (Process-F.Compensate at scope) = by_form m (Process-F.Compensate at scope) (process.Compensate at scope) (plain.comp (place_in m.names scope.text)) (process.rolls-Compensate at scope) (means.compensate_lowered m at scope) refl
process_known m (Process-F.InnerHandler at) = by_form m (Process-F.InnerHandler at) (process.InnerHandler at) plain.inner_handler (process.rolls-InnerHandler at) (means.inner_handler_lowered m at) refl
process_known m (Process-F.Block (b, k)) = by_form m (Process-F.Block b) (process.Block b) (plain.block (lowered_block m b)) (process.rolls-Block b) (means.block_form_lowered m b) k
process_known m (Process-F.Sequence statements) =
    let ps : List Process = bare statements in
    by_form m (Process-F.Sequence ps) (process.Sequence ps) (plain.sequence (procs_of (map (lowered_process m) ps))) (process.rolls-Sequence ps) (means.sequence_lowered m ps) (within_known m statements)
process_known m (Process-F.Parallel members) =
    let ps : List Process = bare members in
    by_form m (Process-F.Parallel ps) (process.Parallel ps) (plain.parallel (procs_of (map (lowered_process m) ps))) (process.rolls-Parallel ps) (means.parallel_lowered m ps)
    (ap (λ n. n + members_within (procs_of (map (lowered_process m) ps))) (count_known m ps) ∙ ap (λ n. length (map process_members ps) + n) (within_known m members))

-- ---- the other parts

otherwise_known : (m : Numbering) (y : Otherwise-F (Known Otherwise (OtherwiseCounts m)) (Known Process (ProcessCounts m)) (Known Answer (AnswerCounts m)) (Known Block (BlockCounts m)) (Known Branch (BranchCounts m)) (Known Handler (HandlerCounts m)) (Known If (IfCounts m)) (Known Input (InputCounts m)) (Known Reply (ReplyCounts m))) → OtherwiseCounts m (roll-Otherwise (map-Otherwise (Known Otherwise (OtherwiseCounts m)) (Known Process (ProcessCounts m)) (Known Answer (AnswerCounts m)) (Known Block (BlockCounts m)) (Known Branch (BranchCounts m)) (Known Handler (HandlerCounts m)) (Known If (IfCounts m)) (Known Input (InputCounts m)) (Known Reply (ReplyCounts m)) Otherwise Process Answer Block Branch Handler If Input Reply (λ x. x.0) (λ x. x.0) (λ x. x.0) (λ x. x.0) (λ x. x.0) (λ x. x.0) (λ x. x.0) (λ x. x.0) (λ x. x.0) y))
unfolding process_members block_members if_members otherwise_members input_members reply_members branch_members answer_members handler_members
otherwise_known m Otherwise-F.«Otherwise::Nothing» =
    ap (λ z. parallel_members (lowered_otherwise m z)) otherwise.rolls-Nothing ∙ ap parallel_members (means.no_else_lowered m) ∙ sym (otherwise_rolls count.members Otherwise-F.«Otherwise::Nothing»)
otherwise_known m (Otherwise-F.ElseIf (i, k)) =
    ap (λ z. parallel_members (lowered_otherwise m z)) (otherwise.rolls-ElseIf i) ∙ ap parallel_members (means.else_if_lowered m i) ∙ k ∙ sym (otherwise_rolls count.members (Otherwise-F.ElseIf i))
otherwise_known m (Otherwise-F.Else (b, k)) =
    ap (λ z. parallel_members (lowered_otherwise m z)) (otherwise.rolls-Else b) ∙ ap parallel_members (means.else_lowered m b) ∙ k ∙ sym (otherwise_rolls count.members (Otherwise-F.Else b))

abbrev block_by : (m : Numbering) → ℕ → Option (Known Process (ProcessCounts m)) → Block
block_by m at body = roll-Block (map-Block (Known Otherwise (OtherwiseCounts m)) (Known Process (ProcessCounts m)) (Known Answer (AnswerCounts m)) (Known Block (BlockCounts m)) (Known Branch (BranchCounts m)) (Known Handler (HandlerCounts m)) (Known If (IfCounts m)) (Known Input (InputCounts m)) (Known Reply (ReplyCounts m)) Otherwise Process Answer Block Branch Handler If Input Reply (λ x. x.0) (λ x. x.0) (λ x. x.0) (λ x. x.0) (λ x. x.0) (λ x. x.0) (λ x. x.0) (λ x. x.0) (λ x. x.0) (record { at = at; body = body }))

block_known : (m : Numbering) (at : ℕ) (body : Option (Known Process (ProcessCounts m))) → BlockCounts m (block_by m at body)
unfolding process_members block_members if_members otherwise_members input_members reply_members branch_members answer_members handler_members
block_known m at None = ap parallel_members (means.block_made m at None) ∙ sym (block_rolls count.members (record { at = at; body = None }))
block_known m at (Some (p, k)) = ap parallel_members (means.block_made m at (Some p)) ∙ k ∙ sym (block_rolls count.members (record { at = at; body = Some p }))

if_known : (m : Numbering) (at : ℕ) (test : Expr) (body : Known Block (BlockCounts m)) (rest : Known Otherwise (OtherwiseCounts m)) → IfCounts m (roll-If (record { at = at; test = test; body = body.0; otherwise = rest.0 }))
unfolding process_members block_members if_members otherwise_members input_members reply_members branch_members answer_members handler_members
if_known m at test (body, j) (rest, k) =
    ap parallel_members (rolled.if_lowered m at test body rest) ∙ ap (λ n. n + parallel_members (lowered_otherwise m rest)) j ∙ ap (λ n. block_members body + n) k
    ∙ sym (conditional_rolls count.members (record { at = at; test = test; body = body; otherwise = rest }))

abbrev answer_by : (m : Numbering) → Option Path → Option (List (Known Handler (HandlerCounts m))) → Answer
answer_by m path fs = roll-Answer (map-Answer (Known Otherwise (OtherwiseCounts m)) (Known Process (ProcessCounts m)) (Known Answer (AnswerCounts m)) (Known Block (BlockCounts m)) (Known Branch (BranchCounts m)) (Known Handler (HandlerCounts m)) (Known If (IfCounts m)) (Known Input (InputCounts m)) (Known Reply (ReplyCounts m)) Otherwise Process Answer Block Branch Handler If Input Reply (λ x. x.0) (λ x. x.0) (λ x. x.0) (λ x. x.0) (λ x. x.0) (λ x. x.0) (λ x. x.0) (λ x. x.0) (λ x. x.0) (record { path = path; handlers = fs }))

answer_known : (m : Numbering) (path : Option Path) (fs : Option (List (Known Handler (HandlerCounts m)))) → AnswerCounts m (answer_by m path fs)
unfolding process_members block_members if_members otherwise_members input_members reply_members branch_members answer_members handler_members
answer_known m path None = ap (λ (v : AnswerView). members_of_handlers v.handlers) (means.answer_made m path None) ∙ sym (answer_rolls count.members (record { path = path; handlers = None }))
answer_known m path (Some fs) =
    ap (λ (v : AnswerView). members_of_handlers v.handlers) (means.answer_made m path (Some (bare fs))) ∙ handlers_known m fs ∙ sym (answer_rolls count.members (record { path = path; handlers = Some (bare fs) }))

abbrev input_by : (m : Numbering) → Name → Option Path → Option (Known Reply (ReplyCounts m)) → Input
input_by m operation request reply = roll-Input (map-Input (Known Otherwise (OtherwiseCounts m)) (Known Process (ProcessCounts m)) (Known Answer (AnswerCounts m)) (Known Block (BlockCounts m)) (Known Branch (BranchCounts m)) (Known Handler (HandlerCounts m)) (Known If (IfCounts m)) (Known Input (InputCounts m)) (Known Reply (ReplyCounts m)) Otherwise Process Answer Block Branch Handler If Input Reply (λ x. x.0) (λ x. x.0) (λ x. x.0) (λ x. x.0) (λ x. x.0) (λ x. x.0) (λ x. x.0) (λ x. x.0) (λ x. x.0) (record { operation = operation; request = request; reply = reply }))

none_before : (a b : ℕ) → a + b ≡ 0 + a + b
none_before a b = omega arith

input_known : (m : Numbering) (operation : Name) (request : Option Path) (reply : Option (Known Reply (ReplyCounts m))) → InputCounts m (input_by m operation request reply)
unfolding process_members block_members if_members otherwise_members input_members reply_members branch_members answer_members handler_members
input_known m operation request None after rest =
    ap (λ (v : InputView). members_of_branches (branch_of v.op v.target v.reply after rest)) (means.input_made m operation request None)
    ∙ none_before (parallel_members after) (members_of_branches rest)
    ∙ ap (λ n. n + parallel_members after + members_of_branches rest) (sym (input_rolls count.members (record { operation = operation; request = request; reply = None })))
input_known m operation request (Some (y, k)) after rest =
    ap (λ (v : InputView). members_of_branches (branch_of v.op v.target v.reply after rest)) (means.input_made m operation request (Some y))
    ∙ ap (λ n. n + parallel_members after + members_of_branches rest) k
    ∙ ap (λ n. n + parallel_members after + members_of_branches rest) (sym (input_rolls count.members (record { operation = operation; request = request; reply = Some y })))

reply_known : (m : Numbering) (path : Option Path) (body : Known Block (BlockCounts m)) → ReplyCounts m (roll-Reply (record { path = path; body = body.0 }))
unfolding process_members block_members if_members otherwise_members input_members reply_members branch_members answer_members handler_members
reply_known m path (body, k) = ap (λ (v : ReplyView). parallel_members v.body) (rolled.reply_lowered m path body) ∙ k ∙ sym (reply_rolls count.members (record { path = path; body = body }))

branch_known : (m : Numbering) (at : ℕ) (input : Known Input (InputCounts m)) (after : Known Block (BlockCounts m)) → BranchCounts m (roll-Branch (record { at = at; input = input.0; after = after.0 }))
unfolding process_members block_members if_members otherwise_members input_members reply_members branch_members answer_members handler_members
branch_known m at (input, j) (after, k) rest =
    ap (λ (v : BranchView). members_of_branches (branch_of v.op v.target v.reply v.after rest)) (rolled.branch_lowered m at input after)
    ∙ j (lowered_block m after) rest
    ∙ ap (λ n. input_members input + n + members_of_branches rest) k
    ∙ ap (λ n. n + members_of_branches rest) (sym (branch_rolls count.members (record { at = at; input = input; after = after })))

handler_known : (m : Numbering) (under : HandlerKey) (body : Known Process (ProcessCounts m)) → HandlerCounts m (roll-Handler (record { key = under; body = body.0 }))
unfolding process_members block_members if_members otherwise_members input_members reply_members branch_members answer_members handler_members
handler_known m under (p, k) = ap (λ (v : HandlerView). parallel_members v.body) (rolled.handler_lowered m under p) ∙ k ∙ sym (handler_rolls count.members (record { key = under; body = p }))

-- ---- by induction

-- the members in what a block means
pub block_counts : (m : Numbering) (b : Block) → parallel_members (lowered_block m b) ≡ block_members b
block_counts m = ind-Block (OtherwiseCounts m) (ProcessCounts m) (AnswerCounts m) (BlockCounts m) (BranchCounts m) (HandlerCounts m) (IfCounts m) (InputCounts m) (ReplyCounts m)
    (λ x y is. subst (λ z. OtherwiseCounts m (roll-Otherwise z)) is (otherwise_known m y))
    (λ x y is. subst (λ z. ProcessCounts m (roll-Process z)) is (process_known m y))
    (λ x y is. subst (λ z. AnswerCounts m (roll-Answer z)) is (answer_known m y.path y.handlers))
    (λ x y is. subst (λ z. BlockCounts m (roll-Block z)) is (block_known m y.at y.body))
    (λ x y is. subst (λ z. BranchCounts m (roll-Branch z)) is (branch_known m y.at y.input y.after))
    (λ x y is. subst (λ z. HandlerCounts m (roll-Handler z)) is (handler_known m y.key y.body))
    (λ x y is. subst (λ z. IfCounts m (roll-If z)) is (if_known m y.at y.test y.body y.otherwise))
    (λ x y is. subst (λ z. InputCounts m (roll-Input z)) is (input_known m y.operation y.request y.reply))
    (λ x y is. subst (λ z. ReplyCounts m (roll-Reply z)) is (reply_known m y.path y.body))
