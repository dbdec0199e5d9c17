-- The behaviour that a block means is well formed where nothing is refused of the block, it is formed, and what it names is among the names.
use Rattle.std.proofs.Common.{◌≡◌, ℕ, Bool, true, false, List, [], ◌∷◌, ◌++◌, map, flat_map, length, Option, None, Some, refl, ap, sym, subst, ◌∙◌}
use Rattle.std.specs.Prelude.{not, ◌&&◌, is_some, nat_lt, option_map}
use Rattle.std.proofs.lemmas.Bool.{and_from, and_parts, false≢true}
use Rattle.std.proofs.lemmas.List.Folds.{list_all-append}
use Rattle.jolie_ast.specs.declared.name.Name.{Name}
use Rattle.jolie_ast.specs.declared.expression.Expr.{Expr}
use Rattle.jolie_ast.specs.declared.expression.Path.{Path}
use Rattle.jolie_ast.specs.declared.process.Assignment.{Assignment}
use Rattle.jolie_ast.specs.declared.process.Assignment.TheVariants as assignment
use Rattle.jolie_ast.specs.declared.process.ForStep.{ForStep}
use Rattle.jolie_ast.specs.declared.process.ForStep.TheVariants as for_step
use Rattle.jolie_ast.specs.declared.process.HandlerKey.{HandlerKey}
use Rattle.jolie_ast.specs.declared.process.HandlerKey.TheVariants as key
use Rattle.jolie_ast.specs.declared.process.Otherwise.TheOpen.{Otherwise-F, Process-F}
use Rattle.jolie_ast.specs.declared.process.Otherwise.TheFolds.{ind-Block, map-Answer, map-Block, map-Input, map-Otherwise, map-Process}
use Rattle.jolie_ast.specs.declared.process.Otherwise.{Otherwise, roll-Otherwise}
use Rattle.jolie_ast.specs.declared.process.Otherwise.TheVariants as otherwise
use Rattle.jolie_ast.specs.declared.process.Process.{Process, roll-Process}
use Rattle.jolie_ast.specs.declared.process.Process.TheVariants as process
use Rattle.jolie_ast.specs.declared.process.Answer.{Answer, roll-Answer}
use Rattle.jolie_ast.specs.declared.process.Block.{Block, roll-Block}
use Rattle.jolie_ast.specs.declared.process.Branch.{Branch, roll-Branch, out-Branch}
use Rattle.jolie_ast.specs.declared.process.Handler.{Handler, out-Handler, roll-Handler}
use Rattle.jolie_ast.specs.declared.process.If.{If, roll-If}
use Rattle.jolie_ast.specs.declared.process.Input.{Input, out-Input, roll-Input}
use Rattle.jolie_ast.specs.declared.process.Reply.{Reply, roll-Reply}
use Rattle.jolie_ast.specs.Formed.{each, has_one, has_two, option_all, expr_formed, path_formed, assignment_formed, for_step_formed, process_formed, block_formed, if_formed, otherwise_formed, input_formed, reply_formed, branch_formed, answer_formed, handler_formed}
use Rattle.jolie_ast.proofs.Formed as shapes
use Rattle.behaviour_tree.specs.Data as plain
use Rattle.behaviour_tree.specs.Data.{PathTree, Proc, Branches}
use Rattle.behaviour_tree.specs.View.{BranchView, HandlerView, ReplyView, branch_of, branches_of, handlers_of, procs_of}
use Rattle.behaviour_tree.specs.Distinct.{is_some_list, numbers_differ, is_in}
use Rattle.behaviour_tree.specs.FormedExpressions.{is_exp, is_path, is_target}
use Rattle.behaviour_tree.specs.FormedBehaviours.{Reach, outputs_at, has_operation, is_key, is_behaviour, are_two, are_behaviours, are_branches, are_handlers, keys_differ, branch_operations}
use Rattle.check_base.specs.declared.refusal.CheckName.TheVariants.{DuplicateName, CompOutsideHandler, ChOutsideHandler}
use Rattle.check_base.specs.declared.refusal.Refusal.{Refusal}
use Rattle.check_base.specs.Least.{refused, refused_if}
use Rattle.check_base.specs.Repeated.{repeated, Texts}
use Rattle.check_base.specs.Files.{place_in}
use Rattle.lower_processes.specs.Behaviours.{AnswerView, InputView, Numbering, alone, in_turn, key_of, lowered_answer, lowered_assignment, lowered_block, lowered_branch, lowered_conditional, lowered_for, lowered_handler, lowered_input, lowered_otherwise, lowered_port, lowered_process, lowered_reply, lowered_step, sent}
use Rattle.lower_processes.specs.Expressions.{lowered_expr, lowered_if_written, lowered_path}
use Rattle.service_check.specs.Mentioned.{key_texts, process_texts, conditional_texts, otherwise_texts, input_texts, reply_texts, branch_texts, answer_texts, handler_texts, block_texts}
use Rattle.check_processes.specs.Surroundings.{Surroundings}
use Rattle.check_processes.specs.ProcessRules.{lacks_variable, sends, used, wrong_if_written, block_refused, process_refused}
use Rattle.check_processes.specs.ProcessParts.{answer_refused, bodies_refused, branch_operation, branch_refused, branches_refused, choice_refused, conditional_refused, handler_name, handler_refused, handlers_refused, input_refused, otherwise_refused, processes_refused, reply_if_written, reply_refused}
use Rattle.service_check.proofs.Emptied.{all_four, has_place, holds, left_empty, names_differ, right_empty}
use Rattle.lower_processes.proofs.LoweredProcesses as means
use Rattle.service_check.proofs.Mentions as mentions
use Rattle.check_processes.proofs.ProcessForms as forms
use Rattle.service_check.proofs.RolledProcesses as rolled
use Rattle.service_check.proofs.RolledProcesses.{shape_of}
use Rattle.service_check.proofs.WellExpressions.{expr_well, path_well, written_well}
use Rattle.service_check.proofs.WellHandlers.{fault_texts, handler_key, handler_keys}
use Rattle.service_check.proofs.WellInterfaces.{all_in, front_in, back_in, places_differ}
use Rattle.service_check.proofs.WellMembers.{Known, bare}
use Rattle.service_check.proofs.WellStarts.{branch_numbers}
use Rattle.service_check.proofs.WellTargets.{written_target}
use Rattle.check_base.proofs.Loops.{mapped_twice}

-- ---- what the numbers of a service say of its surroundings

-- whatever the processes of a service use without a refusal is there by its number
pub record Meets (e : Surroundings) (m : Numbering) (r : Reach) : Type 0 where
  pub inputs : (n : Name) (answers : Bool) → used e.inputs n answers ≡ [] → has_operation r.inputs (place_in m.inputs n.text) answers ≡ true
  pub outputs : (operation port : Name) (answers : Bool) → sends e operation port answers ≡ [] → has_operation (outputs_at r (lowered_port m port.text).number) (place_in (lowered_port m port.text).operations operation.text) answers ≡ true
  pub variables : (at : ℕ) (v : Name) → lacks_variable e at v ≡ [] → nat_lt (place_in m.variables v.text) r.variables ≡ true
  pub known : (n : Name) (answers : Bool) → used e.inputs n answers ≡ [] → is_in n.text m.inputs ≡ true
  pub names : length m.names ≡ r.names

-- a name that is there has a number
named_below : (e : Surroundings) (m : Numbering) (r : Reach) → Meets e m r → (t : List ℕ) → is_in t m.names ≡ true → nat_lt (place_in m.names t) r.names ≡ true
named_below e m r w t there = ap (λ n. nat_lt (place_in m.names t) n) (sym w.names) ∙ has_place m.names t there

-- ---- what is known of each part

abbrev BlockWell : Surroundings → Numbering → Reach → Block → Type 0
BlockWell e m r x = (h : Bool) → block_refused e x h ≡ [] → all_in m.names (block_texts x) ≡ true → block_formed x ≡ true → is_behaviour r h (lowered_block m x) ≡ true

abbrev ProcessWell : Surroundings → Numbering → Reach → Process → Type 0
ProcessWell e m r x = (h : Bool) → process_refused e x h ≡ [] → all_in m.names (process_texts x) ≡ true → process_formed x ≡ true → is_behaviour r h (lowered_process m x) ≡ true

abbrev IfWell : Surroundings → Numbering → Reach → If → Type 0
IfWell e m r x = (h : Bool) → conditional_refused e x h ≡ [] → all_in m.names (conditional_texts x) ≡ true → if_formed x ≡ true → is_behaviour r h (lowered_conditional m x) ≡ true

abbrev OtherwiseWell : Surroundings → Numbering → Reach → Otherwise → Type 0
OtherwiseWell e m r x = (h : Bool) → otherwise_refused e x h ≡ [] → all_in m.names (otherwise_texts x) ≡ true → otherwise_formed x ≡ true → is_behaviour r h (lowered_otherwise m x) ≡ true

abbrev AnswerWell : Surroundings → Numbering → Reach → Answer → Type 0
AnswerWell e m r x =
    answer_refused e x ≡ [] → all_in m.names (answer_texts x) ≡ true → answer_formed x ≡ true
    → (is_target (lowered_answer m x).target && keys_differ (lowered_answer m x).handlers && are_handlers r (lowered_answer m x).handlers) ≡ true

abbrev InputWell : Surroundings → Numbering → Reach → Input → Type 0
InputWell e m r x =
    (h : Bool) → input_refused e x h ≡ [] → all_in m.names (input_texts x) ≡ true → input_formed x ≡ true → (after : Proc) (rest : Branches) → is_behaviour r h after ≡ true → are_branches r h rest ≡ true
    → are_branches r h (branch_of (lowered_input m x).op (lowered_input m x).target (lowered_input m x).reply after rest) ≡ true

abbrev ReplyWell : Surroundings → Numbering → Reach → Reply → Type 0
ReplyWell e m r x =
    (h : Bool) → reply_refused e x h ≡ [] → all_in m.names (reply_texts x) ≡ true → reply_formed x ≡ true → (is_target (lowered_reply m x).path && is_behaviour r h (lowered_reply m x).body) ≡ true

abbrev BranchWell : Surroundings → Numbering → Reach → Branch → Type 0
BranchWell e m r x =
    (h : Bool) → branch_refused e x h ≡ [] → all_in m.names (branch_texts x) ≡ true → branch_formed x ≡ true → (rest : Branches) → are_branches r h rest ≡ true
    → are_branches r h (branch_of (lowered_branch m x).op (lowered_branch m x).target (lowered_branch m x).reply (lowered_branch m x).after rest) ≡ true

abbrev HandlerWell : Surroundings → Numbering → Reach → Handler → Type 0
HandlerWell e m r x =
    handler_refused e x ≡ [] → all_in m.names (handler_texts x) ≡ true → handler_formed x ≡ true → (is_key r.names (lowered_handler m x).key && is_behaviour r true (lowered_handler m x).body) ≡ true

-- ---- lists of parts

processes_known : (e : Surroundings) (m : Numbering) (r : Reach) (ps : List (Known Process (ProcessWell e m r))) (h : Bool) → processes_refused e (bare ps) h ≡ [] → all_in m.names (flat_map process_texts (bare ps)) ≡ true → each (map process_formed (bare ps)) ≡ true
    → are_behaviours r h (procs_of (map (lowered_process m) (bare ps))) ≡ true
processes_known e m r [] h none named shape = refl
processes_known e m r (p ∷ ps) h none named shape =
    let parts : (process_formed p.0 ≡ true) × (each (map process_formed (bare ps)) ≡ true) = and_parts (process_formed p.0) (each (map process_formed (bare ps))) shape in
    and_from (is_behaviour r h (lowered_process m p.0)) (are_behaviours r h (procs_of (map (lowered_process m) (bare ps))))
    (p.1 h (left_empty (process_refused e p.0 h) (processes_refused e (bare ps) h) none) (front_in m.names (process_texts p.0) (flat_map process_texts (bare ps)) named) parts.0)
    (processes_known e m r ps h (right_empty (process_refused e p.0 h) (processes_refused e (bare ps) h) none) (back_in m.names (process_texts p.0) (flat_map process_texts (bare ps)) named) parts.1)

two_known : (e : Surroundings) (m : Numbering) (r : Reach) (ps : List (Known Process (ProcessWell e m r))) (h : Bool) → processes_refused e (bare ps) h ≡ [] → all_in m.names (flat_map process_texts (bare ps)) ≡ true
    → (has_two (map process_formed (bare ps)) && each (map process_formed (bare ps))) ≡ true → are_two r h (procs_of (map (lowered_process m) (bare ps))) ≡ true
two_known e m r [] h none named shape = absurd (false≢true shape)
two_known e m r (p ∷ []) h none named shape = absurd (false≢true shape)
two_known e m r (p ∷ (q ∷ ps)) h none named shape = processes_known e m r (p ∷ (q ∷ ps)) h none named shape

handlers_known : (e : Surroundings) (m : Numbering) (r : Reach) (fs : List (Known Handler (HandlerWell e m r))) → bodies_refused e (bare fs) ≡ [] → all_in m.names (flat_map handler_texts (bare fs)) ≡ true → each (map handler_formed (bare fs)) ≡ true
    → are_handlers r (handlers_of (map (lowered_handler m) (bare fs))) ≡ true
handlers_known e m r [] none named shape = refl
handlers_known e m r (f ∷ fs) none named shape =
    let parts : (handler_formed f.0 ≡ true) × (each (map handler_formed (bare fs)) ≡ true) = and_parts (handler_formed f.0) (each (map handler_formed (bare fs))) shape in
    and_from (is_key r.names (lowered_handler m f.0).key && is_behaviour r true (lowered_handler m f.0).body) (are_handlers r (handlers_of (map (lowered_handler m) (bare fs))))
    (f.1 (left_empty (handler_refused e f.0) (bodies_refused e (bare fs)) none) (front_in m.names (handler_texts f.0) (flat_map handler_texts (bare fs)) named) parts.0)
    (handlers_known e m r fs (right_empty (handler_refused e f.0) (bodies_refused e (bare fs)) none) (back_in m.names (handler_texts f.0) (flat_map handler_texts (bare fs)) named) parts.1)

faults_named : (names : Texts) (fs : List Handler) → all_in names (flat_map handler_texts fs) ≡ true → all_in names (fault_texts (map handler_key fs)) ≡ true
faults_named names [] all = refl
faults_named names (f ∷ fs) all =
    let ts : Texts = key_texts (handler_key f) in
    let here : all_in names (ts ++ process_texts (out-Handler f).body) ≡ true = sym (ap (all_in names) (mentions.handler_is f)) ∙ front_in names (handler_texts f) (flat_map handler_texts fs) all in
    list_all-append (λ t. is_in t names) ts (fault_texts (map handler_key fs))
    ∙ and_from (all_in names ts) (all_in names (fault_texts (map handler_key fs))) (front_in names ts (process_texts (out-Handler f).body) here) (faults_named names fs (back_in names (handler_texts f) (flat_map handler_texts fs) all))

-- a list of handlers of which nothing is refused
all_handlers : (e : Surroundings) (m : Numbering) (r : Reach) (fs : List (Known Handler (HandlerWell e m r))) → handlers_refused e (bare fs) ≡ [] → all_in m.names (flat_map handler_texts (bare fs)) ≡ true → each (map handler_formed (bare fs)) ≡ true
    → (keys_differ (handlers_of (map (lowered_handler m) (bare fs))) && are_handlers r (handlers_of (map (lowered_handler m) (bare fs)))) ≡ true
all_handlers e m r fs none named shape =
    let twice : List Refusal = refused DuplicateName (repeated (map handler_name (bare fs))) in
    and_from (keys_differ (handlers_of (map (lowered_handler m) (bare fs)))) (are_handlers r (handlers_of (map (lowered_handler m) (bare fs))))
    (handler_keys m (bare fs) (left_empty twice (bodies_refused e (bare fs)) none) (faults_named m.names (bare fs) named))
    (handlers_known e m r fs (right_empty twice (bodies_refused e (bare fs)) none) named shape)

branches_known : (e : Surroundings) (m : Numbering) (r : Reach) (bs : List (Known Branch (BranchWell e m r))) (h : Bool) → branches_refused e (bare bs) h ≡ [] → all_in m.names (flat_map branch_texts (bare bs)) ≡ true → each (map branch_formed (bare bs)) ≡ true
    → are_branches r h (branches_of (map (lowered_branch m) (bare bs))) ≡ true
branches_known e m r [] h none named shape = refl
branches_known e m r (b ∷ bs) h none named shape =
    let parts : (branch_formed b.0 ≡ true) × (each (map branch_formed (bare bs)) ≡ true) = and_parts (branch_formed b.0) (each (map branch_formed (bare bs))) shape in
    b.1 h (left_empty (branch_refused e b.0 h) (branches_refused e (bare bs) h) none) (front_in m.names (branch_texts b.0) (flat_map branch_texts (bare bs)) named) parts.0 (branches_of (map (lowered_branch m) (bare bs)))
    (branches_known e m r bs h (right_empty (branch_refused e b.0 h) (branches_refused e (bare bs) h) none) (back_in m.names (branch_texts b.0) (flat_map branch_texts (bare bs)) named) parts.1)

-- the operations of branches that are not refused are there
operations_known : (e : Surroundings) (m : Numbering) (r : Reach) → Meets e m r → (bs : List Branch) (h : Bool) → branches_refused e bs h ≡ [] → all_in m.inputs (map (λ (n : Name). n.text) (map branch_operation bs)) ≡ true
operations_known e m r w [] h none = refl
operations_known e m r w (b ∷ bs) h none =
    let i : Input = (out-Branch b).input in
    let first : List Refusal = used e.inputs (out-Input i).operation (is_some (out-Input i).reply) in
    let second : List Refusal = wrong_if_written (out-Input i).request in
    let third : List Refusal = reply_if_written e (out-Input i).reply h in
    let mine : first ++ second ++ third ≡ [] = left_empty (input_refused e i h) (block_refused e (out-Branch b).after h) (left_empty (branch_refused e b h) (branches_refused e bs h) none) in
    and_from (is_in (branch_operation b).text m.inputs) (all_in m.inputs (map (λ (n : Name). n.text) (map branch_operation bs)))
    (w.known (branch_operation b) (is_some (out-Input i).reply) (left_empty first second (left_empty (first ++ second) third mine)))
    (operations_known e m r w bs h (right_empty (branch_refused e b h) (branches_refused e bs h) none))

one_at_least : (m : Numbering) (bs : List Branch) → has_one (map branch_formed bs) ≡ true → is_some_list (map (λ (n : Name). place_in m.inputs n.text) (map branch_operation bs)) ≡ true
one_at_least m [] e = e
one_at_least m (b ∷ bs) e = refl

-- ---- assignments

counted_well : (p : PathTree) → is_path p ≡ true → (is_path p && (is_path p && true)) ≡ true
counted_well p h = and_from (is_path p) (is_path p && true) h (and_from (is_path p) true h refl)

assignment_well : (r : Reach) (h : Bool) (p : PathTree) (a : Assignment) → is_path p ≡ true → assignment_formed a ≡ true → is_behaviour r h (lowered_assignment p a) ≡ true
assignment_well r h p (assignment.Root value) k shape = and_from (is_path p) (is_exp (lowered_expr value)) k (expr_well value shape)
assignment_well r h p (assignment.Copy value) k shape = and_from (is_path p) (is_exp (lowered_expr value)) k (expr_well value shape)
assignment_well r h p (assignment.Count c) k shape = counted_well p k

step_well : (r : Reach) (h : Bool) (p : PathTree) (a : ForStep) → is_path p ≡ true → for_step_formed a ≡ true → is_behaviour r h (lowered_step p a) ≡ true
step_well r h p (for_step.Root value) k shape = and_from (is_path p) (is_exp (lowered_expr value)) k (expr_well value shape)
step_well r h p (for_step.Count c) k shape = counted_well p k

-- two behaviours, one after the other
turns_well : (r : Reach) (h : Bool) (p q : Proc) → is_behaviour r h p ≡ true → is_behaviour r h q ≡ true → is_behaviour r h (in_turn p q) ≡ true
turns_well r h p q one two = and_from (is_behaviour r h p) (is_behaviour r h q && true) one (and_from (is_behaviour r h q) true two refl)

-- `for (a, e, c) B` is `a ; while (e) { B ; c }`
for_well : (e : Surroundings) (m : Numbering) (r : Reach) (path : Path) (first test : Expr) (stepped : Path) (step : ForStep) (body : Block) → BlockWell e m r body → (h : Bool) → block_refused e body h ≡ [] → all_in m.names (block_texts body) ≡ true
    → (path_formed path && (expr_formed first && (expr_formed test && (path_formed stepped && (for_step_formed step && block_formed body))))) ≡ true
    → is_behaviour r h (lowered_for (plain.assign (lowered_path path) (lowered_expr first)) (lowered_expr test) (lowered_block m body) (lowered_step (lowered_path stepped) step)) ≡ true
for_well e m r path first test stepped step body k h none all shape =
    let one : (path_formed path ≡ true) × ((expr_formed first && (expr_formed test && (path_formed stepped && (for_step_formed step && block_formed body)))) ≡ true) =
    and_parts (path_formed path) (expr_formed first && (expr_formed test && (path_formed stepped && (for_step_formed step && block_formed body)))) shape in
    let two : (expr_formed first ≡ true) × ((expr_formed test && (path_formed stepped && (for_step_formed step && block_formed body))) ≡ true) =
    and_parts (expr_formed first) (expr_formed test && (path_formed stepped && (for_step_formed step && block_formed body))) one.1 in
    let three : (expr_formed test ≡ true) × ((path_formed stepped && (for_step_formed step && block_formed body)) ≡ true) = and_parts (expr_formed test) (path_formed stepped && (for_step_formed step && block_formed body)) two.1 in
    let four : (path_formed stepped ≡ true) × ((for_step_formed step && block_formed body) ≡ true) = and_parts (path_formed stepped) (for_step_formed step && block_formed body) three.1 in
    let five : (for_step_formed step ≡ true) × (block_formed body ≡ true) = and_parts (for_step_formed step) (block_formed body) four.1 in
    turns_well r h (plain.assign (lowered_path path) (lowered_expr first)) (plain.repeat (lowered_expr test) (in_turn (lowered_block m body) (lowered_step (lowered_path stepped) step)))
    (and_from (is_path (lowered_path path)) (is_exp (lowered_expr first)) (path_well path one.0) (expr_well first two.0))
    (and_from (is_exp (lowered_expr test)) (is_behaviour r h (in_turn (lowered_block m body) (lowered_step (lowered_path stepped) step))) (expr_well test three.0)
    (turns_well r h (lowered_block m body) (lowered_step (lowered_path stepped) step) (k h none all five.1) (step_well r h (lowered_path stepped) step (path_well stepped four.0) five.0)))

alone_by : (r : Reach) (h : Bool) (op : ℕ) (target : Option PathTree) (reply : Option ReplyView) → are_branches r h (branch_of op target reply plain.nothing plain.no_branches) ≡ true
    → is_behaviour r h (plain.choice (branch_of op target reply plain.nothing plain.no_branches)) ≡ true
alone_by r h op target None k = k
alone_by r h op target (Some y) k = k

-- an input that stands alone
alone_well : (r : Reach) (h : Bool) (v : InputView) → are_branches r h (branch_of v.op v.target v.reply plain.nothing plain.no_branches) ≡ true → is_behaviour r h (alone v) ≡ true
alone_well r h v k = alone_by r h v.op v.target v.reply k

choice_well : (e : Surroundings) (m : Numbering) (r : Reach) → Meets e m r → (bs : List (Known Branch (BranchWell e m r))) (h : Bool) → choice_refused e (bare bs) h ≡ [] → all_in m.names (flat_map branch_texts (bare bs)) ≡ true
    → (has_one (map branch_formed (bare bs)) && each (map branch_formed (bare bs))) ≡ true → is_behaviour r h (plain.choice (branches_of (map (lowered_branch m) (bare bs)))) ≡ true
choice_well e m r w bs h none all shape =
    let names : List Name = map branch_operation (bare bs) in
    let ts : Texts = map (λ (n : Name). n.text) names in
    let lowered : Branches = branches_of (map (lowered_branch m) (bare bs)) in
    let twice : List Refusal = refused DuplicateName (repeated names) in
    let parts : (has_one (map branch_formed (bare bs)) ≡ true) × (each (map branch_formed (bare bs)) ≡ true) = and_parts (has_one (map branch_formed (bare bs))) (each (map branch_formed (bare bs))) shape in
    let numbers : branch_operations lowered ≡ map (λ (n : Name). place_in m.inputs n.text) names = branch_numbers m (bare bs) in
    let each_none : branches_refused e (bare bs) h ≡ [] = right_empty twice (branches_refused e (bare bs) h) none in
    and_from (is_some_list (branch_operations lowered) && numbers_differ (branch_operations lowered)) (are_branches r h lowered)
    (and_from (is_some_list (branch_operations lowered)) (numbers_differ (branch_operations lowered))
    (ap is_some_list numbers ∙ one_at_least m (bare bs) parts.0)
    (ap numbers_differ (numbers ∙ sym (mapped_twice (place_in m.inputs) (λ (n : Name). n.text) names))
    ∙ places_differ m.inputs ts (names_differ DuplicateName names (left_empty twice (branches_refused e (bare bs) h) none)) (operations_known e m r w (bare bs) h each_none)))
    (branches_known e m r bs h each_none all parts.1)

all_five : (a b c d f : Bool) → a ≡ true → b ≡ true → (c && d && f) ≡ true → (a && b && c && d && f) ≡ true
all_five true true c d f ha hb rest = rest
all_five true false c d f ha hb rest = absurd (false≢true hb)
all_five false b c d f ha hb rest = absurd (false≢true ha)

solicit_well : (e : Surroundings) (m : Numbering) (r : Reach) → Meets e m r → (operation port : Name) (value : Option Expr) (a : Answer) → AnswerWell e m r a → sends e operation port true ++ answer_refused e a ≡ [] → all_in m.names (answer_texts a) ≡ true
    → (option_all expr_formed value && answer_formed a) ≡ true
    → (has_operation (outputs_at r (lowered_port m port.text).number) (place_in (lowered_port m port.text).operations operation.text) true && is_exp (lowered_if_written value) && is_target (lowered_answer m a).target && keys_differ (lowered_answer m a).handlers && are_handlers r (lowered_answer m a).handlers) ≡ true
solicit_well e m r w operation port value a k none all shape =
    let parts : (option_all expr_formed value ≡ true) × (answer_formed a ≡ true) = and_parts (option_all expr_formed value) (answer_formed a) shape in
    all_five (has_operation (outputs_at r (lowered_port m port.text).number) (place_in (lowered_port m port.text).operations operation.text) true) (is_exp (lowered_if_written value)) (is_target (lowered_answer m a).target) (keys_differ (lowered_answer m a).handlers) (are_handlers r (lowered_answer m a).handlers)
    (w.outputs operation port true (left_empty (sends e operation port true) (answer_refused e a) none)) (written_well value parts.0)
    (k (right_empty (sends e operation port true) (answer_refused e a) none) all parts.1)

-- ---- one form of a process

abbrev Part-F : Surroundings → Numbering → Reach → Type 0
Part-F e m r = Process-F (Known Otherwise (OtherwiseWell e m r)) (Known Process (ProcessWell e m r)) (Known Answer (AnswerWell e m r)) (Known Block (BlockWell e m r)) (Known Branch (BranchWell e m r)) (Known Handler (HandlerWell e m r)) (Known If (IfWell e m r)) (Known Input (InputWell e m r)) (Known Reply (ReplyWell e m r))

abbrev form_of : (e : Surroundings) (m : Numbering) (r : Reach) → Part-F e m r → Process-F Otherwise Process Answer Block Branch Handler If Input Reply
form_of e m r y =
    map-Process (Known Otherwise (OtherwiseWell e m r)) (Known Process (ProcessWell e m r)) (Known Answer (AnswerWell e m r)) (Known Block (BlockWell e m r)) (Known Branch (BranchWell e m r)) (Known Handler (HandlerWell e m r)) (Known If (IfWell e m r)) (Known Input (InputWell e m r)) (Known Reply (ReplyWell e m r))
    Otherwise Process Answer Block Branch Handler If Input Reply (λ x. x.0) (λ x. x.0) (λ x. x.0) (λ x. x.0) (λ x. x.0) (λ x. x.0) (λ x. x.0) (λ x. x.0) (λ x. x.0) y

by_form : (e : Surroundings) (m : Numbering) (r : Reach) (f : Process-F Otherwise Process Answer Block Branch Handler If Input Reply) (x : Process) (p : Proc) (rs : Bool → List Refusal) (ts : Texts)
    → roll-Process f ≡ x → lowered_process m x ≡ p → ((h : Bool) → process_refused e x h ≡ rs h) → process_texts x ≡ ts
    → ((h : Bool) → rs h ≡ [] → all_in m.names ts ≡ true → shape_of f ≡ true → is_behaviour r h p ≡ true) → ProcessWell e m r (roll-Process f)
by_form e m r f x p rs ts rolls lowered found named well h none all shape =
    ap (λ z. is_behaviour r h (lowered_process m z)) rolls ∙ ap (is_behaviour r h) lowered
    ∙ well h (sym (ap (λ z. process_refused e z h) rolls ∙ found h) ∙ none) (sym (ap (λ z. all_in m.names (process_texts z)) rolls ∙ ap (all_in m.names) named) ∙ all) (sym (rolled.process_forms f) ∙ shape)

process_known : (e : Surroundings) (m : Numbering) (r : Reach) → Meets e m r → (y : Part-F e m r) → ProcessWell e m r (roll-Process (form_of e m r y))
process_known e m r w (Process-F.«Process::Nothing» at) =
    by_form e m r (Process-F.«Process::Nothing» at) (process.Nothing at) plain.nothing (λ h. []) [] (process.rolls-Nothing at) (means.nothing_lowered m at) (forms.nothing_refused e at) (mentions.nothing_mentions at) (λ h none all shape. refl)
process_known e m r w (Process-F.Assign path a) =
    by_form e m r (Process-F.Assign path a) (process.Assign path a) (lowered_assignment (lowered_path path) a) (λ h. []) [] (process.rolls-Assign path a) (means.assign_lowered m path a) (forms.assign_refused e path a) (mentions.assign_mentions path a)
    (λ h none all shape. let parts : (path_formed path ≡ true) × (assignment_formed a ≡ true) = and_parts (path_formed path) (assignment_formed a) shape in assignment_well r h (lowered_path path) a (path_well path parts.0) parts.1)
process_known e m r w (Process-F.Undef at path) =
    by_form e m r (Process-F.Undef at path) (process.Undef at path) (plain.undef (lowered_path path)) (λ h. []) [] (process.rolls-Undef at path) (means.undef_lowered m at path) (forms.undef_refused e at path) (mentions.undef_mentions at path) (λ h none all shape. path_well path shape)
process_known e m r w (Process-F.Correlate at variable value) =
    by_form e m r (Process-F.Correlate at variable value) (process.Correlate at variable value) (plain.bind (place_in m.variables variable.text) (lowered_expr value)) (λ h. lacks_variable e at variable) []
    (process.rolls-Correlate at variable value) (means.correlate_lowered m at variable value) (forms.correlate_refused e at variable value) (mentions.correlate_mentions at variable value)
    (λ h none all shape. and_from (nat_lt (place_in m.variables variable.text) r.variables) (is_exp (lowered_expr value)) (w.variables at variable none) (expr_well value shape))
process_known e m r w (Process-F.If (i, k)) =
    by_form e m r (Process-F.If i) (process.If i) (lowered_conditional m i) (conditional_refused e i) (conditional_texts i) (process.rolls-If i) (means.conditional_lowered m i) (forms.if_refused e i) (mentions.conditional_mentions i) k
process_known e m r w (Process-F.While at test (body, k)) =
    by_form e m r (Process-F.While at test body) (process.While at test body) (plain.repeat (lowered_expr test) (lowered_block m body)) (block_refused e body) (block_texts body)
    (process.rolls-While at test body) (means.while_lowered m at test body) (forms.while_refused e at test body) (mentions.while_mentions at test body)
    (λ h none all shape. let parts : (expr_formed test ≡ true) × (block_formed body ≡ true) = and_parts (expr_formed test) (block_formed body) shape in
    and_from (is_exp (lowered_expr test)) (is_behaviour r h (lowered_block m body)) (expr_well test parts.0) (k h none all parts.1))
process_known e m r w (Process-F.For at path first test stepped step (body, k)) =
    by_form e m r (Process-F.For at path first test stepped step body) (process.For at path first test stepped step body) (lowered_for (plain.assign (lowered_path path) (lowered_expr first)) (lowered_expr test) (lowered_block m body) (lowered_step (lowered_path stepped) step))
    (block_refused e body) (block_texts body) (process.rolls-For at path first test stepped step body) (means.for_lowered m at path first test stepped step body) (forms.for_refused e at path first test stepped step body) (mentions.for_mentions at path first test stepped step body)
    (λ h none all shape. for_well e m r path first test stepped step body k h none all shape)
process_known e m r w (Process-F.Input (i, k)) =
    by_form e m r (Process-F.Input i) (process.Input i) (alone (lowered_input m i)) (input_refused e i) (input_texts i) (process.rolls-Input i) (means.input_form_lowered m i) (forms.input_alone_refused e i) (mentions.input_form_mentions i)
    (λ h none all shape. alone_well r h (lowered_input m i) (k h none all shape plain.nothing plain.no_branches refl refl))
process_known e m r w (Process-F.Choice at branches) =
    let bs : List Branch = bare branches in
    by_form e m r (Process-F.Choice at bs) (process.Choice at bs) (plain.choice (branches_of (map (lowered_branch m) bs))) (choice_refused e bs) (flat_map branch_texts bs)
    (process.rolls-Choice at bs) (means.choice_lowered m at bs) (forms.choice_is_refused e at bs) (mentions.choice_mentions at bs)
    (λ h none all shape. choice_well e m r w branches h none all shape)
process_known e m r w (Process-F.Output operation port value None) =
    by_form e m r (Process-F.Output operation port value None) (process.Output operation port value None) (sent (lowered_port m port.text).number (place_in (lowered_port m port.text).operations operation.text) (lowered_if_written value) None)
    (λ h. sends e operation port false) [] (process.rolls-Output operation port value None) (means.output_lowered m operation port value None) (forms.output_is_refused e operation port value None) (mentions.output_mentions operation port value None)
    (λ h none all shape. and_from (has_operation (outputs_at r (lowered_port m port.text).number) (place_in (lowered_port m port.text).operations operation.text) false) (is_exp (lowered_if_written value))
    (w.outputs operation port false none) (written_well value (and_parts (option_all expr_formed value) true shape).0))
process_known e m r w (Process-F.Output operation port value (Some (a, k))) =
    by_form e m r (Process-F.Output operation port value (Some a)) (process.Output operation port value (Some a)) (sent (lowered_port m port.text).number (place_in (lowered_port m port.text).operations operation.text) (lowered_if_written value) (Some (lowered_answer m a)))
    (λ h. sends e operation port true ++ answer_refused e a) (answer_texts a) (process.rolls-Output operation port value (Some a)) (means.output_lowered m operation port value (Some a)) (forms.output_is_refused e operation port value (Some a)) (mentions.output_mentions operation port value (Some a))
    (λ h none all shape. solicit_well e m r w operation port value a k none all shape)
process_known e m r w (Process-F.Scope at name (body, k)) =
    by_form e m r (Process-F.Scope at name body) (process.Scope at name body) (plain.scope (place_in m.names name.text) (lowered_block m body)) (block_refused e body) (name.text ∷ block_texts body)
    (process.rolls-Scope at name body) (means.scope_lowered m at name body) (forms.scope_refused e at name body) (mentions.scope_mentions at name body)
    (λ h none all shape. let parts : (is_in name.text m.names ≡ true) × (all_in m.names (block_texts body) ≡ true) = and_parts (is_in name.text m.names) (all_in m.names (block_texts body)) all in
    and_from (nat_lt (place_in m.names name.text) r.names) (is_behaviour r h (lowered_block m body)) (named_below e m r w name.text parts.0) (k h none parts.1 shape))
process_known e m r w (Process-F.Install at handlers) =
    let fs : List Handler = bare handlers in
    by_form e m r (Process-F.Install at fs) (process.Install at fs) (plain.install (handlers_of (map (lowered_handler m) fs))) (λ h. handlers_refused e fs) (flat_map handler_texts fs)
    (process.rolls-Install at fs) (means.install_lowered m at fs) (forms.install_refused e at fs) (mentions.install_mentions at fs) (λ h none all shape. all_handlers e m r handlers none all shape)
process_known e m r w (Process-F.Throw at fault value) =
    by_form e m r (Process-F.Throw at fault value) (process.Throw at fault value) (plain.throw (place_in m.names fault.text) (lowered_if_written value)) (λ h. []) (fault.text ∷ [])
    (process.rolls-Throw at fault value) (means.throw_lowered m at fault value) (forms.throw_refused e at fault value) (mentions.throw_mentions at fault value)
    (λ h none all shape. and_from (nat_lt (place_in m.names fault.text) r.names) (is_exp (lowered_if_written value)) (named_below e m r w fault.text (and_parts (is_in fault.text m.names) true all).0) (written_well value shape))
process_known e m r w (Process-F.Compensate at scope) =
    by_form e m r (Process-F.Compensate at scope) (process.Compensate at scope) (plain.comp (place_in m.names scope.text)) (λ h. refused_if (not h) CompOutsideHandler at) (scope.text ∷ [])
    (process.rolls-Compensate at scope) (means.compensate_lowered m at scope) (forms.compensate_refused e at scope) (mentions.compensate_mentions at scope)
    (λ h none all shape. and_from h (nat_lt (place_in m.names scope.text) r.names) (holds h CompOutsideHandler at none) (named_below e m r w scope.text (and_parts (is_in scope.text m.names) true all).0))
process_known e m r w (Process-F.InnerHandler at) =
    by_form e m r (Process-F.InnerHandler at) (process.InnerHandler at) plain.inner_handler (λ h. refused_if (not h) ChOutsideHandler at) [] (process.rolls-InnerHandler at) (means.inner_handler_lowered m at) (forms.inner_handler_refused e at) (mentions.inner_handler_mentions at)
    (λ h none all shape. holds h ChOutsideHandler at none)
process_known e m r w (Process-F.Block (b, k)) =
    by_form e m r (Process-F.Block b) (process.Block b) (plain.block (lowered_block m b)) (block_refused e b) (block_texts b) (process.rolls-Block b) (means.block_form_lowered m b) (forms.block_alone_refused e b) (mentions.block_form_mentions b) k
process_known e m r w (Process-F.Sequence statements) =
    let ps : List Process = bare statements in
    by_form e m r (Process-F.Sequence ps) (process.Sequence ps) (plain.sequence (procs_of (map (lowered_process m) ps))) (processes_refused e ps) (flat_map process_texts ps)
    (process.rolls-Sequence ps) (means.sequence_lowered m ps) (forms.sequence_refused e ps) (mentions.sequence_mentions ps) (λ h none all shape. two_known e m r statements h none all shape)
process_known e m r w (Process-F.Parallel members) =
    let ps : List Process = bare members in
    by_form e m r (Process-F.Parallel ps) (process.Parallel ps) (plain.parallel (procs_of (map (lowered_process m) ps))) (processes_refused e ps) (flat_map process_texts ps)
    (process.rolls-Parallel ps) (means.parallel_lowered m ps) (forms.parallel_refused e ps) (mentions.parallel_mentions ps) (λ h none all shape. two_known e m r members h none all shape)

-- ---- the other parts

otherwise_known : (e : Surroundings) (m : Numbering) (r : Reach) (y : Otherwise-F (Known Otherwise (OtherwiseWell e m r)) (Known Process (ProcessWell e m r)) (Known Answer (AnswerWell e m r)) (Known Block (BlockWell e m r)) (Known Branch (BranchWell e m r)) (Known Handler (HandlerWell e m r)) (Known If (IfWell e m r)) (Known Input (InputWell e m r)) (Known Reply (ReplyWell e m r))) → OtherwiseWell e m r (roll-Otherwise (map-Otherwise (Known Otherwise (OtherwiseWell e m r)) (Known Process (ProcessWell e m r)) (Known Answer (AnswerWell e m r)) (Known Block (BlockWell e m r)) (Known Branch (BranchWell e m r)) (Known Handler (HandlerWell e m r)) (Known If (IfWell e m r)) (Known Input (InputWell e m r)) (Known Reply (ReplyWell e m r)) Otherwise Process Answer Block Branch Handler If Input Reply (λ x. x.0) (λ x. x.0) (λ x. x.0) (λ x. x.0) (λ x. x.0) (λ x. x.0) (λ x. x.0) (λ x. x.0) (λ x. x.0) y))
otherwise_known e m r Otherwise-F.«Otherwise::Nothing» = subst (OtherwiseWell e m r) (sym otherwise.rolls-Nothing) (λ h none all shape. ap (is_behaviour r h) (means.no_else_lowered m))
otherwise_known e m r (Otherwise-F.ElseIf (i, k)) =
    subst (OtherwiseWell e m r) (sym (otherwise.rolls-ElseIf i))
    (λ h none all shape. ap (is_behaviour r h) (means.else_if_lowered m i) ∙ k h (sym (forms.else_if_refused e i h) ∙ none) (sym (ap (all_in m.names) (mentions.else_if_texts i)) ∙ all) (sym (shapes.else_if_forms i) ∙ shape))
otherwise_known e m r (Otherwise-F.Else (b, k)) =
    subst (OtherwiseWell e m r) (sym (otherwise.rolls-Else b))
    (λ h none all shape. ap (is_behaviour r h) (means.else_lowered m b) ∙ k h (sym (forms.else_refused e b h) ∙ none) (sym (ap (all_in m.names) (mentions.else_texts b)) ∙ all) (sym (shapes.else_forms b) ∙ shape))

abbrev block_by : (e : Surroundings) (m : Numbering) (r : Reach) → ℕ → Option (Known Process (ProcessWell e m r)) → Block
block_by e m r at body = roll-Block (map-Block (Known Otherwise (OtherwiseWell e m r)) (Known Process (ProcessWell e m r)) (Known Answer (AnswerWell e m r)) (Known Block (BlockWell e m r)) (Known Branch (BranchWell e m r)) (Known Handler (HandlerWell e m r)) (Known If (IfWell e m r)) (Known Input (InputWell e m r)) (Known Reply (ReplyWell e m r)) Otherwise Process Answer Block Branch Handler If Input Reply (λ x. x.0) (λ x. x.0) (λ x. x.0) (λ x. x.0) (λ x. x.0) (λ x. x.0) (λ x. x.0) (λ x. x.0) (λ x. x.0) (record { at = at; body = body }))

block_known : (e : Surroundings) (m : Numbering) (r : Reach) (at : ℕ) (body : Option (Known Process (ProcessWell e m r))) → BlockWell e m r (block_by e m r at body)
block_known e m r at None h none all shape = ap (is_behaviour r h) (means.block_made m at None)
block_known e m r at (Some (p, k)) h none all shape =
    ap (is_behaviour r h) (means.block_made m at (Some p))
    ∙ k h (sym (forms.block_made e at (Some p) h) ∙ none) (sym (ap (all_in m.names) (mentions.block_made at (Some p))) ∙ all) (sym (shapes.block_forms at (Some p)) ∙ shape)

if_known : (e : Surroundings) (m : Numbering) (r : Reach) (at : ℕ) (test : Expr) (body : Known Block (BlockWell e m r)) (rest : Known Otherwise (OtherwiseWell e m r)) → IfWell e m r (roll-If (record { at = at; test = test; body = body.0; otherwise = rest.0 }))
if_known e m r at test (body, j) (rest, k) h none all shape =
    let found : block_refused e body h ++ otherwise_refused e rest h ≡ [] = sym (rolled.if_rolled e at test body rest h) ∙ none in
    let named : all_in m.names (block_texts body ++ otherwise_texts rest) ≡ true = sym (ap (all_in m.names) (rolled.if_names at test body rest)) ∙ all in
    let one : (expr_formed test ≡ true) × ((block_formed body && otherwise_formed rest) ≡ true) = and_parts (expr_formed test) (block_formed body && otherwise_formed rest) (sym (shapes.if_forms at test body rest) ∙ shape) in
    let two : (block_formed body ≡ true) × (otherwise_formed rest ≡ true) = and_parts (block_formed body) (otherwise_formed rest) one.1 in
    ap (is_behaviour r h) (rolled.if_lowered m at test body rest)
    ∙ and_from (is_exp (lowered_expr test) && is_behaviour r h (lowered_block m body)) (is_behaviour r h (lowered_otherwise m rest))
    (and_from (is_exp (lowered_expr test)) (is_behaviour r h (lowered_block m body)) (expr_well test one.0) (j h (left_empty (block_refused e body h) (otherwise_refused e rest h) found) (front_in m.names (block_texts body) (otherwise_texts rest) named) two.0))
    (k h (right_empty (block_refused e body h) (otherwise_refused e rest h) found) (back_in m.names (block_texts body) (otherwise_texts rest) named) two.1)

abbrev answer_by : (e : Surroundings) (m : Numbering) (r : Reach) → Option Path → Option (List (Known Handler (HandlerWell e m r))) → Answer
answer_by e m r path fs = roll-Answer (map-Answer (Known Otherwise (OtherwiseWell e m r)) (Known Process (ProcessWell e m r)) (Known Answer (AnswerWell e m r)) (Known Block (BlockWell e m r)) (Known Branch (BranchWell e m r)) (Known Handler (HandlerWell e m r)) (Known If (IfWell e m r)) (Known Input (InputWell e m r)) (Known Reply (ReplyWell e m r)) Otherwise Process Answer Block Branch Handler If Input Reply (λ x. x.0) (λ x. x.0) (λ x. x.0) (λ x. x.0) (λ x. x.0) (λ x. x.0) (λ x. x.0) (λ x. x.0) (λ x. x.0) (record { path = path; handlers = fs }))

-- what an output awaits
abbrev view_well : Reach → AnswerView → Bool
view_well r v = is_target v.target && keys_differ v.handlers && are_handlers r v.handlers

three_from : (a b c : Bool) → a ≡ true → (b && c) ≡ true → (a && b && c) ≡ true
three_from true b c ha rest = rest
three_from false b c ha rest = absurd (false≢true ha)

answer_known : (e : Surroundings) (m : Numbering) (r : Reach) (path : Option Path) (fs : Option (List (Known Handler (HandlerWell e m r)))) → AnswerWell e m r (answer_by e m r path fs)
answer_known e m r path None none all shape =
    ap (view_well r) (means.answer_made m path None)
    ∙ three_from (is_target (option_map lowered_path path)) (keys_differ plain.no_handlers) (are_handlers r plain.no_handlers)
    (written_target path (left_empty (wrong_if_written path) [] (sym (rolled.answer_rolled e path None) ∙ none))) refl
answer_known e m r path (Some fs) none all shape =
    let found : wrong_if_written path ++ handlers_refused e (bare fs) ≡ [] = sym (rolled.answer_rolled e path (Some (bare fs))) ∙ none in
    let parts : (option_all path_formed path ≡ true) × (each (map handler_formed (bare fs)) ≡ true) = and_parts (option_all path_formed path) (each (map handler_formed (bare fs))) (sym (rolled.answer_forms path (Some (bare fs))) ∙ shape) in
    ap (view_well r) (means.answer_made m path (Some (bare fs)))
    ∙ three_from (is_target (option_map lowered_path path)) (keys_differ (handlers_of (map (lowered_handler m) (bare fs)))) (are_handlers r (handlers_of (map (lowered_handler m) (bare fs))))
    (written_target path (left_empty (wrong_if_written path) (handlers_refused e (bare fs)) found))
    (all_handlers e m r fs (right_empty (wrong_if_written path) (handlers_refused e (bare fs)) found) (sym (ap (all_in m.names) (mentions.answer_made path (Some (bare fs)))) ∙ all) parts.1)

abbrev input_by : (e : Surroundings) (m : Numbering) (r : Reach) → Name → Option Path → Option (Known Reply (ReplyWell e m r)) → Input
input_by e m r operation request reply = roll-Input (map-Input (Known Otherwise (OtherwiseWell e m r)) (Known Process (ProcessWell e m r)) (Known Answer (AnswerWell e m r)) (Known Block (BlockWell e m r)) (Known Branch (BranchWell e m r)) (Known Handler (HandlerWell e m r)) (Known If (IfWell e m r)) (Known Input (InputWell e m r)) (Known Reply (ReplyWell e m r)) Otherwise Process Answer Block Branch Handler If Input Reply (λ x. x.0) (λ x. x.0) (λ x. x.0) (λ x. x.0) (λ x. x.0) (λ x. x.0) (λ x. x.0) (λ x. x.0) (λ x. x.0) (record { operation = operation; request = request; reply = reply }))

six_from : (a b y p c d : Bool) → a ≡ true → b ≡ true → (y && p) ≡ true → c ≡ true → d ≡ true → (a && b && y && p && c && d) ≡ true
six_from true true y p c d ha hb rest hc hd = and_from (y && p && c) d (and_from (y && p) c rest hc) hd
six_from true false y p c d ha hb rest hc hd = absurd (false≢true hb)
six_from false b y p c d ha hb rest hc hd = absurd (false≢true ha)

input_known : (e : Surroundings) (m : Numbering) (r : Reach) → Meets e m r → (operation : Name) (request : Option Path) (reply : Option (Known Reply (ReplyWell e m r))) → InputWell e m r (input_by e m r operation request reply)
input_known e m r w operation request None h none all shape after rest well others =
    let first : List Refusal = used e.inputs operation false in
    let found : first ++ wrong_if_written request ++ [] ≡ [] = sym (rolled.input_rolled e operation request None h) ∙ none in
    let front : first ++ wrong_if_written request ≡ [] = left_empty (first ++ wrong_if_written request) [] found in
    ap (λ (v : InputView). are_branches r h (branch_of v.op v.target v.reply after rest)) (means.input_made m operation request None)
    ∙ all_four (has_operation r.inputs (place_in m.inputs operation.text) false) (is_target (option_map lowered_path request)) (is_behaviour r h after) (are_branches r h rest)
    (w.inputs operation false (left_empty first (wrong_if_written request) front)) (written_target request (right_empty first (wrong_if_written request) front)) well others
input_known e m r w operation request (Some (y, k)) h none all shape after rest well others =
    let first : List Refusal = used e.inputs operation true in
    let found : first ++ wrong_if_written request ++ reply_refused e y h ≡ [] = sym (rolled.input_rolled e operation request (Some y) h) ∙ none in
    let front : first ++ wrong_if_written request ≡ [] = left_empty (first ++ wrong_if_written request) (reply_refused e y h) found in
    let parts : (option_all path_formed request ≡ true) × (reply_formed y ≡ true) = and_parts (option_all path_formed request) (reply_formed y) (sym (shapes.input_part_forms operation request (Some y)) ∙ shape) in
    ap (λ (v : InputView). are_branches r h (branch_of v.op v.target v.reply after rest)) (means.input_made m operation request (Some y))
    ∙ six_from (has_operation r.inputs (place_in m.inputs operation.text) true) (is_target (option_map lowered_path request)) (is_target (lowered_reply m y).path) (is_behaviour r h (lowered_reply m y).body) (is_behaviour r h after) (are_branches r h rest)
    (w.inputs operation true (left_empty first (wrong_if_written request) front)) (written_target request (right_empty first (wrong_if_written request) front))
    (k h (right_empty (first ++ wrong_if_written request) (reply_refused e y h) found) (sym (ap (all_in m.names) (mentions.input_made operation request (Some y))) ∙ all) parts.1) well others

reply_known : (e : Surroundings) (m : Numbering) (r : Reach) (path : Option Path) (body : Known Block (BlockWell e m r)) → ReplyWell e m r (roll-Reply (record { path = path; body = body.0 }))
reply_known e m r path (body, k) h none all shape =
    let found : wrong_if_written path ++ block_refused e body h ≡ [] = sym (rolled.reply_rolled e path body h) ∙ none in
    let parts : (option_all path_formed path ≡ true) × (block_formed body ≡ true) = and_parts (option_all path_formed path) (block_formed body) (sym (shapes.reply_forms path body) ∙ shape) in
    ap (λ (v : ReplyView). is_target v.path && is_behaviour r h v.body) (rolled.reply_lowered m path body)
    ∙ and_from (is_target (option_map lowered_path path)) (is_behaviour r h (lowered_block m body))
    (written_target path (left_empty (wrong_if_written path) (block_refused e body h) found))
    (k h (right_empty (wrong_if_written path) (block_refused e body h) found) (sym (ap (all_in m.names) (rolled.reply_names path body)) ∙ all) parts.1)

branch_known : (e : Surroundings) (m : Numbering) (r : Reach) (at : ℕ) (input : Known Input (InputWell e m r)) (after : Known Block (BlockWell e m r)) → BranchWell e m r (roll-Branch (record { at = at; input = input.0; after = after.0 }))
branch_known e m r at (input, j) (after, k) h none all shape rest others =
    let found : input_refused e input h ++ block_refused e after h ≡ [] = sym (rolled.branch_rolled e at input after h) ∙ none in
    let named : all_in m.names (input_texts input ++ block_texts after) ≡ true = sym (ap (all_in m.names) (rolled.branch_names at input after)) ∙ all in
    let parts : (input_formed input ≡ true) × (block_formed after ≡ true) = and_parts (input_formed input) (block_formed after) (sym (shapes.branch_forms at input after) ∙ shape) in
    ap (λ (v : BranchView). are_branches r h (branch_of v.op v.target v.reply v.after rest)) (rolled.branch_lowered m at input after)
    ∙ j h (left_empty (input_refused e input h) (block_refused e after h) found) (front_in m.names (input_texts input) (block_texts after) named) parts.0 (lowered_block m after) rest
    (k h (right_empty (input_refused e input h) (block_refused e after h) found) (back_in m.names (input_texts input) (block_texts after) named) parts.1) others

key_well : (e : Surroundings) (m : Numbering) (r : Reach) → Meets e m r → (under : HandlerKey) → all_in m.names (key_texts under) ≡ true → is_key r.names (key_of m.names under) ≡ true
key_well e m r w (key.This at) all = refl
key_well e m r w (key.Named n) all = named_below e m r w n.text (and_parts (is_in n.text m.names) true all).0

handler_known : (e : Surroundings) (m : Numbering) (r : Reach) → Meets e m r → (under : HandlerKey) (body : Known Process (ProcessWell e m r)) → HandlerWell e m r (roll-Handler (record { key = under; body = body.0 }))
handler_known e m r w under (p, k) none all shape =
    let named : all_in m.names (key_texts under ++ process_texts p) ≡ true = sym (ap (all_in m.names) (rolled.handler_names under p)) ∙ all in
    ap (λ (v : HandlerView). is_key r.names v.key && is_behaviour r true v.body) (rolled.handler_lowered m under p)
    ∙ and_from (is_key r.names (key_of m.names under)) (is_behaviour r true (lowered_process m p))
    (key_well e m r w under (front_in m.names (key_texts under) (process_texts p) named))
    (k true (sym (rolled.handler_rolled e under p) ∙ none) (back_in m.names (key_texts under) (process_texts p) named) (sym (shapes.handler_forms under p) ∙ shape))

-- ---- by induction

-- the behaviour that a block means
pub block_well : (e : Surroundings) (m : Numbering) (r : Reach) → Meets e m r → (b : Block) (h : Bool) → block_refused e b h ≡ [] → all_in m.names (block_texts b) ≡ true → block_formed b ≡ true → is_behaviour r h (lowered_block m b) ≡ true
block_well e m r w = ind-Block (OtherwiseWell e m r) (ProcessWell e m r) (AnswerWell e m r) (BlockWell e m r) (BranchWell e m r) (HandlerWell e m r) (IfWell e m r) (InputWell e m r) (ReplyWell e m r)
    (λ x y is. subst (λ z. OtherwiseWell e m r (roll-Otherwise z)) is (otherwise_known e m r y))
    (λ x y is. subst (λ z. ProcessWell e m r (roll-Process z)) is (process_known e m r w y))
    (λ x y is. subst (λ z. AnswerWell e m r (roll-Answer z)) is (answer_known e m r y.path y.handlers))
    (λ x y is. subst (λ z. BlockWell e m r (roll-Block z)) is (block_known e m r y.at y.body))
    (λ x y is. subst (λ z. BranchWell e m r (roll-Branch z)) is (branch_known e m r y.at y.input y.after))
    (λ x y is. subst (λ z. HandlerWell e m r (roll-Handler z)) is (handler_known e m r w y.key y.body))
    (λ x y is. subst (λ z. IfWell e m r (roll-If z)) is (if_known e m r y.at y.test y.body y.otherwise))
    (λ x y is. subst (λ z. InputWell e m r (roll-Input z)) is (input_known e m r w y.operation y.request y.reply))
    (λ x y is. subst (λ z. ReplyWell e m r (roll-Reply z)) is (reply_known e m r y.path y.body))
