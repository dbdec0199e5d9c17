-- What is refused of a process at each form.
use Rattle.std.proofs.Common.{◌≡◌, ℕ, OnOk, Result, subst, Bool, true, List, [], ◌∷◌, ◌++◌, map, Option, Some, None, refl, ap, sym, ◌∙◌, flat_map}
use Rattle.std.specs.Prelude.{is_some, not, option_map}
use Rattle.std.proofs.lemmas.List.Folds.{flat_map-map}
use Rattle.jolie_ast.specs.declared.name.Name.{Name}
use Rattle.jolie_ast.specs.declared.expression.Expr.{Expr}
use Rattle.jolie_ast.specs.declared.expression.Path.{Path}
use Rattle.jolie_ast.specs.declared.process.Assignment.{Assignment}
use Rattle.jolie_ast.specs.declared.process.ForStep.{ForStep}
use Rattle.jolie_ast.specs.declared.process.Otherwise.TheOpen.{Otherwise-F, Process-F}
use Rattle.jolie_ast.specs.declared.process.Otherwise.TheFolds.{map-Process}
use Rattle.jolie_ast.specs.declared.process.Process.{Process, roll-Process}
use Rattle.jolie_ast.specs.declared.process.Otherwise.{Otherwise}
use Rattle.jolie_ast.specs.declared.process.Process.TheVariants as process
use Rattle.jolie_ast.specs.declared.process.Block.{Block, out-Block, roll-Block, roll-out-Block}
use Rattle.jolie_ast.specs.declared.process.If.{If, out-If, roll-out-If}
use Rattle.jolie_ast.specs.declared.process.Otherwise.TheVariants as otherwise
use Rattle.jolie_ast.specs.declared.process.Input.{Input, out-Input, roll-Input, roll-out-Input}
use Rattle.jolie_ast.specs.declared.process.Reply.{Reply, out-Reply, roll-out-Reply}
use Rattle.jolie_ast.specs.declared.process.Branch.{Branch, out-Branch, roll-out-Branch}
use Rattle.jolie_ast.specs.declared.process.Answer.{Answer, out-Answer, roll-Answer, roll-out-Answer}
use Rattle.jolie_ast.specs.declared.process.Handler.{Handler, out-Handler, roll-out-Handler}
use Rattle.check_base.specs.declared.refusal.CheckName.TheVariants.{DuplicateName, WrongKind, UnknownOperation, CompOutsideHandler, ChOutsideHandler}
use Rattle.check_base.specs.declared.refusal.Refusal.{Refusal}
use Rattle.check_base.specs.Least.{joined, refused, refused_if}
use Rattle.check_base.specs.Repeated.{repeated}
use Rattle.check_base.specs.Files.{Operation, operation_named}
use Rattle.check_processes.specs.OperationTables.{answers_named, does_answer}
use Rattle.check_processes.specs.Surroundings.{Surroundings}
use Rattle.check_processes.specs.ProcessRules.{Found, InputFound, HandlerFound, agree, used, sends, wrong_if_written, lacks_variable, handlers, process_level, process_refused, block_refused, parts_refused}
use Rattle.check_processes.specs.ProcessParts.{used_as, conditional_refused, otherwise_refused, processes_refused, reply_refused, reply_if_written, input_refused, branch_operation, branch_refused, branches_refused, choice_refused, handler_name, handler_refused, bodies_refused, handlers_refused, answer_handlers_refused, answer_refused, output_refused}
use Rattle.jolie_ast.proofs.Folds.{process_rolls, block_rolls, conditional_rolls, otherwise_rolls, input_rolls, reply_rolls, branch_rolls, answer_rolls, handler_rolls}
use Rattle.jolie_ast.specs.Folds.{fold_input, fold_reply, fold_branch, fold_answer, fold_handler}

-- ---- operations

-- an operation that is used, by whether it is there
pub used_by : (o : Option Operation) (n : Name) (answers : Bool) → (elim o as (λ _. List Refusal) [ None ↦ refused UnknownOperation (n.at ∷ []) | Some o ↦ refused_if (not (agree (is_some o.response) answers)) WrongKind n.at ]) ≡ used_as (option_map does_answer o) n answers
used_by None n answers = refl
used_by (Some o) n answers = refl

-- an operation that is used, by whether it answers
pub used_is : (operations : List Operation) (n : Name) (answers : Bool) → used operations n answers ≡ used_as (answers_named operations n.text) n answers
used_is operations n answers = used_by (operation_named operations n.text) n answers

-- ---- the parts of processes

-- what is found of a reply part
abbrev pub reply_found : Surroundings → Reply → Found
reply_found e = fold_reply (parts_refused e)

-- an input with what is found of it
abbrev pub input_found : Surroundings → Input → InputFound
input_found e = fold_input (parts_refused e)

-- a branch with what is found of it
abbrev pub branch_found : Surroundings → Branch → InputFound
branch_found e = fold_branch (parts_refused e)

-- a handler with what is found in it
abbrev pub handler_found : Surroundings → Handler → HandlerFound
handler_found e = fold_handler (parts_refused e)

-- what is found of what an output awaits
abbrev pub answer_found : Surroundings → Answer → Found
answer_found e = fold_answer (parts_refused e)

pub reply_is : (e : Surroundings) (r : Reply) (h : Bool) → reply_found e r h ≡ reply_refused e r h
unfolding process_refused block_refused conditional_refused otherwise_refused
reply_is e r h =
    ap (λ x. reply_found e x h) (sym (roll-out-Reply r))
    ∙ ap (λ (f : Found). f h) (reply_rolls (parts_refused e) (out-Reply r))

pub input_operation : (e : Surroundings) (i : Input) → (input_found e i).operation ≡ (out-Input i).operation
unfolding process_refused block_refused conditional_refused otherwise_refused
input_operation e i =
    ap (λ x. (input_found e x).operation) (sym (roll-out-Input i))
    ∙ ap (λ (x : InputFound). x.operation) (input_rolls (parts_refused e) (out-Input i))

pub input_made : (e : Surroundings) (operation : Name) (request : Option Path) (reply : Option Reply) (h : Bool) → (input_found e (roll-Input (record { operation = operation; request = request; reply = reply }))).found h ≡ used e.inputs operation (is_some reply) ++ wrong_if_written request ++ reply_if_written e reply h
unfolding process_refused block_refused conditional_refused otherwise_refused
input_made e operation request None h =
    ap (λ (x : InputFound). x.found h) (input_rolls (parts_refused e) (record { operation = operation; request = request; reply = None }))
input_made e operation request (Some r) h =
    ap (λ (x : InputFound). x.found h) (input_rolls (parts_refused e) (record { operation = operation; request = request; reply = Some r }))
    ∙ ap (λ rs. used e.inputs operation true ++ wrong_if_written request ++ rs) (reply_is e r h)

pub input_is : (e : Surroundings) (i : Input) (h : Bool) → (input_found e i).found h ≡ input_refused e i h
input_is e i h =
    ap (λ x. (input_found e x).found h) (sym (roll-out-Input i))
    ∙ input_made e (out-Input i).operation (out-Input i).request (out-Input i).reply h

pub branch_operation_is : (e : Surroundings) (b : Branch) → (branch_found e b).operation ≡ branch_operation b
unfolding process_refused block_refused conditional_refused otherwise_refused
branch_operation_is e b =
    ap (λ x. (branch_found e x).operation) (sym (roll-out-Branch b))
    ∙ ap (λ (x : InputFound). x.operation) (branch_rolls (parts_refused e) (out-Branch b))
    ∙ input_operation e (out-Branch b).input

pub branch_is : (e : Surroundings) (b : Branch) (h : Bool) → (branch_found e b).found h ≡ branch_refused e b h
unfolding process_refused block_refused conditional_refused otherwise_refused
branch_is e b h =
    ap (λ x. (branch_found e x).found h) (sym (roll-out-Branch b))
    ∙ ap (λ (x : InputFound). x.found h) (branch_rolls (parts_refused e) (out-Branch b))
    ∙ ap (λ rs. rs ++ block_refused e (out-Branch b).after h) (input_is e (out-Branch b).input h)

-- the operations of branches that are found
pub found_operations : (e : Surroundings) (bs : List Branch) → map (λ (b : InputFound). b.operation) (map (branch_found e) bs) ≡ map branch_operation bs
found_operations e [] = refl
found_operations e (b ∷ bs) = ap (λ n. n ∷ map (λ (b : InputFound). b.operation) (map (branch_found e) bs)) (branch_operation_is e b) ∙ ap (λ ns. branch_operation b ∷ ns) (found_operations e bs)

-- what is refused of branches that are found
pub found_branches : (e : Surroundings) (bs : List Branch) (h : Bool) → flat_map (λ (b : InputFound). b.found h) (map (branch_found e) bs) ≡ branches_refused e bs h
found_branches e [] h = refl
found_branches e (b ∷ bs) h = ap (λ rs. rs ++ flat_map (λ (b : InputFound). b.found h) (map (branch_found e) bs)) (branch_is e b h) ∙ ap (λ rs. branch_refused e b h ++ rs) (found_branches e bs h)

pub handler_is : (e : Surroundings) (f : Handler) → handler_found e f ≡ record { name = handler_name f; found = process_refused e (out-Handler f).body }
unfolding process_refused block_refused conditional_refused otherwise_refused
handler_is e f =
    ap (handler_found e) (sym (roll-out-Handler f))
    ∙ handler_rolls (parts_refused e) (out-Handler f)

-- the names of handlers that are found
pub found_names : (e : Surroundings) (fs : List Handler) → map (λ (f : HandlerFound). f.name) (map (handler_found e) fs) ≡ map handler_name fs
found_names e [] = refl
found_names e (f ∷ fs) = ap (λ (x : HandlerFound). x.name ∷ map (λ (f : HandlerFound). f.name) (map (handler_found e) fs)) (handler_is e f) ∙ ap (λ ns. handler_name f ∷ ns) (found_names e fs)

-- what is refused in handlers that are found
pub found_bodies : (e : Surroundings) (fs : List Handler) → flat_map (λ (f : HandlerFound). f.found true) (map (handler_found e) fs) ≡ bodies_refused e fs
found_bodies e [] = refl
found_bodies e (f ∷ fs) = ap (λ (x : HandlerFound). x.found true ++ flat_map (λ (f : HandlerFound). f.found true) (map (handler_found e) fs)) (handler_is e f) ∙ ap (λ rs. handler_refused e f ++ rs) (found_bodies e fs)

pub handlers_are : (e : Surroundings) (fs : List Handler) → handlers (map (handler_found e) fs) ≡ handlers_refused e fs
handlers_are e fs =
    ap (λ ns. refused DuplicateName (repeated ns) ++ flat_map (λ (f : HandlerFound). f.found true) (map (handler_found e) fs)) (found_names e fs)
    ∙ ap (λ rs. refused DuplicateName (repeated (map handler_name fs)) ++ rs) (found_bodies e fs)

pub answer_made : (e : Surroundings) (path : Option Path) (fs : Option (List Handler)) (h : Bool) → answer_found e (roll-Answer (record { path = path; handlers = fs })) h ≡ wrong_if_written path ++ answer_handlers_refused e fs
unfolding process_refused block_refused conditional_refused otherwise_refused
answer_made e path None h =
    ap (λ (f : Found). f h) (answer_rolls (parts_refused e) (record { path = path; handlers = None }))
answer_made e path (Some fs) h =
    ap (λ (f : Found). f h) (answer_rolls (parts_refused e) (record { path = path; handlers = Some fs }))
    ∙ ap (λ rs. wrong_if_written path ++ rs) (handlers_are e fs)

pub answer_is : (e : Surroundings) (a : Answer) (h : Bool) → answer_found e a h ≡ answer_refused e a
answer_is e a h =
    ap (λ x. answer_found e x h) (sym (roll-out-Answer a))
    ∙ answer_made e (out-Answer a).path (out-Answer a).handlers h

-- what is refused of a block by what stands in it
abbrev pub body_refused : Surroundings → Option Process → Found
body_refused e None h = []
body_refused e (Some p) h = process_refused e p h

pub block_made : (e : Surroundings) (at : ℕ) (body : Option Process) (h : Bool) → block_refused e (roll-Block (record { at = at; body = body })) h ≡ body_refused e body h
unfolding process_refused block_refused conditional_refused otherwise_refused
block_made e at None h = ap (λ (f : Found). f h) (block_rolls (parts_refused e) (record { at = at; body = None }))
block_made e at (Some p) h = ap (λ (f : Found). f h) (block_rolls (parts_refused e) (record { at = at; body = Some p }))

pub block_is : (e : Surroundings) (b : Block) (h : Bool) → block_refused e b h ≡ body_refused e (out-Block b).body h
block_is e b h = ap (λ x. block_refused e x h) (sym (roll-out-Block b)) ∙ block_made e (out-Block b).at (out-Block b).body h

pub conditional_is : (e : Surroundings) (i : If) (h : Bool) → conditional_refused e i h ≡ block_refused e (out-If i).body h ++ otherwise_refused e (out-If i).otherwise h
unfolding process_refused block_refused conditional_refused otherwise_refused
conditional_is e i h =
    ap (λ x. conditional_refused e x h) (sym (roll-out-If i))
    ∙ ap (λ (f : Found). f h) (conditional_rolls (parts_refused e) (out-If i))

-- ---- what an `if` does where its test fails

pub no_else_refused : (e : Surroundings) (h : Bool) → otherwise_refused e otherwise.Nothing h ≡ []
unfolding process_refused block_refused conditional_refused otherwise_refused
no_else_refused e h =
    ap (λ o. otherwise_refused e o h) (sym otherwise.rolls-Nothing)
    ∙ ap (λ (f : Found). f h) (otherwise_rolls (parts_refused e) Otherwise-F.«Otherwise::Nothing»)

pub else_if_refused : (e : Surroundings) (i : If) (h : Bool) → otherwise_refused e (otherwise.ElseIf i) h ≡ conditional_refused e i h
unfolding process_refused block_refused conditional_refused otherwise_refused
else_if_refused e i h =
    ap (λ o. otherwise_refused e o h) (sym (otherwise.rolls-ElseIf i))
    ∙ ap (λ (f : Found). f h) (otherwise_rolls (parts_refused e) (Otherwise-F.ElseIf i))

pub else_refused : (e : Surroundings) (b : Block) (h : Bool) → otherwise_refused e (otherwise.Else b) h ≡ block_refused e b h
unfolding process_refused block_refused conditional_refused otherwise_refused
else_refused e b h =
    ap (λ o. otherwise_refused e o h) (sym (otherwise.rolls-Else b))
    ∙ ap (λ (f : Found). f h) (otherwise_rolls (parts_refused e) (Otherwise-F.Else b))

-- ---- processes

-- what is refused of a process, by the form that it is made of
process_made : (e : Surroundings) (h : Bool) (x : Process-F Otherwise Process Answer Block Branch Handler If Input Reply) {p : Process} → roll-Process x ≡ p
    → process_refused e p h ≡ process_level e (map-Process Otherwise Process Answer Block Branch Handler If Input Reply Found Found Found Found InputFound HandlerFound Found InputFound Found (otherwise_refused e) (process_refused e) (answer_found e) (block_refused e) (branch_found e) (handler_found e) (conditional_refused e) (input_found e) (reply_found e) x) h
unfolding process_refused block_refused conditional_refused otherwise_refused
process_made e h x made = ap (λ p. process_refused e p h) (sym made) ∙ ap (λ (f : Found). f h) (process_rolls (parts_refused e) x)

pub nothing_refused : (e : Surroundings) (at : ℕ) (h : Bool) → process_refused e (process.Nothing at) h ≡ []
nothing_refused e at h = process_made e h (Process-F.«Process::Nothing» at) (process.rolls-Nothing at)

pub assign_refused : (e : Surroundings) (path : Path) (assignment : Assignment) (h : Bool) → process_refused e (process.Assign path assignment) h ≡ []
assign_refused e path assignment h = process_made e h (Process-F.Assign path assignment) (process.rolls-Assign path assignment)

pub undef_refused : (e : Surroundings) (at : ℕ) (path : Path) (h : Bool) → process_refused e (process.Undef at path) h ≡ []
undef_refused e at path h = process_made e h (Process-F.Undef at path) (process.rolls-Undef at path)

pub correlate_refused : (e : Surroundings) (at : ℕ) (variable : Name) (value : Expr) (h : Bool) → process_refused e (process.Correlate at variable value) h ≡ lacks_variable e at variable
correlate_refused e at variable value h = process_made e h (Process-F.Correlate at variable value) (process.rolls-Correlate at variable value)

pub if_refused : (e : Surroundings) (i : If) (h : Bool) → process_refused e (process.If i) h ≡ conditional_refused e i h
if_refused e i h = process_made e h (Process-F.If i) (process.rolls-If i)

pub while_refused : (e : Surroundings) (at : ℕ) (test : Expr) (body : Block) (h : Bool) → process_refused e (process.While at test body) h ≡ block_refused e body h
while_refused e at test body h = process_made e h (Process-F.While at test body) (process.rolls-While at test body)

pub for_refused : (e : Surroundings) (at : ℕ) (path : Path) (first : Expr) (test : Expr) (stepped : Path) (step : ForStep) (body : Block) (h : Bool) → process_refused e (process.For at path first test stepped step body) h ≡ block_refused e body h
for_refused e at path first test stepped step body h = process_made e h (Process-F.For at path first test stepped step body) (process.rolls-For at path first test stepped step body)

pub input_alone_refused : (e : Surroundings) (i : Input) (h : Bool) → process_refused e (process.Input i) h ≡ input_refused e i h
input_alone_refused e i h =
    process_made e h (Process-F.Input i) (process.rolls-Input i)
    ∙ input_is e i h

pub choice_is_refused : (e : Surroundings) (at : ℕ) (branches : List Branch) (h : Bool) → process_refused e (process.Choice at branches) h ≡ choice_refused e branches h
choice_is_refused e at branches h =
    process_made e h (Process-F.Choice at branches) (process.rolls-Choice at branches)
    ∙ ap (λ ns. refused DuplicateName (repeated ns) ++ flat_map (λ (b : InputFound). b.found h) (map (branch_found e) branches)) (found_operations e branches)
    ∙ ap (λ rs. refused DuplicateName (repeated (map branch_operation branches)) ++ rs) (found_branches e branches h)

pub output_is_refused : (e : Surroundings) (operation port : Name) (value : Option Expr) (answer : Option Answer) (h : Bool) → process_refused e (process.Output operation port value answer) h ≡ output_refused e operation port answer
output_is_refused e operation port value None h = process_made e h (Process-F.Output operation port value None) (process.rolls-Output operation port value None)
output_is_refused e operation port value (Some answer) h =
    process_made e h (Process-F.Output operation port value (Some answer)) (process.rolls-Output operation port value (Some answer))
    ∙ ap (λ rs. sends e operation port true ++ rs) (answer_is e answer h)

pub scope_refused : (e : Surroundings) (at : ℕ) (name : Name) (body : Block) (h : Bool) → process_refused e (process.Scope at name body) h ≡ block_refused e body h
scope_refused e at name body h = process_made e h (Process-F.Scope at name body) (process.rolls-Scope at name body)

pub install_refused : (e : Surroundings) (at : ℕ) (fs : List Handler) (h : Bool) → process_refused e (process.Install at fs) h ≡ handlers_refused e fs
install_refused e at fs h =
    process_made e h (Process-F.Install at fs) (process.rolls-Install at fs)
    ∙ handlers_are e fs

pub throw_refused : (e : Surroundings) (at : ℕ) (fault : Name) (value : Option Expr) (h : Bool) → process_refused e (process.Throw at fault value) h ≡ []
throw_refused e at fault value h = process_made e h (Process-F.Throw at fault value) (process.rolls-Throw at fault value)

pub compensate_refused : (e : Surroundings) (at : ℕ) (scope : Name) (h : Bool) → process_refused e (process.Compensate at scope) h ≡ refused_if (not h) CompOutsideHandler at
compensate_refused e at scope h = process_made e h (Process-F.Compensate at scope) (process.rolls-Compensate at scope)

pub inner_handler_refused : (e : Surroundings) (at : ℕ) (h : Bool) → process_refused e (process.InnerHandler at) h ≡ refused_if (not h) ChOutsideHandler at
inner_handler_refused e at h = process_made e h (Process-F.InnerHandler at) (process.rolls-InnerHandler at)

pub block_alone_refused : (e : Surroundings) (b : Block) (h : Bool) → process_refused e (process.Block b) h ≡ block_refused e b h
block_alone_refused e b h = process_made e h (Process-F.Block b) (process.rolls-Block b)

pub sequence_refused : (e : Surroundings) (statements : List Process) (h : Bool) → process_refused e (process.Sequence statements) h ≡ processes_refused e statements h
sequence_refused e statements h =
    process_made e h (Process-F.Sequence statements) (process.rolls-Sequence statements)
    ∙ flat_map-map (λ (f : Found). f h) (process_refused e) statements

pub parallel_refused : (e : Surroundings) (members : List Process) (h : Bool) → process_refused e (process.Parallel members) h ≡ processes_refused e members h
parallel_refused e members h =
    process_made e h (Process-F.Parallel members) (process.rolls-Parallel members)
    ∙ flat_map-map (λ (f : Found). f h) (process_refused e) members

-- what is refused of a thing is what is refused of its parts
pub refused_as : {T E : Type 0} (r : Result T E) (o p : Option Refusal) (rs ss : List Refusal) → ss ≡ rs → OnOk r (p ≡ joined o rs) → OnOk r (p ≡ joined o ss)
refused_as r o p rs ss same refused = subst (λ xs. OnOk r (p ≡ joined o xs)) (sym same) refused
