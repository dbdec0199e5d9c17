-- What a process mentions at each form.
use Rattle.std.proofs.Common.{◌≡◌, ℕ, List, [], ◌∷◌, ◌++◌, Option, Some, None, refl, ap, sym, ◌∙◌, map, flat_map, append-nil}
use Rattle.std.specs.Prelude.{is_some, option_map}
use Rattle.jolie_ast.specs.declared.name.Name.{Name}
use Rattle.jolie_ast.specs.declared.expression.Expr.{Expr}
use Rattle.jolie_ast.specs.declared.expression.Path.{Path}
use Rattle.jolie_ast.specs.declared.process.Assignment.{Assignment}
use Rattle.jolie_ast.specs.declared.process.ForStep.{ForStep}
use Rattle.jolie_ast.specs.declared.process.Otherwise.TheOpen.{Otherwise-F, Process-F}
use Rattle.jolie_ast.specs.declared.process.Otherwise.TheFolds.{map-Otherwise, map-Process}
use Rattle.jolie_ast.specs.declared.process.Process.{Process, roll-Process}
use Rattle.jolie_ast.specs.declared.process.Process.TheVariants as process
use Rattle.jolie_ast.specs.declared.process.Block.{Block, out-Block, roll-Block, roll-out-Block}
use Rattle.jolie_ast.specs.declared.process.If.{If, out-If, roll-out-If}
use Rattle.jolie_ast.specs.declared.process.Otherwise.{Otherwise, roll-Otherwise}
use Rattle.jolie_ast.specs.declared.process.Otherwise.TheVariants as otherwise
use Rattle.jolie_ast.specs.declared.process.Input.{Input, out-Input, roll-Input, roll-out-Input}
use Rattle.jolie_ast.specs.declared.process.Reply.{Reply, out-Reply, roll-out-Reply}
use Rattle.jolie_ast.specs.declared.process.Branch.{Branch, out-Branch, roll-out-Branch}
use Rattle.jolie_ast.specs.declared.process.Answer.{Answer, out-Answer, roll-Answer, roll-out-Answer}
use Rattle.jolie_ast.specs.declared.process.Handler.{Handler, out-Handler, roll-out-Handler}
use Rattle.explain_notes.specs.declared.role.Role.TheVariants as role
use Rattle.explain_notes.specs.Mentions.{Seen, mention, around_scope, around_while, in_role, kept_role, looped_role, scope_role}
use Rattle.explain_notes.specs.Expressions.{expr_mentions, path_walked}
use Rattle.explain_notes.specs.Statements.{assigned_mentions, begun_mentions, handler_mentions_of, if_written, received_mentions, request_mentions, stepped_mentions}
use Rattle.explain_notes.specs.Processes.{process_level, block_mentions, called_back, process_seen}
use Rattle.explain_notes.specs.Parts.{after_input, asked_by, asked_mentions, process_mentions, if_mentions, otherwise_mentions, input_mentions, reply_mentions, branch_mentions, answer_mentions, handler_mentions}
use Rattle.explain_notes.proofs.Lists.{mapped_joined}
use Rattle.jolie_ast.proofs.Folds.{process_rolls, block_rolls, conditional_rolls, otherwise_rolls, input_rolls, reply_rolls, branch_rolls, answer_rolls, handler_rolls}
use Rattle.jolie_ast.specs.Folds.{else_or}

-- ---- processes

-- what a process mentions, by the form that it is made of
process_made : (x : Process-F Otherwise Process Answer Block Branch Handler If Input Reply) {p : Process} → roll-Process x ≡ p
    → process_mentions p ≡ process_level (map-Process Otherwise Process Answer Block Branch Handler If Input Reply Seen Seen Seen Seen Seen Seen Seen (Seen → Seen) (Name → Seen → Seen) otherwise_mentions process_mentions answer_mentions block_mentions branch_mentions handler_mentions if_mentions input_mentions reply_mentions x)
unfolding otherwise_mentions process_mentions answer_mentions block_mentions branch_mentions handler_mentions if_mentions input_mentions reply_mentions
process_made x made = ap process_mentions (sym made) ∙ process_rolls process_seen x

pub nothing_is : (at : ℕ) → process_mentions (process.Nothing at) ≡ []
nothing_is at = process_made (Process-F.«Process::Nothing» at) (process.rolls-Nothing at)

pub assign_is : (path : Path) (assignment : Assignment) → process_mentions (process.Assign path assignment) ≡ assigned_mentions path assignment
assign_is path assignment = process_made (Process-F.Assign path assignment) (process.rolls-Assign path assignment)

pub undef_is : (at : ℕ) (path : Path) → process_mentions (process.Undef at path) ≡ (path_walked path).indices
undef_is at path = process_made (Process-F.Undef at path) (process.rolls-Undef at path)

pub correlate_is : (at : ℕ) (variable : Name) (value : Expr) → process_mentions (process.Correlate at variable value) ≡ expr_mentions value
correlate_is at variable value = process_made (Process-F.Correlate at variable value) (process.rolls-Correlate at variable value)

pub conditional_is : (i : If) → process_mentions (process.If i) ≡ if_mentions i
conditional_is i = process_made (Process-F.If i) (process.rolls-If i)

pub while_is : (at : ℕ) (test : Expr) (body : Block) → process_mentions (process.While at test body) ≡ around_while (expr_mentions test ++ block_mentions body)
while_is at test body = process_made (Process-F.While at test body) (process.rolls-While at test body)

pub for_is : (at : ℕ) (path : Path) (first : Expr) (test : Expr) (stepped : Path) (step : ForStep) (body : Block) → process_mentions (process.For at path first test stepped step body) ≡ begun_mentions path first test ++ (stepped_mentions stepped step ++ map (in_role looped_role) (block_mentions body))
for_is at path first test stepped step body = process_made (Process-F.For at path first test stepped step body) (process.rolls-For at path first test stepped step body)

pub input_form_is : (i : Input) → process_mentions (process.Input i) ≡ input_mentions i []
input_form_is i = process_made (Process-F.Input i) (process.rolls-Input i)

pub choice_is : (at : ℕ) (branches : List Branch) → process_mentions (process.Choice at branches) ≡ flat_map branch_mentions branches
choice_is at branches = process_made (Process-F.Choice at branches) (process.rolls-Choice at branches) ∙ mapped_joined branch_mentions branches

pub output_is : (operation : Name) (port : Name) (value : Option Expr) (answer : Option Answer) → process_mentions (process.Output operation port value answer) ≡ mention role.SentTo port ∷ (if_written expr_mentions value ++ called_back port (option_map answer_mentions answer))
output_is operation port value None = process_made (Process-F.Output operation port value None) (process.rolls-Output operation port value None)
output_is operation port value (Some it) = process_made (Process-F.Output operation port value (Some it)) (process.rolls-Output operation port value (Some it))

pub scope_is : (at : ℕ) (name : Name) (body : Block) → process_mentions (process.Scope at name body) ≡ mention (scope_role (block_mentions body)) name ∷ around_scope (block_mentions body)
scope_is at name body = process_made (Process-F.Scope at name body) (process.rolls-Scope at name body)

pub install_is : (at : ℕ) (handlers : List Handler) → process_mentions (process.Install at handlers) ≡ flat_map handler_mentions handlers
install_is at handlers = process_made (Process-F.Install at handlers) (process.rolls-Install at handlers) ∙ mapped_joined handler_mentions handlers

pub throw_is : (at : ℕ) (fault : Name) (value : Option Expr) → process_mentions (process.Throw at fault value) ≡ mention role.Thrown fault ∷ if_written expr_mentions value
throw_is at fault value = process_made (Process-F.Throw at fault value) (process.rolls-Throw at fault value)

pub compensate_is : (at : ℕ) (scope : Name) → process_mentions (process.Compensate at scope) ≡ mention role.Compensated scope ∷ []
compensate_is at scope = process_made (Process-F.Compensate at scope) (process.rolls-Compensate at scope)

pub inner_handler_is : (at : ℕ) → process_mentions (process.InnerHandler at) ≡ []
inner_handler_is at = process_made (Process-F.InnerHandler at) (process.rolls-InnerHandler at)

pub block_form_is : (b : Block) → process_mentions (process.Block b) ≡ block_mentions b
block_form_is b = process_made (Process-F.Block b) (process.rolls-Block b)

pub sequence_is : (statements : List Process) → process_mentions (process.Sequence statements) ≡ flat_map process_mentions statements
sequence_is statements = process_made (Process-F.Sequence statements) (process.rolls-Sequence statements) ∙ mapped_joined process_mentions statements

pub parallel_is : (members : List Process) → process_mentions (process.Parallel members) ≡ flat_map process_mentions members
parallel_is members = process_made (Process-F.Parallel members) (process.rolls-Parallel members) ∙ mapped_joined process_mentions members

-- ---- what an `if` does where its test fails

otherwise_made : (x : Otherwise-F Otherwise Process Answer Block Branch Handler If Input Reply) {o : Otherwise} → roll-Otherwise x ≡ o
    → otherwise_mentions o ≡ else_or [] (map-Otherwise Otherwise Process Answer Block Branch Handler If Input Reply Seen Seen Seen Seen Seen Seen Seen (Seen → Seen) (Name → Seen → Seen) otherwise_mentions process_mentions answer_mentions block_mentions branch_mentions handler_mentions if_mentions input_mentions reply_mentions x)
unfolding otherwise_mentions process_mentions answer_mentions block_mentions branch_mentions handler_mentions if_mentions input_mentions reply_mentions
otherwise_made x made = ap otherwise_mentions (sym made) ∙ otherwise_rolls process_seen x

pub no_else_is : otherwise_mentions otherwise.Nothing ≡ []
no_else_is = otherwise_made Otherwise-F.«Otherwise::Nothing» otherwise.rolls-Nothing

pub else_if_is : (i : If) → otherwise_mentions (otherwise.ElseIf i) ≡ if_mentions i
else_if_is i = otherwise_made (Otherwise-F.ElseIf i) (otherwise.rolls-ElseIf i)

pub else_is : (b : Block) → otherwise_mentions (otherwise.Else b) ≡ block_mentions b
else_is b = otherwise_made (Otherwise-F.Else b) (otherwise.rolls-Else b)

-- ---- the parts of processes

block_made : (at : ℕ) (body : Option Process) → block_mentions (roll-Block (record { at = at; body = body })) ≡ if_written process_mentions body
unfolding otherwise_mentions process_mentions answer_mentions block_mentions branch_mentions handler_mentions if_mentions input_mentions reply_mentions
block_made at None = block_rolls process_seen (record { at = at; body = None })
block_made at (Some it) = block_rolls process_seen (record { at = at; body = Some it })

pub block_is : (b : Block) → block_mentions b ≡ if_written process_mentions (out-Block b).body
block_is b = ap block_mentions (sym (roll-out-Block b)) ∙ block_made (out-Block b).at (out-Block b).body

pub if_is : (i : If) → if_mentions i ≡ expr_mentions (out-If i).test ++ (block_mentions (out-If i).body ++ otherwise_mentions (out-If i).otherwise)
unfolding otherwise_mentions process_mentions answer_mentions block_mentions branch_mentions handler_mentions if_mentions input_mentions reply_mentions
if_is i =
    ap if_mentions (sym (roll-out-If i))
    ∙ conditional_rolls process_seen (out-If i)

pub reply_is : (r : Reply) (operation : Name) (taken : Seen) → reply_mentions r operation taken ≡ request_mentions operation (out-Reply r).path (taken ++ block_mentions (out-Reply r).body)
unfolding otherwise_mentions process_mentions answer_mentions block_mentions branch_mentions handler_mentions if_mentions input_mentions reply_mentions
reply_is r operation taken =
    ap (λ (q : Reply). reply_mentions q operation taken) (sym (roll-out-Reply r))
    ∙ ap (λ (f : Name → Seen → Seen). f operation taken) (reply_rolls process_seen (out-Reply r))

-- an input by its reply part, before what stands after it
abbrev pub asked_before : Name → Option Path → Option Reply → Seen → Seen
asked_before operation request None after =
    mention role.Taken operation ∷ (received_mentions request ++ map (in_role kept_role) after)
asked_before operation request (Some r) after =
    mention role.Taken operation ∷ (reply_mentions r operation (received_mentions request) ++ after)

input_made : (operation : Name) (request : Option Path) (reply : Option Reply) (after : Seen) → input_mentions (roll-Input (record { operation = operation; request = request; reply = reply })) after ≡ asked_before operation request reply after
unfolding otherwise_mentions process_mentions answer_mentions block_mentions branch_mentions handler_mentions if_mentions input_mentions reply_mentions
input_made operation request None after = ap (λ (f : Seen → Seen). f after) (input_rolls process_seen (record { operation = operation; request = request; reply = None }))
input_made operation request (Some it) after = ap (λ (f : Seen → Seen). f after) (input_rolls process_seen (record { operation = operation; request = request; reply = Some it }))

input_before : (i : Input) (after : Seen) → input_mentions i after ≡ asked_before (out-Input i).operation (out-Input i).request (out-Input i).reply after
input_before i after =
    ap (λ (j : Input). input_mentions j after) (sym (roll-out-Input i))
    ∙ input_made (out-Input i).operation (out-Input i).request (out-Input i).reply after

-- what stands after an input comes after it
asked_parts : (operation : Name) (request : Option Path) (reply : Option Reply) (after : Seen) → asked_before operation request reply after ≡ (mention role.Taken operation ∷ asked_by operation request reply) ++ after_input (is_some reply) after
asked_parts operation request None after = refl
asked_parts operation request (Some it) after = refl

-- where nothing stands after it
asked_alone : (operation : Name) (request : Option Path) (reply : Option Reply) → asked_before operation request reply [] ≡ mention role.Taken operation ∷ asked_by operation request reply
asked_alone operation request None = ap (λ ms. mention role.Taken operation ∷ ms) (append-nil (received_mentions request))
asked_alone operation request (Some it) =
    ap (λ ms. mention role.Taken operation ∷ ms) (append-nil (reply_mentions it operation (received_mentions request)))

pub input_is : (i : Input) → input_mentions i [] ≡ mention role.Taken (out-Input i).operation ∷ asked_mentions i
input_is i = input_before i [] ∙ asked_alone (out-Input i).operation (out-Input i).request (out-Input i).reply

branch_made : (b : Branch) → branch_mentions b ≡ input_mentions (out-Branch b).input (block_mentions (out-Branch b).after)
unfolding otherwise_mentions process_mentions answer_mentions block_mentions branch_mentions handler_mentions if_mentions input_mentions reply_mentions
branch_made b =
    ap branch_mentions (sym (roll-out-Branch b))
    ∙ branch_rolls process_seen (out-Branch b)

-- the input of a branch, and what comes after
pub branch_is : (b : Branch) → branch_mentions b ≡ input_mentions (out-Branch b).input [] ++ after_input (is_some (out-Input (out-Branch b).input).reply) (block_mentions (out-Branch b).after)
branch_is b =
    let i : Input = (out-Branch b).input in
    branch_made b
    ∙ input_before i (block_mentions (out-Branch b).after)
    ∙ asked_parts (out-Input i).operation (out-Input i).request (out-Input i).reply (block_mentions (out-Branch b).after)
    ∙ ap (λ ms. ms ++ after_input (is_some (out-Input i).reply) (block_mentions (out-Branch b).after)) (sym (input_is i))

-- what an output awaits, by its handlers
abbrev pub awaited_by : Option Path → Option (List Handler) → Seen
awaited_by path None = received_mentions path
awaited_by path (Some handlers) = received_mentions path ++ flat_map handler_mentions handlers

answer_made : (path : Option Path) (handlers : Option (List Handler)) → answer_mentions (roll-Answer (record { path = path; handlers = handlers })) ≡ awaited_by path handlers
unfolding otherwise_mentions process_mentions answer_mentions block_mentions branch_mentions handler_mentions if_mentions input_mentions reply_mentions
answer_made path None =
    answer_rolls process_seen (record { path = path; handlers = None })
    ∙ append-nil (received_mentions path)
answer_made path (Some it) =
    answer_rolls process_seen (record { path = path; handlers = Some it })
    ∙ ap (λ ms. received_mentions path ++ ms) (mapped_joined handler_mentions it)

pub answer_is : (a : Answer) → answer_mentions a ≡ awaited_by (out-Answer a).path (out-Answer a).handlers
answer_is a = ap answer_mentions (sym (roll-out-Answer a)) ∙ answer_made (out-Answer a).path (out-Answer a).handlers

pub handler_is : (h : Handler) → handler_mentions h ≡ handler_mentions_of (out-Handler h).key (process_mentions (out-Handler h).body)
unfolding otherwise_mentions process_mentions answer_mentions block_mentions branch_mentions handler_mentions if_mentions input_mentions reply_mentions
handler_is h =
    ap handler_mentions (sym (roll-out-Handler h))
    ∙ handler_rolls process_seen (out-Handler h)
