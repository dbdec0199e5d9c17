-- A process without its places is printed as the process.
use Rattle.std.proofs.Common.{◌≡◌, ℕ, List, [], ◌∷◌, ◌++◌, map, Option, Some, None, refl, sym, ap, subst, ◌∙◌, codes}
use Rattle.std.specs.Prelude.{option_map}
use Rattle.jolie_ast.specs.declared.name.Name.{Name}
use Rattle.jolie_ast.specs.declared.expression.Expr.{Expr}
use Rattle.jolie_ast.specs.declared.expression.Path.{Path}
use Rattle.jolie_ast.specs.declared.process.Assignment.{Assignment}
use Rattle.jolie_ast.specs.declared.process.Assignment.TheVariants as assignment
use Rattle.jolie_ast.specs.declared.process.ForStep.{ForStep}
use Rattle.jolie_ast.specs.declared.process.ForStep.TheVariants as for_step
use Rattle.jolie_ast.specs.declared.process.HandlerKey.{HandlerKey}
use Rattle.jolie_ast.specs.declared.process.HandlerKey.TheVariants as key
use Rattle.jolie_ast.specs.declared.process.Otherwise.TheOpen.{Otherwise-F, Process-F}
use Rattle.jolie_ast.specs.declared.process.Otherwise.TheFolds.{map-Answer, map-Block, map-Input, map-Otherwise, map-Process, ind-Block}
use Rattle.jolie_ast.specs.declared.process.Otherwise.{Otherwise, roll-Otherwise}
use Rattle.jolie_ast.specs.declared.process.Process.{Process, roll-Process}
use Rattle.jolie_ast.specs.declared.process.Answer.{Answer, roll-Answer}
use Rattle.jolie_ast.specs.declared.process.Block.{Block, roll-Block}
use Rattle.jolie_ast.specs.declared.process.Branch.{Branch, roll-Branch}
use Rattle.jolie_ast.specs.declared.process.Handler.{Handler, roll-Handler}
use Rattle.jolie_ast.specs.declared.process.If.{If, roll-If}
use Rattle.jolie_ast.specs.declared.process.Input.{Input, roll-Input}
use Rattle.jolie_ast.specs.declared.process.Reply.{Reply, roll-Reply}
use Rattle.jolie_ast.specs.declared.process.Process.TheVariants as process
use Rattle.jolie_ast.specs.declared.process.Otherwise.TheVariants as otherwise
use Rattle.jolie_ast.specs.Spacing.{Token, separated}
use Rattle.jolie_ast.specs.PrintedExpressions.{in_parens, in_brackets, in_braces, expr_tokens}
use Rattle.jolie_ast.specs.PrintedProcesses.{assignment_tokens, for_step_tokens, key_token, path_parens, value_parens, thrown_tokens, process_tokens, block_tokens, if_tokens, otherwise_tokens, input_tokens, reply_tokens, branch_tokens, answer_tokens, handler_tokens}
use Rattle.jolie_ast.proofs.PrintedProcesses.{nothing_shown, assign_shown, undef_shown, correlate_shown, conditional_shown, while_shown, for_shown, input_form_shown, choice_shown, output_shown, scope_shown, install_shown, throw_shown, compensate_shown, inner_handler_shown, block_form_shown, sequence_shown, parallel_shown, else_if_shown, else_shown, block_made, input_made}
use Rattle.jolie_round_trip.specs.Placeless.{name_placeless, expr_placeless, path_placeless, assignment_placeless, for_step_placeless, key_placeless, process_placeless, block_placeless, if_placeless, otherwise_placeless, input_placeless, reply_placeless, branch_placeless, answer_placeless, handler_placeless}
use Rattle.jolie_round_trip.proofs.PlacelessProcesses.{nothing_placeless, assign_placeless, undef_placeless, correlate_placeless, conditional_placeless, while_placeless, for_placeless, input_statement_placeless, choice_placeless, output_placeless, scope_placeless, install_placeless, throw_placeless, compensate_placeless, inner_handler_placeless, block_statement_placeless, sequence_placeless, parallel_placeless, no_else_placeless, else_if_placeless, else_placeless, block_rolled, if_rolled, input_rolled, reply_rolled, branch_rolled, answer_rolled, handler_rolled}
use Rattle.jolie_round_trip.proofs.PrintedStatements.{if_printed, reply_printed, branch_printed, answer_printed, handler_printed}
use Rattle.jolie_round_trip.proofs.ListsAlike.{known_lists, known_separated}
use Rattle.jolie_round_trip.proofs.ExpressionsAlike.{expr_tokens_alike, path_alike}

-- ---- the expressions and paths in a process

assignment_alike : (a : Assignment) → assignment_tokens (assignment_placeless a) ≡ assignment_tokens a
assignment_alike (assignment.Root value) = rw (expr_tokens_alike value) refl
assignment_alike (assignment.Copy value) = rw (expr_tokens_alike value) refl
assignment_alike (assignment.Count count) = refl

for_step_alike : (s : ForStep) → for_step_tokens (for_step_placeless s) ≡ for_step_tokens s
for_step_alike (for_step.Root value) = rw (expr_tokens_alike value) refl
for_step_alike (for_step.Count count) = refl

key_alike : (k : HandlerKey) → key_token (key_placeless k) ≡ key_token k
key_alike (key.This at) = refl
key_alike (key.Named name) = refl

parens_alike : (path : Option Path) → path_parens (option_map path_placeless path) ≡ path_parens path
parens_alike None = refl
parens_alike (Some path) = ap in_parens (path_alike path)

value_alike : (value : Option Expr) → value_parens (option_map expr_placeless value) ≡ value_parens value
value_alike None = refl
value_alike (Some value) = ap in_parens (expr_tokens_alike value)

thrown_alike : (value : Option Expr) → thrown_tokens (option_map expr_placeless value) ≡ thrown_tokens value
thrown_alike None = refl
thrown_alike (Some value) = rw (expr_tokens_alike value) refl

-- ---- what is printed of each is printed of it without places, and things of which this is known

abbrev OtherwiseAlike : Otherwise → Type 0
OtherwiseAlike x = otherwise_tokens (otherwise_placeless x) ≡ otherwise_tokens x

abbrev KnownOtherwise : Type 0
KnownOtherwise = (x : Otherwise) × OtherwiseAlike x

abbrev ProcessAlike : Process → Type 0
ProcessAlike x = process_tokens (process_placeless x) ≡ process_tokens x

abbrev KnownProcess : Type 0
KnownProcess = (x : Process) × ProcessAlike x

abbrev AnswerAlike : Answer → Type 0
AnswerAlike x = answer_tokens (answer_placeless x) ≡ answer_tokens x

abbrev KnownAnswer : Type 0
KnownAnswer = (x : Answer) × AnswerAlike x

abbrev BlockAlike : Block → Type 0
BlockAlike x = block_tokens (block_placeless x) ≡ block_tokens x

abbrev KnownBlock : Type 0
KnownBlock = (x : Block) × BlockAlike x

abbrev BranchAlike : Branch → Type 0
BranchAlike x = branch_tokens (branch_placeless x) ≡ branch_tokens x

abbrev KnownBranch : Type 0
KnownBranch = (x : Branch) × BranchAlike x

abbrev HandlerAlike : Handler → Type 0
HandlerAlike x = handler_tokens (handler_placeless x) ≡ handler_tokens x

abbrev KnownHandler : Type 0
KnownHandler = (x : Handler) × HandlerAlike x

abbrev IfAlike : If → Type 0
IfAlike x = if_tokens (if_placeless x) ≡ if_tokens x

abbrev KnownIf : Type 0
KnownIf = (x : If) × IfAlike x

abbrev InputAlike : Input → Type 0
InputAlike x = input_tokens (input_placeless x) ≡ input_tokens x

abbrev KnownInput : Type 0
KnownInput = (x : Input) × InputAlike x

abbrev ReplyAlike : Reply → Type 0
ReplyAlike x = reply_tokens (reply_placeless x) ≡ reply_tokens x

abbrev KnownReply : Type 0
KnownReply = (x : Reply) × ReplyAlike x

-- ---- one level, of which the parts are known

abbrev process_of : Process-F KnownOtherwise KnownProcess KnownAnswer KnownBlock KnownBranch KnownHandler KnownIf KnownInput KnownReply → Process
process_of y = roll-Process (map-Process KnownOtherwise KnownProcess KnownAnswer KnownBlock KnownBranch KnownHandler KnownIf KnownInput KnownReply Otherwise Process Answer Block Branch Handler If Input Reply (λ e. e.0) (λ e. e.0) (λ e. e.0) (λ e. e.0) (λ e. e.0) (λ e. e.0) (λ e. e.0) (λ e. e.0) (λ e. e.0) y)

abbrev otherwise_of : Otherwise-F KnownOtherwise KnownProcess KnownAnswer KnownBlock KnownBranch KnownHandler KnownIf KnownInput KnownReply → Otherwise
otherwise_of y = roll-Otherwise (map-Otherwise KnownOtherwise KnownProcess KnownAnswer KnownBlock KnownBranch KnownHandler KnownIf KnownInput KnownReply Otherwise Process Answer Block Branch Handler If Input Reply (λ e. e.0) (λ e. e.0) (λ e. e.0) (λ e. e.0) (λ e. e.0) (λ e. e.0) (λ e. e.0) (λ e. e.0) (λ e. e.0) y)

abbrev block_of : ℕ → Option KnownProcess → Block
block_of at body = roll-Block (map-Block KnownOtherwise KnownProcess KnownAnswer KnownBlock KnownBranch KnownHandler KnownIf KnownInput KnownReply Otherwise Process Answer Block Branch Handler If Input Reply (λ e. e.0) (λ e. e.0) (λ e. e.0) (λ e. e.0) (λ e. e.0) (λ e. e.0) (λ e. e.0) (λ e. e.0) (λ e. e.0) (record { at = at; body = body }))

abbrev input_of : Name → Option Path → Option KnownReply → Input
input_of operation request reply = roll-Input (map-Input KnownOtherwise KnownProcess KnownAnswer KnownBlock KnownBranch KnownHandler KnownIf KnownInput KnownReply Otherwise Process Answer Block Branch Handler If Input Reply (λ e. e.0) (λ e. e.0) (λ e. e.0) (λ e. e.0) (λ e. e.0) (λ e. e.0) (λ e. e.0) (λ e. e.0) (λ e. e.0) (record { operation = operation; request = request; reply = reply }))

abbrev answer_of : Option Path → Option (List KnownHandler) → Answer
answer_of path handlers = roll-Answer (map-Answer KnownOtherwise KnownProcess KnownAnswer KnownBlock KnownBranch KnownHandler KnownIf KnownInput KnownReply Otherwise Process Answer Block Branch Handler If Input Reply (λ e. e.0) (λ e. e.0) (λ e. e.0) (λ e. e.0) (λ e. e.0) (λ e. e.0) (λ e. e.0) (λ e. e.0) (λ e. e.0) (record { path = path; handlers = handlers }))

process_alike : {x p q : Process} {ts us : List Token} → x ≡ p → process_placeless p ≡ q → process_tokens q ≡ ts → ts ≡ us → process_tokens p ≡ us → ProcessAlike x
process_alike rolls left printed same whole = subst ProcessAlike (sym rolls) (ap process_tokens left ∙ printed ∙ same ∙ sym whole)

process_known : (y : Process-F KnownOtherwise KnownProcess KnownAnswer KnownBlock KnownBranch KnownHandler KnownIf KnownInput KnownReply) → ProcessAlike (process_of y)
process_known (Process-F.«Process::Nothing» at) = process_alike (process.rolls-Nothing at) (nothing_placeless at) (nothing_shown 0) refl (nothing_shown at)
process_known (Process-F.Assign path change) =
    process_alike (process.rolls-Assign path change) (assign_placeless path change) (assign_shown (path_placeless path) (assignment_placeless change)) (rw (path_alike path, assignment_alike change) refl) (assign_shown path change)
process_known (Process-F.Undef at path) = process_alike (process.rolls-Undef at path) (undef_placeless at path) (undef_shown 0 (path_placeless path)) (rw (path_alike path) refl) (undef_shown at path)
process_known (Process-F.Correlate at variable value) =
    process_alike (process.rolls-Correlate at variable value) (correlate_placeless at variable value) (correlate_shown 0 (name_placeless variable) (expr_placeless value)) (rw (expr_tokens_alike value) refl) (correlate_shown at variable value)
process_known (Process-F.If (i, k)) = process_alike (process.rolls-If i) (conditional_placeless i) (conditional_shown (if_placeless i)) k (conditional_shown i)
process_known (Process-F.While at test (body, k)) =
    process_alike (process.rolls-While at test body) (while_placeless at test body) (while_shown 0 (expr_placeless test) (block_placeless body)) (rw (expr_tokens_alike test, k) refl) (while_shown at test body)
process_known (Process-F.For at path first test stepped step (body, k)) =
    process_alike (process.rolls-For at path first test stepped step body) (for_placeless at path first test stepped step body)
    (for_shown 0 (path_placeless path) (expr_placeless first) (expr_placeless test) (path_placeless stepped) (for_step_placeless step) (block_placeless body))
    (rw (path_alike path, expr_tokens_alike first, expr_tokens_alike test, path_alike stepped, for_step_alike step, k) refl)
    (for_shown at path first test stepped step body)
process_known (Process-F.Input (i, k)) = process_alike (process.rolls-Input i) (input_statement_placeless i) (input_form_shown (input_placeless i)) k (input_form_shown i)
process_known (Process-F.Choice at branches) =
    let bs : List Branch = map (λ b. b.0) branches in
    process_alike (process.rolls-Choice at bs) (choice_placeless at bs) (choice_shown 0 (map branch_placeless bs)) (known_lists branch_placeless branch_tokens (λ b k. k) branches) (choice_shown at bs)
process_known (Process-F.Output operation port value None) =
    process_alike (process.rolls-Output operation port value None) (output_placeless operation port value None) (output_shown (name_placeless operation) (name_placeless port) (option_map expr_placeless value) None)
    (ap (λ ts. operation.text ∷ (codes "@" ∷ (port.text ∷ (ts ++ [])))) (value_alike value)) (output_shown operation port value None)
process_known (Process-F.Output operation port value (Some (answer, k))) =
    process_alike (process.rolls-Output operation port value (Some answer)) (output_placeless operation port value (Some answer))
    (output_shown (name_placeless operation) (name_placeless port) (option_map expr_placeless value) (Some (answer_placeless answer)))
    (ap (λ ts. operation.text ∷ (codes "@" ∷ (port.text ∷ (ts ++ answer_tokens (answer_placeless answer))))) (value_alike value) ∙ ap (λ ts. operation.text ∷ (codes "@" ∷ (port.text ∷ (value_parens value ++ ts)))) k)
    (output_shown operation port value (Some answer))
process_known (Process-F.Scope at name (body, k)) =
    process_alike (process.rolls-Scope at name body) (scope_placeless at name body) (scope_shown 0 (name_placeless name) (block_placeless body)) (rw k refl) (scope_shown at name body)
process_known (Process-F.Install at handlers) =
    let hs : List Handler = map (λ h. h.0) handlers in
    process_alike (process.rolls-Install at hs) (install_placeless at hs) (install_shown 0 (map handler_placeless hs))
    (ap (λ ts. codes "install" ∷ in_parens ts) (known_separated (codes ",") handler_placeless handler_tokens (λ h k. k) handlers)) (install_shown at hs)
process_known (Process-F.Throw at fault value) =
    process_alike (process.rolls-Throw at fault value) (throw_placeless at fault value) (throw_shown 0 (name_placeless fault) (option_map expr_placeless value)) (rw (thrown_alike value) refl) (throw_shown at fault value)
process_known (Process-F.Compensate at name) = process_alike (process.rolls-Compensate at name) (compensate_placeless at name) (compensate_shown 0 (name_placeless name)) refl (compensate_shown at name)
process_known (Process-F.InnerHandler at) = process_alike (process.rolls-InnerHandler at) (inner_handler_placeless at) (inner_handler_shown 0) refl (inner_handler_shown at)
process_known (Process-F.Block (b, k)) = process_alike (process.rolls-Block b) (block_statement_placeless b) (block_form_shown (block_placeless b)) k (block_form_shown b)
process_known (Process-F.Sequence statements) =
    let ps : List Process = map (λ p. p.0) statements in
    process_alike (process.rolls-Sequence ps) (sequence_placeless ps) (sequence_shown (map process_placeless ps)) (known_separated (codes ";") process_placeless process_tokens (λ p k. k) statements) (sequence_shown ps)
process_known (Process-F.Parallel members) =
    let ps : List Process = map (λ p. p.0) members in
    process_alike (process.rolls-Parallel ps) (parallel_placeless ps) (parallel_shown (map process_placeless ps)) (known_separated (codes "|") process_placeless process_tokens (λ p k. k) members) (parallel_shown ps)

otherwise_known : (y : Otherwise-F KnownOtherwise KnownProcess KnownAnswer KnownBlock KnownBranch KnownHandler KnownIf KnownInput KnownReply) → OtherwiseAlike (otherwise_of y)
otherwise_known Otherwise-F.«Otherwise::Nothing» = subst OtherwiseAlike (sym otherwise.rolls-Nothing) (ap otherwise_tokens no_else_placeless)
otherwise_known (Otherwise-F.ElseIf (i, k)) =
    subst OtherwiseAlike (sym (otherwise.rolls-ElseIf i)) (ap otherwise_tokens (else_if_placeless i) ∙ else_if_shown (if_placeless i) ∙ ap (λ ts. codes "else" ∷ ts) k ∙ sym (else_if_shown i))
otherwise_known (Otherwise-F.Else (b, k)) =
    subst OtherwiseAlike (sym (otherwise.rolls-Else b)) (ap otherwise_tokens (else_placeless b) ∙ else_shown (block_placeless b) ∙ ap (λ ts. codes "else" ∷ ts) k ∙ sym (else_shown b))

block_known : (at : ℕ) (body : Option KnownProcess) → BlockAlike (block_of at body)
block_known at None = ap block_tokens (block_rolled at None) ∙ block_made 0 None ∙ sym (block_made at None)
block_known at (Some (p, k)) = ap block_tokens (block_rolled at (Some p)) ∙ block_made 0 (Some (process_placeless p)) ∙ ap in_braces k ∙ sym (block_made at (Some p))

if_known : (at : ℕ) (test : Expr) (body : KnownBlock) (rest : KnownOtherwise) → IfAlike (roll-If (record { at = at; test = test; body = body.0; otherwise = rest.0 }))
if_known at test (body, j) (rest, k) =
    ap if_tokens (if_rolled at test body rest)
    ∙ if_printed 0 (expr_placeless test) (block_placeless body) (otherwise_placeless rest)
    ∙ ap (λ ts. codes "if" ∷ (in_parens ts ++ block_tokens (block_placeless body) ++ otherwise_tokens (otherwise_placeless rest))) (expr_tokens_alike test)
    ∙ ap (λ ts. codes "if" ∷ (in_parens (expr_tokens test) ++ ts ++ otherwise_tokens (otherwise_placeless rest))) j
    ∙ ap (λ ts. codes "if" ∷ (in_parens (expr_tokens test) ++ block_tokens body ++ ts)) k
    ∙ sym (if_printed at test body rest)

input_known : (operation : Name) (request : Option Path) (reply : Option KnownReply) → InputAlike (input_of operation request reply)
input_known operation request None =
    ap input_tokens (input_rolled operation request None)
    ∙ input_made (name_placeless operation) (option_map path_placeless request) None
    ∙ ap (λ ts. operation.text ∷ (ts ++ [])) (parens_alike request)
    ∙ sym (input_made operation request None)
input_known operation request (Some (reply, k)) =
    ap input_tokens (input_rolled operation request (Some reply))
    ∙ input_made (name_placeless operation) (option_map path_placeless request) (Some (reply_placeless reply))
    ∙ ap (λ ts. operation.text ∷ (ts ++ reply_tokens (reply_placeless reply))) (parens_alike request)
    ∙ ap (λ ts. operation.text ∷ (path_parens request ++ ts)) k
    ∙ sym (input_made operation request (Some reply))

reply_known : (path : Option Path) (body : KnownBlock) → ReplyAlike (roll-Reply (record { path = path; body = body.0 }))
reply_known path (body, k) =
    ap reply_tokens (reply_rolled path body)
    ∙ reply_printed (option_map path_placeless path) (block_placeless body)
    ∙ ap (λ ts. ts ++ block_tokens (block_placeless body)) (parens_alike path)
    ∙ ap (λ ts. path_parens path ++ ts) k
    ∙ sym (reply_printed path body)

branch_known : (at : ℕ) (input : KnownInput) (after : KnownBlock) → BranchAlike (roll-Branch (record { at = at; input = input.0; after = after.0 }))
branch_known at (input, j) (after, k) =
    ap branch_tokens (branch_rolled at input after)
    ∙ branch_printed 0 (input_placeless input) (block_placeless after)
    ∙ ap (λ ts. in_brackets ts ++ block_tokens (block_placeless after)) j
    ∙ ap (λ ts. in_brackets (input_tokens input) ++ ts) k
    ∙ sym (branch_printed at input after)

answer_known : (path : Option Path) (handlers : Option (List KnownHandler)) → AnswerAlike (answer_of path handlers)
answer_known path None =
    ap answer_tokens (answer_rolled path None) ∙ answer_printed (option_map path_placeless path) None ∙ ap (λ ts. ts ++ []) (parens_alike path) ∙ sym (answer_printed path None)
answer_known path (Some handlers) =
    let hs : List Handler = map (λ h. h.0) handlers in
    ap answer_tokens (answer_rolled path (Some hs))
    ∙ answer_printed (option_map path_placeless path) (Some (map handler_placeless hs))
    ∙ ap (λ ts. ts ++ in_brackets (separated (codes ",") handler_tokens (map handler_placeless hs))) (parens_alike path)
    ∙ ap (λ ts. path_parens path ++ in_brackets ts) (known_separated (codes ",") handler_placeless handler_tokens (λ h k. k) handlers)
    ∙ sym (answer_printed path (Some hs))

handler_known : (under : HandlerKey) (body : KnownProcess) → HandlerAlike (roll-Handler (record { key = under; body = body.0 }))
handler_known under (body, k) =
    ap handler_tokens (handler_rolled under body)
    ∙ handler_printed (key_placeless under) (process_placeless body)
    ∙ ap (λ t. t ∷ (codes "=>" ∷ process_tokens (process_placeless body))) (key_alike under)
    ∙ ap (λ ts. key_token under ∷ (codes "=>" ∷ ts)) k
    ∙ sym (handler_printed under body)

-- ---- by induction

pub block_alike : (b : Block) → block_tokens (block_placeless b) ≡ block_tokens b
block_alike = ind-Block OtherwiseAlike ProcessAlike AnswerAlike BlockAlike BranchAlike HandlerAlike IfAlike InputAlike ReplyAlike
    (λ x y is. subst (λ z. OtherwiseAlike (roll-Otherwise z)) is (otherwise_known y))
    (λ x y is. subst (λ z. ProcessAlike (roll-Process z)) is (process_known y))
    (λ x y is. subst (λ z. AnswerAlike (roll-Answer z)) is (answer_known y.path y.handlers))
    (λ x y is. subst (λ z. BlockAlike (roll-Block z)) is (block_known y.at y.body))
    (λ x y is. subst (λ z. BranchAlike (roll-Branch z)) is (branch_known y.at y.input y.after))
    (λ x y is. subst (λ z. HandlerAlike (roll-Handler z)) is (handler_known y.key y.body))
    (λ x y is. subst (λ z. IfAlike (roll-If z)) is (if_known y.at y.test y.body y.otherwise))
    (λ x y is. subst (λ z. InputAlike (roll-Input z)) is (input_known y.operation y.request y.reply))
    (λ x y is. subst (λ z. ReplyAlike (roll-Reply z)) is (reply_known y.path y.body))
