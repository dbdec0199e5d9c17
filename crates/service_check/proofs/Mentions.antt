-- The names of a file, one part after the other, and what each form of a process names.
use Rattle.std.proofs.Common.{◌≡◌, ℕ, ◌+◌, ◌<◌, List, [], ◌∷◌, ◌++◌, map, flat_map, length, get_or, take, Option, None, Some, refl, ap, sym, ◌∙◌}
use Rattle.std.specs.Prelude.{option_map}
use Rattle.std.proofs.lemmas.List.{flat_map_more, map-append, take_more}
use Rattle.std.proofs.lemmas.List.Folds.{flat_map-map}
use Rattle.jolie_ast.specs.declared.name.Name.{Name}
use Rattle.jolie_ast.specs.declared.expression.Expr.{Expr}
use Rattle.jolie_ast.specs.declared.expression.Path.{Path}
use Rattle.jolie_ast.specs.declared.process.Assignment.{Assignment}
use Rattle.jolie_ast.specs.declared.process.ForStep.{ForStep}
use Rattle.jolie_ast.specs.declared.process.Otherwise.TheOpen.{Otherwise-F, Process-F}
use Rattle.jolie_ast.specs.declared.process.Otherwise.TheFolds.{map-Process}
use Rattle.jolie_ast.specs.declared.process.Otherwise.{Otherwise}
use Rattle.jolie_ast.specs.declared.process.Otherwise.TheVariants as otherwise
use Rattle.jolie_ast.specs.declared.process.Process.TheVariants as process
use Rattle.jolie_ast.specs.declared.process.Process.{Process, roll-Process}
use Rattle.jolie_ast.specs.declared.process.Answer.{Answer, out-Answer, roll-Answer, roll-out-Answer}
use Rattle.jolie_ast.specs.declared.process.Block.{Block, out-Block, roll-Block, roll-out-Block}
use Rattle.jolie_ast.specs.declared.process.Branch.{Branch, out-Branch, roll-out-Branch}
use Rattle.jolie_ast.specs.declared.process.Handler.{Handler, out-Handler, roll-out-Handler}
use Rattle.jolie_ast.specs.declared.process.If.{If, out-If, roll-out-If}
use Rattle.jolie_ast.specs.declared.process.Input.{Input, out-Input, roll-Input, roll-out-Input}
use Rattle.jolie_ast.specs.declared.process.Reply.{Reply, out-Reply, roll-out-Reply}
use Rattle.jolie_ast.specs.declared.interface.OneWay.{OneWay}
use Rattle.jolie_ast.specs.declared.interface.OperationGroup.{OperationGroup}
use Rattle.jolie_ast.specs.declared.interface.RequestResponse.{RequestResponse}
use Rattle.jolie_ast.specs.declared.tree.Definition.{Definition}
use Rattle.check_base.specs.Files.{answering, silent, group_operations}
use Rattle.check_base.proofs.Firsts.{with_none}
use Rattle.check_base.specs.Repeated.{Texts, with_text, with_texts}
use Rattle.service_check.specs.Mentioned.{all, key_texts, process_level, process_texts, conditional_texts, otherwise_texts, input_texts, reply_texts, branch_texts, answer_texts, handler_texts, block_texts, thrown_by, definition_texts, standard, names_of, mentioned}
use Rattle.service_check.specs.MentionedParts.{maybe, fault_text}
use Rattle.check_base.proofs.Loops.{each_of_each}
use Rattle.jolie_ast.proofs.Folds.{process_rolls, block_rolls, conditional_rolls, otherwise_rolls, input_rolls, reply_rolls, branch_rolls, answer_rolls, handler_rolls}

-- ---- lists

-- one list after the other
pub with_append : (b xs ys : Texts) → with_texts b (xs ++ ys) ≡ with_texts (with_texts b xs) ys
with_append b [] ys = refl
with_append b (x ∷ xs) ys = with_append (with_text b x) xs ys

-- one more part
pub with_more : {X : Type 0} (b : Texts) (f : X → Texts) (xs : List X) (x : X) → with_texts b (flat_map f (xs ++ x ∷ [])) ≡ with_texts (with_texts b (flat_map f xs)) (f x)
with_more b f xs x = ap (with_texts b) (sym (flat_map_more f [] xs x)) ∙ with_append b (flat_map f xs) (f x)

-- a turn of a loop over parts
pub naming_turn : {X : Type 0} (f : X → Texts) (p0 p1 p2 : Texts) (xs : List X) (i : ℕ) (x : X) → i < length xs → x ≡ get_or xs i x
    → p1 ≡ with_texts p0 (flat_map f (take i xs)) → p2 ≡ with_texts p1 (f x) → p2 ≡ with_texts p0 (flat_map f (take (i + 1) xs))
naming_turn f p0 p1 p2 xs i x below item before turn =
    turn ∙ ap (λ p. with_texts p (f x)) before ∙ ap (λ y. with_texts (with_texts p0 (flat_map f (take i xs))) (f y)) item
    ∙ sym (ap (λ ys. with_texts p0 (flat_map f ys)) (take_more xs i x below) ∙ with_more p0 f (take i xs) (get_or xs i x))

-- one more text
pub with_one : (b xs : Texts) (x : List ℕ) → with_texts b (xs ++ x ∷ []) ≡ with_text (with_texts b xs) x
with_one b xs x = with_append b xs (x ∷ [])

-- a turn of a loop over texts
pub text_turn : {X : Type 0} (f : X → List ℕ) (p0 p1 p2 : Texts) (xs : List X) (i : ℕ) (x : X) → i < length xs → x ≡ get_or xs i x
    → p1 ≡ with_texts p0 (map f (take i xs)) → p2 ≡ with_text p1 (f x) → p2 ≡ with_texts p0 (map f (take (i + 1) xs))
text_turn f p0 p1 p2 xs i x below item before turn =
    turn ∙ ap (λ p. with_text p (f x)) before ∙ sym (with_one p0 (map f (take i xs)) (f x))
    ∙ ap (with_texts p0) (sym (map-append f (take i xs) (x ∷ [])))
    ∙ ap (λ y. with_texts p0 (map f (take i xs ++ y ∷ []))) item
    ∙ ap (λ ys. with_texts p0 (map f ys)) (sym (take_more xs i x below))

-- the texts of parts that were given
pub all_mapped : {X : Type 0} (f : X → Texts) (xs : List X) → all (map f xs) ≡ flat_map f xs
all_mapped f [] = refl
all_mapped f (x ∷ xs) = ap (λ ts. f x ++ ts) (all_mapped f xs)

-- ---- processes

-- what a process mentions, by the form that it is made of
process_made : (x : Process-F Otherwise Process Answer Block Branch Handler If Input Reply) {p : Process} → roll-Process x ≡ p
    → process_texts p ≡ process_level (map-Process Otherwise Process Answer Block Branch Handler If Input Reply Texts Texts Texts Texts Texts Texts Texts Texts Texts otherwise_texts process_texts answer_texts block_texts branch_texts handler_texts conditional_texts input_texts reply_texts x)
unfolding process_texts conditional_texts otherwise_texts input_texts reply_texts branch_texts answer_texts handler_texts block_texts
process_made x made = ap process_texts (sym made) ∙ process_rolls mentioned x

pub nothing_mentions : (at : ℕ) → process_texts (process.Nothing at) ≡ []
nothing_mentions at = process_made (Process-F.«Process::Nothing» at) (process.rolls-Nothing at)

pub assign_mentions : (path : Path) (a : Assignment) → process_texts (process.Assign path a) ≡ []
assign_mentions path a = process_made (Process-F.Assign path a) (process.rolls-Assign path a)

pub undef_mentions : (at : ℕ) (path : Path) → process_texts (process.Undef at path) ≡ []
undef_mentions at path = process_made (Process-F.Undef at path) (process.rolls-Undef at path)

pub correlate_mentions : (at : ℕ) (variable : Name) (value : Expr) → process_texts (process.Correlate at variable value) ≡ []
correlate_mentions at variable value = process_made (Process-F.Correlate at variable value) (process.rolls-Correlate at variable value)

pub conditional_mentions : (i : If) → process_texts (process.If i) ≡ conditional_texts i
conditional_mentions i = process_made (Process-F.If i) (process.rolls-If i)

pub while_mentions : (at : ℕ) (test : Expr) (body : Block) → process_texts (process.While at test body) ≡ block_texts body
while_mentions at test body = process_made (Process-F.While at test body) (process.rolls-While at test body)

pub for_mentions : (at : ℕ) (path : Path) (first test : Expr) (stepped : Path) (step : ForStep) (body : Block) → process_texts (process.For at path first test stepped step body) ≡ block_texts body
for_mentions at path first test stepped step body = process_made (Process-F.For at path first test stepped step body) (process.rolls-For at path first test stepped step body)

pub input_form_mentions : (i : Input) → process_texts (process.Input i) ≡ input_texts i
input_form_mentions i = process_made (Process-F.Input i) (process.rolls-Input i)

pub choice_mentions : (at : ℕ) (bs : List Branch) → process_texts (process.Choice at bs) ≡ flat_map branch_texts bs
choice_mentions at bs = process_made (Process-F.Choice at bs) (process.rolls-Choice at bs) ∙ all_mapped branch_texts bs

pub output_mentions : (operation port : Name) (value : Option Expr) (answer : Option Answer) → process_texts (process.Output operation port value answer) ≡ maybe (option_map answer_texts answer)
output_mentions operation port value None = process_made (Process-F.Output operation port value None) (process.rolls-Output operation port value None)
output_mentions operation port value (Some it) = process_made (Process-F.Output operation port value (Some it)) (process.rolls-Output operation port value (Some it))

pub scope_mentions : (at : ℕ) (name : Name) (body : Block) → process_texts (process.Scope at name body) ≡ name.text ∷ block_texts body
scope_mentions at name body = process_made (Process-F.Scope at name body) (process.rolls-Scope at name body)

pub install_mentions : (at : ℕ) (hs : List Handler) → process_texts (process.Install at hs) ≡ flat_map handler_texts hs
install_mentions at hs = process_made (Process-F.Install at hs) (process.rolls-Install at hs) ∙ all_mapped handler_texts hs

pub throw_mentions : (at : ℕ) (fault : Name) (value : Option Expr) → process_texts (process.Throw at fault value) ≡ fault.text ∷ []
throw_mentions at fault value = process_made (Process-F.Throw at fault value) (process.rolls-Throw at fault value)

pub compensate_mentions : (at : ℕ) (scope : Name) → process_texts (process.Compensate at scope) ≡ scope.text ∷ []
compensate_mentions at scope = process_made (Process-F.Compensate at scope) (process.rolls-Compensate at scope)

pub inner_handler_mentions : (at : ℕ) → process_texts (process.InnerHandler at) ≡ []
inner_handler_mentions at = process_made (Process-F.InnerHandler at) (process.rolls-InnerHandler at)

pub block_form_mentions : (b : Block) → process_texts (process.Block b) ≡ block_texts b
block_form_mentions b = process_made (Process-F.Block b) (process.rolls-Block b)

pub sequence_mentions : (ps : List Process) → process_texts (process.Sequence ps) ≡ flat_map process_texts ps
sequence_mentions ps = process_made (Process-F.Sequence ps) (process.rolls-Sequence ps) ∙ all_mapped process_texts ps

pub parallel_mentions : (ps : List Process) → process_texts (process.Parallel ps) ≡ flat_map process_texts ps
parallel_mentions ps = process_made (Process-F.Parallel ps) (process.rolls-Parallel ps) ∙ all_mapped process_texts ps

-- what processes mention, at each form
pub ruleset of_processes = (nothing_mentions, assign_mentions, undef_mentions, correlate_mentions, conditional_mentions, while_mentions, for_mentions, input_form_mentions, choice_mentions, output_mentions, scope_mentions, install_mentions, throw_mentions, compensate_mentions, inner_handler_mentions, block_form_mentions, sequence_mentions, parallel_mentions)

pub no_else_texts : otherwise_texts otherwise.Nothing ≡ []
unfolding process_texts conditional_texts otherwise_texts input_texts reply_texts branch_texts answer_texts handler_texts block_texts
no_else_texts = ap otherwise_texts (sym otherwise.rolls-Nothing) ∙ otherwise_rolls mentioned Otherwise-F.«Otherwise::Nothing»

pub else_if_texts : (i : If) → otherwise_texts (otherwise.ElseIf i) ≡ conditional_texts i
unfolding process_texts conditional_texts otherwise_texts input_texts reply_texts branch_texts answer_texts handler_texts block_texts
else_if_texts i = ap otherwise_texts (sym (otherwise.rolls-ElseIf i)) ∙ otherwise_rolls mentioned (Otherwise-F.ElseIf i)

pub else_texts : (b : Block) → otherwise_texts (otherwise.Else b) ≡ block_texts b
unfolding process_texts conditional_texts otherwise_texts input_texts reply_texts branch_texts answer_texts handler_texts block_texts
else_texts b = ap otherwise_texts (sym (otherwise.rolls-Else b)) ∙ otherwise_rolls mentioned (Otherwise-F.Else b)

pub if_is : (i : If) → conditional_texts i ≡ block_texts (out-If i).body ++ otherwise_texts (out-If i).otherwise
unfolding process_texts conditional_texts otherwise_texts input_texts reply_texts branch_texts answer_texts handler_texts block_texts
if_is i = ap conditional_texts (sym (roll-out-If i)) ∙ conditional_rolls mentioned (out-If i)

pub branch_is : (b : Branch) → branch_texts b ≡ input_texts (out-Branch b).input ++ block_texts (out-Branch b).after
unfolding process_texts conditional_texts otherwise_texts input_texts reply_texts branch_texts answer_texts handler_texts block_texts
branch_is b = ap branch_texts (sym (roll-out-Branch b)) ∙ branch_rolls mentioned (out-Branch b)

pub reply_is : (r : Reply) → reply_texts r ≡ block_texts (out-Reply r).body
unfolding process_texts conditional_texts otherwise_texts input_texts reply_texts branch_texts answer_texts handler_texts block_texts
reply_is r = ap reply_texts (sym (roll-out-Reply r)) ∙ reply_rolls mentioned (out-Reply r)

pub handler_is : (h : Handler) → handler_texts h ≡ key_texts (out-Handler h).key ++ process_texts (out-Handler h).body
unfolding process_texts conditional_texts otherwise_texts input_texts reply_texts branch_texts answer_texts handler_texts block_texts
handler_is h = ap handler_texts (sym (roll-out-Handler h)) ∙ handler_rolls mentioned (out-Handler h)

pub block_made : (at : ℕ) (body : Option Process) → block_texts (roll-Block (record { at = at; body = body })) ≡ maybe (option_map process_texts body)
unfolding process_texts conditional_texts otherwise_texts input_texts reply_texts branch_texts answer_texts handler_texts block_texts
block_made at None = block_rolls mentioned (record { at = at; body = None })
block_made at (Some it) = block_rolls mentioned (record { at = at; body = Some it })

pub block_is : (b : Block) → block_texts b ≡ maybe (option_map process_texts (out-Block b).body)
block_is b = ap block_texts (sym (roll-out-Block b)) ∙ block_made (out-Block b).at (out-Block b).body

pub empty_block : (b : Block) → (out-Block b).body ≡ None → block_texts b ≡ []
empty_block b none = block_is b ∙ ap (λ p. maybe (option_map process_texts p)) none

pub full_block : (b : Block) (p : Process) → (out-Block b).body ≡ Some p → block_texts b ≡ process_texts p
full_block b p some = block_is b ∙ ap (λ p. maybe (option_map process_texts p)) some

pub input_made : (operation : Name) (request : Option Path) (reply : Option Reply) → input_texts (roll-Input (record { operation = operation; request = request; reply = reply })) ≡ maybe (option_map reply_texts reply)
unfolding process_texts conditional_texts otherwise_texts input_texts reply_texts branch_texts answer_texts handler_texts block_texts
input_made operation request None = input_rolls mentioned (record { operation = operation; request = request; reply = None })
input_made operation request (Some it) = input_rolls mentioned (record { operation = operation; request = request; reply = Some it })

pub input_is : (i : Input) → input_texts i ≡ maybe (option_map reply_texts (out-Input i).reply)
input_is i = ap input_texts (sym (roll-out-Input i)) ∙ input_made (out-Input i).operation (out-Input i).request (out-Input i).reply

pub bare_input : (i : Input) → (out-Input i).reply ≡ None → input_texts i ≡ []
bare_input i none = input_is i ∙ ap (λ r. maybe (option_map reply_texts r)) none

pub answered_input : (i : Input) (r : Reply) → (out-Input i).reply ≡ Some r → input_texts i ≡ reply_texts r
answered_input i r some = input_is i ∙ ap (λ r. maybe (option_map reply_texts r)) some

-- the texts of handlers, if a list is written
abbrev pub handlers_texts : Option (List Handler) → Texts
handlers_texts None = []
handlers_texts (Some handlers) = flat_map handler_texts handlers

pub answer_made : (path : Option Path) (handlers : Option (List Handler)) → answer_texts (roll-Answer (record { path = path; handlers = handlers })) ≡ handlers_texts handlers
unfolding process_texts conditional_texts otherwise_texts input_texts reply_texts branch_texts answer_texts handler_texts block_texts
answer_made path None = answer_rolls mentioned (record { path = path; handlers = None })
answer_made path (Some it) = answer_rolls mentioned (record { path = path; handlers = Some it }) ∙ all_mapped handler_texts it

pub answer_is : (a : Answer) → answer_texts a ≡ handlers_texts (out-Answer a).handlers
answer_is a = ap answer_texts (sym (roll-out-Answer a)) ∙ answer_made (out-Answer a).path (out-Answer a).handlers

pub bare_answer : (a : Answer) → (out-Answer a).handlers ≡ None → answer_texts a ≡ []
bare_answer a none = answer_is a ∙ ap handlers_texts none

pub handled_answer : (a : Answer) (hs : List Handler) → (out-Answer a).handlers ≡ Some hs → answer_texts a ≡ flat_map handler_texts hs
handled_answer a hs some = answer_is a ∙ ap handlers_texts some

-- ---- interfaces

-- the faults of groups
pub groups_throw : (groups : List OperationGroup) → flat_map thrown_by (flat_map group_operations groups) ≡ flat_map (λ g. flat_map thrown_by (group_operations g)) groups
groups_throw groups = each_of_each thrown_by group_operations groups

-- the faults of operations that answer
pub answering_throw : (os : List RequestResponse) → flat_map thrown_by (map answering os) ≡ flat_map (λ (o : RequestResponse). map fault_text o.throws) os
answering_throw os = flat_map-map thrown_by answering os

-- operations that do not answer have no faults
pub silent_throw : (os : List OneWay) → flat_map thrown_by (map silent os) ≡ []
silent_throw [] = refl
silent_throw (o ∷ os) = silent_throw os

-- ---- the file

-- the names of a file, one after the other
pub names_taken : (file : List Definition) → with_texts (with_texts [] standard) (flat_map definition_texts file) ≡ names_of file
unfolding names_of
names_taken file = sym (with_append [] standard (flat_map definition_texts file)) ∙ with_none (standard ++ flat_map definition_texts file)
