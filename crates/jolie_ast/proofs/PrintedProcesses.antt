-- What the tokens of a process are at each form.
use Rattle.std.proofs.Common.{◌≡◌, ℕ, List, [], ◌∷◌, ◌++◌, Option, Some, None, ap, sym, ◌∙◌, codes, flat_map}
use Rattle.std.specs.Prelude.{option_map}
use Rattle.jolie_ast.specs.declared.name.Name.{Name}
use Rattle.jolie_ast.specs.declared.expression.Expr.{Expr}
use Rattle.jolie_ast.specs.declared.expression.Path.{Path}
use Rattle.jolie_ast.specs.declared.process.Assignment.{Assignment}
use Rattle.jolie_ast.specs.declared.process.ForStep.{ForStep}
use Rattle.jolie_ast.specs.declared.process.Otherwise.TheOpen.{Otherwise-F, Process-F}
use Rattle.jolie_ast.specs.declared.process.Otherwise.TheFolds.{map-Otherwise, map-Process}
use Rattle.jolie_ast.specs.declared.process.Process.{Process, roll-Process}
use Rattle.jolie_ast.specs.declared.process.Process.TheVariants as process
use Rattle.jolie_ast.specs.declared.process.Block.{Block, out-Block, roll-Block, roll-out-Block}
use Rattle.jolie_ast.specs.declared.process.If.{If, out-If, roll-out-If}
use Rattle.jolie_ast.specs.declared.process.Otherwise.{Otherwise, roll-Otherwise}
use Rattle.jolie_ast.specs.declared.process.Otherwise.TheVariants as otherwise
use Rattle.jolie_ast.specs.declared.process.Input.{Input, out-Input, roll-Input, roll-out-Input}
use Rattle.jolie_ast.specs.declared.process.Reply.{Reply, out-Reply, roll-out-Reply}
use Rattle.jolie_ast.specs.declared.process.Branch.{Branch, out-Branch, roll-out-Branch}
use Rattle.jolie_ast.specs.declared.process.Answer.{Answer, out-Answer, roll-Answer, roll-out-Answer}
use Rattle.jolie_ast.specs.declared.process.Handler.{Handler, out-Handler, roll-out-Handler}
use Rattle.jolie_ast.specs.Spacing.{Token, separated}
use Rattle.jolie_ast.specs.PrintedExpressions.{in_parens, in_brackets, in_braces, expr_tokens, path_tokens}
use Rattle.jolie_ast.specs.PrintedParts.{maybe}
use Rattle.jolie_ast.specs.PrintedProcesses.{assignment_tokens, for_step_tokens, key_token, path_parens, value_parens, thrown_tokens, process_level, otherwise_level, process_tokens, block_tokens, if_tokens, otherwise_tokens, input_tokens, reply_tokens, branch_tokens, answer_tokens, handler_tokens, printed}
use Rattle.jolie_ast.proofs.Spacing.{mapped_tokens, mapped_separated}
use Rattle.jolie_ast.proofs.Folds.{process_rolls, block_rolls, conditional_rolls, otherwise_rolls, input_rolls, reply_rolls, branch_rolls, answer_rolls, handler_rolls}

-- ---- processes

-- the tokens of a process, by the form that it is made of
process_made : (x : Process-F Otherwise Process Answer Block Branch Handler If Input Reply) {p : Process} → roll-Process x ≡ p
    → process_tokens p ≡ process_level (map-Process Otherwise Process Answer Block Branch Handler If Input Reply (List Token) (List Token) (List Token) (List Token) (List Token) (List Token) (List Token) (List Token) (List Token) otherwise_tokens process_tokens answer_tokens block_tokens branch_tokens handler_tokens if_tokens input_tokens reply_tokens x)
unfolding otherwise_tokens process_tokens answer_tokens block_tokens branch_tokens handler_tokens if_tokens input_tokens reply_tokens
process_made x made = ap process_tokens (sym made) ∙ process_rolls printed x

pub nothing_shown : (at : ℕ) → process_tokens (process.Nothing at) ≡ codes "nullProcess" ∷ []
nothing_shown at = process_made (Process-F.«Process::Nothing» at) (process.rolls-Nothing at)

pub assign_shown : (path : Path) (assignment : Assignment) → process_tokens (process.Assign path assignment) ≡ path_tokens path ++ assignment_tokens assignment
assign_shown path assignment = process_made (Process-F.Assign path assignment) (process.rolls-Assign path assignment)

pub undef_shown : (at : ℕ) (path : Path) → process_tokens (process.Undef at path) ≡ codes "undef" ∷ in_parens (path_tokens path)
undef_shown at path = process_made (Process-F.Undef at path) (process.rolls-Undef at path)

pub correlate_shown : (at : ℕ) (variable : Name) (value : Expr) → process_tokens (process.Correlate at variable value) ≡ codes "csets" ∷ (codes "." ∷ (variable.text ∷ (codes "=" ∷ expr_tokens value)))
correlate_shown at variable value = process_made (Process-F.Correlate at variable value) (process.rolls-Correlate at variable value)

pub conditional_shown : (i : If) → process_tokens (process.If i) ≡ if_tokens i
conditional_shown i = process_made (Process-F.If i) (process.rolls-If i)

pub while_shown : (at : ℕ) (test : Expr) (body : Block) → process_tokens (process.While at test body) ≡ codes "while" ∷ (in_parens (expr_tokens test) ++ block_tokens body)
while_shown at test body = process_made (Process-F.While at test body) (process.rolls-While at test body)

pub for_shown : (at : ℕ) (path : Path) (first : Expr) (test : Expr) (stepped : Path) (step : ForStep) (body : Block) → process_tokens (process.For at path first test stepped step body) ≡ codes "for" ∷ (in_parens (path_tokens path ++ codes "=" ∷ (expr_tokens first ++ codes "," ∷ (expr_tokens test ++ codes "," ∷ (path_tokens stepped ++ for_step_tokens step)))) ++ block_tokens body)
for_shown at path first test stepped step body = process_made (Process-F.For at path first test stepped step body) (process.rolls-For at path first test stepped step body)

pub input_form_shown : (i : Input) → process_tokens (process.Input i) ≡ input_tokens i
input_form_shown i = process_made (Process-F.Input i) (process.rolls-Input i)

pub choice_shown : (at : ℕ) (branches : List Branch) → process_tokens (process.Choice at branches) ≡ flat_map branch_tokens branches
choice_shown at branches =
    process_made (Process-F.Choice at branches) (process.rolls-Choice at branches)
    ∙ mapped_tokens (λ ts. ts) branch_tokens branches

pub output_shown : (operation : Name) (port : Name) (value : Option Expr) (answer : Option Answer) → process_tokens (process.Output operation port value answer) ≡ operation.text ∷ (codes "@" ∷ (port.text ∷ (value_parens value ++ maybe (option_map answer_tokens answer))))
output_shown operation port value None = process_made (Process-F.Output operation port value None) (process.rolls-Output operation port value None)
output_shown operation port value (Some it) = process_made (Process-F.Output operation port value (Some it)) (process.rolls-Output operation port value (Some it))

pub scope_shown : (at : ℕ) (name : Name) (body : Block) → process_tokens (process.Scope at name body) ≡ codes "scope" ∷ (in_parens (name.text ∷ []) ++ block_tokens body)
scope_shown at name body = process_made (Process-F.Scope at name body) (process.rolls-Scope at name body)

pub install_shown : (at : ℕ) (handlers : List Handler) → process_tokens (process.Install at handlers) ≡ codes "install" ∷ in_parens (separated (codes ",") handler_tokens handlers)
install_shown at handlers =
    process_made (Process-F.Install at handlers) (process.rolls-Install at handlers)
    ∙ ap (λ ts. codes "install" ∷ in_parens ts) (mapped_separated (codes ",") (λ ts. ts) handler_tokens handlers)

pub throw_shown : (at : ℕ) (fault : Name) (value : Option Expr) → process_tokens (process.Throw at fault value) ≡ codes "throw" ∷ in_parens (fault.text ∷ thrown_tokens value)
throw_shown at fault value = process_made (Process-F.Throw at fault value) (process.rolls-Throw at fault value)

pub compensate_shown : (at : ℕ) (scope : Name) → process_tokens (process.Compensate at scope) ≡ codes "comp" ∷ in_parens (scope.text ∷ [])
compensate_shown at scope = process_made (Process-F.Compensate at scope) (process.rolls-Compensate at scope)

pub inner_handler_shown : (at : ℕ) → process_tokens (process.InnerHandler at) ≡ codes "cH" ∷ []
inner_handler_shown at = process_made (Process-F.InnerHandler at) (process.rolls-InnerHandler at)

pub block_form_shown : (b : Block) → process_tokens (process.Block b) ≡ block_tokens b
block_form_shown b = process_made (Process-F.Block b) (process.rolls-Block b)

pub sequence_shown : (statements : List Process) → process_tokens (process.Sequence statements) ≡ separated (codes ";") process_tokens statements
sequence_shown statements =
    process_made (Process-F.Sequence statements) (process.rolls-Sequence statements)
    ∙ mapped_separated (codes ";") (λ ts. ts) process_tokens statements

pub parallel_shown : (members : List Process) → process_tokens (process.Parallel members) ≡ separated (codes "|") process_tokens members
parallel_shown members =
    process_made (Process-F.Parallel members) (process.rolls-Parallel members)
    ∙ mapped_separated (codes "|") (λ ts. ts) process_tokens members

-- ---- what an `if` does where its test fails

-- the tokens of what an `if` does where its test fails, by the form that it is made of
otherwise_made : (x : Otherwise-F Otherwise Process Answer Block Branch Handler If Input Reply) {o : Otherwise} → roll-Otherwise x ≡ o
    → otherwise_tokens o ≡ otherwise_level (map-Otherwise Otherwise Process Answer Block Branch Handler If Input Reply (List Token) (List Token) (List Token) (List Token) (List Token) (List Token) (List Token) (List Token) (List Token) otherwise_tokens process_tokens answer_tokens block_tokens branch_tokens handler_tokens if_tokens input_tokens reply_tokens x)
unfolding otherwise_tokens process_tokens answer_tokens block_tokens branch_tokens handler_tokens if_tokens input_tokens reply_tokens
otherwise_made x made = ap otherwise_tokens (sym made) ∙ otherwise_rolls printed x

pub no_else_shown : otherwise_tokens otherwise.Nothing ≡ []
no_else_shown = otherwise_made Otherwise-F.«Otherwise::Nothing» otherwise.rolls-Nothing

pub else_if_shown : (i : If) → otherwise_tokens (otherwise.ElseIf i) ≡ codes "else" ∷ if_tokens i
else_if_shown i = otherwise_made (Otherwise-F.ElseIf i) (otherwise.rolls-ElseIf i)

pub else_shown : (b : Block) → otherwise_tokens (otherwise.Else b) ≡ codes "else" ∷ block_tokens b
else_shown b = otherwise_made (Otherwise-F.Else b) (otherwise.rolls-Else b)

-- ---- the parts of processes

pub block_made : (at : ℕ) (body : Option Process) → block_tokens (roll-Block (record { at = at; body = body })) ≡ in_braces (maybe (option_map process_tokens body))
unfolding answer_tokens block_tokens branch_tokens handler_tokens if_tokens input_tokens otherwise_tokens process_tokens reply_tokens
block_made at None = block_rolls printed (record { at = at; body = None })
block_made at (Some it) = block_rolls printed (record { at = at; body = Some it })

pub block_is : (b : Block) → block_tokens b ≡ in_braces (maybe (option_map process_tokens (out-Block b).body))
block_is b = ap block_tokens (sym (roll-out-Block b)) ∙ block_made (out-Block b).at (out-Block b).body

pub if_is : (i : If) → if_tokens i ≡ codes "if" ∷ (in_parens (expr_tokens (out-If i).test) ++ block_tokens (out-If i).body ++ otherwise_tokens (out-If i).otherwise)
unfolding answer_tokens block_tokens branch_tokens handler_tokens if_tokens input_tokens otherwise_tokens process_tokens reply_tokens
if_is i =
    ap if_tokens (sym (roll-out-If i))
    ∙ conditional_rolls printed (out-If i)

pub input_made : (operation : Name) (request : Option Path) (reply : Option Reply) → input_tokens (roll-Input (record { operation = operation; request = request; reply = reply })) ≡ operation.text ∷ (path_parens request ++ maybe (option_map reply_tokens reply))
unfolding answer_tokens block_tokens branch_tokens handler_tokens if_tokens input_tokens otherwise_tokens process_tokens reply_tokens
input_made operation request None = input_rolls printed (record { operation = operation; request = request; reply = None })
input_made operation request (Some it) = input_rolls printed (record { operation = operation; request = request; reply = Some it })

pub input_is : (i : Input) → input_tokens i ≡ (out-Input i).operation.text ∷ (path_parens (out-Input i).request ++ maybe (option_map reply_tokens (out-Input i).reply))
input_is i = ap input_tokens (sym (roll-out-Input i)) ∙ input_made (out-Input i).operation (out-Input i).request (out-Input i).reply

pub reply_is : (r : Reply) → reply_tokens r ≡ path_parens (out-Reply r).path ++ block_tokens (out-Reply r).body
unfolding answer_tokens block_tokens branch_tokens handler_tokens if_tokens input_tokens otherwise_tokens process_tokens reply_tokens
reply_is r =
    ap reply_tokens (sym (roll-out-Reply r))
    ∙ reply_rolls printed (out-Reply r)

pub branch_is : (b : Branch) → branch_tokens b ≡ in_brackets (input_tokens (out-Branch b).input) ++ block_tokens (out-Branch b).after
unfolding answer_tokens block_tokens branch_tokens handler_tokens if_tokens input_tokens otherwise_tokens process_tokens reply_tokens
branch_is b =
    ap branch_tokens (sym (roll-out-Branch b))
    ∙ branch_rolls printed (out-Branch b)

-- handlers in brackets, if a list is written
abbrev pub bracketed : Option (List Handler) → List Token
bracketed None = []
bracketed (Some handlers) = in_brackets (separated (codes ",") handler_tokens handlers)

pub answer_made : (path : Option Path) (handlers : Option (List Handler)) → answer_tokens (roll-Answer (record { path = path; handlers = handlers })) ≡ path_parens path ++ bracketed handlers
unfolding answer_tokens block_tokens branch_tokens handler_tokens if_tokens input_tokens otherwise_tokens process_tokens reply_tokens
answer_made path None = answer_rolls printed (record { path = path; handlers = None })
answer_made path (Some it) = answer_rolls printed (record { path = path; handlers = Some it }) ∙ ap (λ ts. path_parens path ++ in_brackets ts) (mapped_separated (codes ",") (λ ts. ts) handler_tokens it)

pub answer_is : (a : Answer) → answer_tokens a ≡ path_parens (out-Answer a).path ++ bracketed (out-Answer a).handlers
answer_is a = ap answer_tokens (sym (roll-out-Answer a)) ∙ answer_made (out-Answer a).path (out-Answer a).handlers

pub handler_is : (h : Handler) → handler_tokens h ≡ key_token (out-Handler h).key ∷ (codes "=>" ∷ process_tokens (out-Handler h).body)
unfolding answer_tokens block_tokens branch_tokens handler_tokens if_tokens input_tokens otherwise_tokens process_tokens reply_tokens
handler_is h =
    ap handler_tokens (sym (roll-out-Handler h))
    ∙ handler_rolls printed (out-Handler h)
