-- What is refused of the parts of a process, what they mean, what they name and whether they are formed, where they are made of their own parts.
use Rattle.std.proofs.Common.{◌≡◌, ℕ, Bool, true, List, ◌++◌, map, Option, None, Some, ap, sym, ◌∙◌}
use Rattle.std.specs.Prelude.{◌&&◌, is_some, option_map}
use Rattle.jolie_ast.specs.declared.name.Name.{Name}
use Rattle.jolie_ast.specs.declared.expression.Expr.{Expr}
use Rattle.jolie_ast.specs.declared.expression.Path.{Path}
use Rattle.jolie_ast.specs.declared.process.HandlerKey.{HandlerKey}
use Rattle.jolie_ast.specs.declared.process.Otherwise.TheOpen.{Process-F}
use Rattle.jolie_ast.specs.declared.process.Otherwise.TheFolds.{map-Process}
use Rattle.jolie_ast.specs.declared.process.Otherwise.{Otherwise}
use Rattle.jolie_ast.specs.declared.process.Process.{Process, roll-Process}
use Rattle.jolie_ast.specs.declared.process.Answer.{Answer, roll-Answer}
use Rattle.jolie_ast.specs.declared.process.Block.{Block}
use Rattle.jolie_ast.specs.declared.process.Branch.{Branch, roll-Branch}
use Rattle.jolie_ast.specs.declared.process.Handler.{Handler, roll-Handler}
use Rattle.jolie_ast.specs.declared.process.If.{If, roll-If}
use Rattle.jolie_ast.specs.declared.process.Input.{Input, roll-Input}
use Rattle.jolie_ast.specs.declared.process.Reply.{Reply, roll-Reply}
use Rattle.jolie_ast.specs.Formed as tree
use Rattle.jolie_ast.specs.Formed.{each, option_all, path_formed, process_formed, block_formed, if_formed, otherwise_formed, input_formed, reply_formed, branch_formed, answer_formed, handler_formed}
use Rattle.behaviour_tree.specs.Data as plain
use Rattle.lower_processes.specs.Behaviours as means
use Rattle.lower_processes.specs.Behaviours.{Numbering, branch_after, key_of, lowered_process, lowered_conditional, lowered_otherwise, lowered_input, lowered_reply, lowered_branch, lowered_answer, lowered_handler, lowered_block}
use Rattle.lower_processes.specs.Expressions.{lowered_expr, lowered_path}
use Rattle.service_check.specs.Mentioned as named
use Rattle.service_check.specs.Mentioned.{key_texts, process_texts, conditional_texts, otherwise_texts, input_texts, reply_texts, branch_texts, answer_texts, handler_texts, block_texts}
use Rattle.check_processes.specs.ProcessRules as rules
use Rattle.check_processes.specs.Surroundings.{Surroundings}
use Rattle.check_processes.specs.ProcessRules.{Found, InputFound, HandlerFound, used, wrong_if_written, process_refused, block_refused}
use Rattle.check_processes.specs.ProcessParts.{answer_handlers_refused, answer_refused, branch_refused, conditional_refused, handler_refused, input_refused, otherwise_refused, reply_if_written, reply_refused}
use Rattle.check_processes.proofs.ProcessForms as forms
use Rattle.jolie_ast.proofs.Folds.{process_rolls, answer_rolls, conditional_rolls, reply_rolls, branch_rolls, handler_rolls}

-- ---- what is refused

pub input_rolled : (e : Surroundings) (operation : Name) (request : Option Path) (reply : Option Reply) (h : Bool) → input_refused e (roll-Input (record { operation = operation; request = request; reply = reply })) h ≡ used e.inputs operation (is_some reply) ++ wrong_if_written request ++ reply_if_written e reply h
input_rolled e operation request reply h = sym (forms.input_is e (roll-Input (record { operation = operation; request = request; reply = reply })) h) ∙ forms.input_made e operation request reply h

pub answer_rolled : (e : Surroundings) (path : Option Path) (fs : Option (List Handler)) → answer_refused e (roll-Answer (record { path = path; handlers = fs })) ≡ wrong_if_written path ++ answer_handlers_refused e fs
answer_rolled e path fs = sym (forms.answer_is e (roll-Answer (record { path = path; handlers = fs })) true) ∙ forms.answer_made e path fs true

pub reply_rolled : (e : Surroundings) (path : Option Path) (body : Block) (h : Bool) → reply_refused e (roll-Reply (record { path = path; body = body })) h ≡ wrong_if_written path ++ block_refused e body h
unfolding process_refused block_refused conditional_refused otherwise_refused
reply_rolled e path body h =
    sym (forms.reply_is e (roll-Reply (record { path = path; body = body })) h) ∙ ap (λ (f : Found). f h) (reply_rolls (rules.parts_refused e) (record { path = path; body = body }))

pub branch_rolled : (e : Surroundings) (at : ℕ) (input : Input) (after : Block) (h : Bool) → branch_refused e (roll-Branch (record { at = at; input = input; after = after })) h ≡ input_refused e input h ++ block_refused e after h
unfolding process_refused block_refused conditional_refused otherwise_refused
branch_rolled e at input after h =
    sym (forms.branch_is e (roll-Branch (record { at = at; input = input; after = after })) h)
    ∙ ap (λ (f : InputFound). f.found h) (branch_rolls (rules.parts_refused e) (record { at = at; input = input; after = after }))
    ∙ ap (λ rs. rs ++ block_refused e after h) (forms.input_is e input h)

pub handler_rolled : (e : Surroundings) (key : HandlerKey) (body : Process) → handler_refused e (roll-Handler (record { key = key; body = body })) ≡ process_refused e body true
unfolding process_refused block_refused conditional_refused otherwise_refused
handler_rolled e key body =
    sym (ap (λ (f : HandlerFound). f.found true) (forms.handler_is e (roll-Handler (record { key = key; body = body }))))
    ∙ ap (λ (f : HandlerFound). f.found true) (handler_rolls (rules.parts_refused e) (record { key = key; body = body }))

pub if_rolled : (e : Surroundings) (at : ℕ) (test : Expr) (body : Block) (rest : Otherwise) (h : Bool) → conditional_refused e (roll-If (record { at = at; test = test; body = body; otherwise = rest })) h ≡ block_refused e body h ++ otherwise_refused e rest h
unfolding process_refused block_refused conditional_refused otherwise_refused
if_rolled e at test body rest h = ap (λ (f : Found). f h) (conditional_rolls (rules.parts_refused e) (record { at = at; test = test; body = body; otherwise = rest }))

-- ---- what is meant

pub reply_lowered : (m : Numbering) (path : Option Path) (body : Block) → lowered_reply m (roll-Reply (record { path = path; body = body })) ≡ record { path = option_map lowered_path path; body = lowered_block m body }
unfolding lowered_process lowered_conditional lowered_otherwise lowered_input lowered_reply lowered_branch lowered_answer lowered_handler lowered_block
reply_lowered m path body = reply_rolls (means.lowering m) (record { path = path; body = body })

pub branch_lowered : (m : Numbering) (at : ℕ) (input : Input) (after : Block) → lowered_branch m (roll-Branch (record { at = at; input = input; after = after })) ≡ branch_after (lowered_input m input) (lowered_block m after)
unfolding lowered_process lowered_conditional lowered_otherwise lowered_input lowered_reply lowered_branch lowered_answer lowered_handler lowered_block
branch_lowered m at input after = branch_rolls (means.lowering m) (record { at = at; input = input; after = after })

pub handler_lowered : (m : Numbering) (key : HandlerKey) (body : Process) → lowered_handler m (roll-Handler (record { key = key; body = body })) ≡ record { key = key_of m.names key; body = lowered_process m body }
unfolding lowered_process lowered_conditional lowered_otherwise lowered_input lowered_reply lowered_branch lowered_answer lowered_handler lowered_block
handler_lowered m key body = handler_rolls (means.lowering m) (record { key = key; body = body })

pub if_lowered : (m : Numbering) (at : ℕ) (test : Expr) (body : Block) (rest : Otherwise) → lowered_conditional m (roll-If (record { at = at; test = test; body = body; otherwise = rest })) ≡ plain.choose (lowered_expr test) (lowered_block m body) (lowered_otherwise m rest)
unfolding lowered_process lowered_conditional lowered_otherwise lowered_input lowered_reply lowered_branch lowered_answer lowered_handler lowered_block
if_lowered m at test body rest = conditional_rolls (means.lowering m) (record { at = at; test = test; body = body; otherwise = rest })

-- ---- what is named

pub reply_names : (path : Option Path) (body : Block) → reply_texts (roll-Reply (record { path = path; body = body })) ≡ block_texts body
unfolding process_texts conditional_texts otherwise_texts input_texts reply_texts branch_texts answer_texts handler_texts block_texts
reply_names path body = reply_rolls named.mentioned (record { path = path; body = body })

pub branch_names : (at : ℕ) (input : Input) (after : Block) → branch_texts (roll-Branch (record { at = at; input = input; after = after })) ≡ input_texts input ++ block_texts after
unfolding process_texts conditional_texts otherwise_texts input_texts reply_texts branch_texts answer_texts handler_texts block_texts
branch_names at input after = branch_rolls named.mentioned (record { at = at; input = input; after = after })

pub handler_names : (key : HandlerKey) (body : Process) → handler_texts (roll-Handler (record { key = key; body = body })) ≡ key_texts key ++ process_texts body
unfolding process_texts conditional_texts otherwise_texts input_texts reply_texts branch_texts answer_texts handler_texts block_texts
handler_names key body = handler_rolls named.mentioned (record { key = key; body = body })

pub if_names : (at : ℕ) (test : Expr) (body : Block) (rest : Otherwise) → conditional_texts (roll-If (record { at = at; test = test; body = body; otherwise = rest })) ≡ block_texts body ++ otherwise_texts rest
unfolding process_texts conditional_texts otherwise_texts input_texts reply_texts branch_texts answer_texts handler_texts block_texts
if_names at test body rest = conditional_rolls named.mentioned (record { at = at; test = test; body = body; otherwise = rest })

-- ---- what is formed

-- one level of a process
abbrev pub shape_of : Process-F Otherwise Process Answer Block Branch Handler If Input Reply → Bool
shape_of f = tree.process_level (map-Process Otherwise Process Answer Block Branch Handler If Input Reply Bool Bool Bool Bool Bool Bool Bool Bool Bool otherwise_formed process_formed answer_formed block_formed branch_formed handler_formed if_formed input_formed reply_formed f)

pub process_forms : (f : Process-F Otherwise Process Answer Block Branch Handler If Input Reply) → process_formed (roll-Process f) ≡ shape_of f
unfolding process_formed block_formed if_formed otherwise_formed input_formed reply_formed branch_formed answer_formed handler_formed
process_forms f = process_rolls tree.processes_formed f

pub answer_forms : (path : Option Path) (fs : Option (List Handler)) → answer_formed (roll-Answer (record { path = path; handlers = fs })) ≡ (option_all path_formed path && option_all (λ hs. each (map handler_formed hs)) fs)
unfolding process_formed block_formed if_formed otherwise_formed input_formed reply_formed branch_formed answer_formed handler_formed
answer_forms path None = answer_rolls tree.processes_formed (record { path = path; handlers = None })
answer_forms path (Some fs) = answer_rolls tree.processes_formed (record { path = path; handlers = Some fs })
