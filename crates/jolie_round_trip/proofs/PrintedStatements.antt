-- How the parts of processes are printed.
use Rattle.std.proofs.Common.{◌≡◌, ℕ, List, ◌∷◌, ◌++◌, Option, Some, None, codes, ap, ◌∙◌}
use Rattle.std.specs.Prelude.{option_map}
use Rattle.jolie_ast.specs.declared.expression.Expr.{Expr}
use Rattle.jolie_ast.specs.declared.expression.Path.{Path}
use Rattle.jolie_ast.specs.declared.process.HandlerKey.{HandlerKey}
use Rattle.jolie_ast.specs.declared.process.Process.{Process}
use Rattle.jolie_ast.specs.declared.process.Block.{Block}
use Rattle.jolie_ast.specs.declared.process.If.{roll-If}
use Rattle.jolie_ast.specs.declared.process.Otherwise.{Otherwise}
use Rattle.jolie_ast.specs.declared.process.Input.{Input}
use Rattle.jolie_ast.specs.declared.process.Reply.{roll-Reply}
use Rattle.jolie_ast.specs.declared.process.Branch.{roll-Branch}
use Rattle.jolie_ast.specs.declared.process.Answer.{roll-Answer}
use Rattle.jolie_ast.specs.declared.process.Handler.{Handler, roll-Handler}
use Rattle.jolie_ast.specs.Spacing.{separated}
use Rattle.jolie_ast.specs.PrintedExpressions.{in_parens, in_brackets, expr_tokens}
use Rattle.jolie_ast.specs.PrintedParts.{maybe}
use Rattle.jolie_ast.specs.PrintedProcesses.{key_token, path_parens, process_tokens, block_tokens, if_tokens, otherwise_tokens, input_tokens, reply_tokens, branch_tokens, answer_tokens, handler_tokens, printed}
use Rattle.jolie_ast.proofs.Spacing.{mapped_separated}
use Rattle.jolie_ast.proofs.Folds.{conditional_rolls, reply_rolls, branch_rolls, answer_rolls, handler_rolls}

pub if_printed : (at : ℕ) (test : Expr) (body : Block) (rest : Otherwise) → if_tokens (roll-If (record { at = at; test = test; body = body; otherwise = rest })) ≡ codes "if" ∷ (in_parens (expr_tokens test) ++ block_tokens body ++ otherwise_tokens rest)
unfolding process_tokens block_tokens if_tokens otherwise_tokens input_tokens reply_tokens branch_tokens answer_tokens handler_tokens
if_printed at test body rest = conditional_rolls printed (record { at = at; test = test; body = body; otherwise = rest })

pub reply_printed : (path : Option Path) (body : Block) → reply_tokens (roll-Reply (record { path = path; body = body })) ≡ path_parens path ++ block_tokens body
unfolding process_tokens block_tokens if_tokens otherwise_tokens input_tokens reply_tokens branch_tokens answer_tokens handler_tokens
reply_printed path body = reply_rolls printed (record { path = path; body = body })

pub branch_printed : (at : ℕ) (input : Input) (after : Block) → branch_tokens (roll-Branch (record { at = at; input = input; after = after })) ≡ in_brackets (input_tokens input) ++ block_tokens after
unfolding process_tokens block_tokens if_tokens otherwise_tokens input_tokens reply_tokens branch_tokens answer_tokens handler_tokens
branch_printed at input after = branch_rolls printed (record { at = at; input = input; after = after })

pub answer_printed : (path : Option Path) (handlers : Option (List Handler)) → answer_tokens (roll-Answer (record { path = path; handlers = handlers })) ≡ path_parens path ++ maybe (option_map (λ hs. in_brackets (separated (codes ",") handler_tokens hs)) handlers)
unfolding process_tokens block_tokens if_tokens otherwise_tokens input_tokens reply_tokens branch_tokens answer_tokens handler_tokens
answer_printed path None = answer_rolls printed (record { path = path; handlers = None })
answer_printed path (Some it) = answer_rolls printed (record { path = path; handlers = Some it }) ∙ ap (λ ts. path_parens path ++ in_brackets ts) (mapped_separated (codes ",") (λ ts. ts) handler_tokens it)

pub handler_printed : (key : HandlerKey) (body : Process) → handler_tokens (roll-Handler (record { key = key; body = body })) ≡ key_token key ∷ (codes "=>" ∷ process_tokens body)
unfolding process_tokens block_tokens if_tokens otherwise_tokens input_tokens reply_tokens branch_tokens answer_tokens handler_tokens
handler_printed key body = handler_rolls printed (record { key = key; body = body })
