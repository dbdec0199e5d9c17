-- The tokens of a process.
use Rattle.std.specs.Prelude.{[], ◌∷◌, ◌++◌, flat_map, Option, option_map, unwrap_or, codes}
use Rattle.std.specs.Option.{option_map_or}
use Rattle.jolie_ast.specs.declared.expression.Expr.{Expr}
use Rattle.jolie_ast.specs.declared.expression.Path.{Path}
use Rattle.jolie_ast.specs.declared.process.Assignment.{Assignment}
use Rattle.jolie_ast.specs.declared.process.Assignment.TheVariants as assignment
use Rattle.jolie_ast.specs.declared.process.Count.{Count}
use Rattle.jolie_ast.specs.declared.process.Count.TheVariants as count
use Rattle.jolie_ast.specs.declared.process.ForStep.{ForStep}
use Rattle.jolie_ast.specs.declared.process.ForStep.TheVariants as for_step
use Rattle.jolie_ast.specs.declared.process.HandlerKey.{HandlerKey}
use Rattle.jolie_ast.specs.declared.process.HandlerKey.TheVariants as key
use Rattle.jolie_ast.specs.declared.process.Otherwise.TheOpen.{Answer-F, Otherwise-F, Process-F}
use Rattle.jolie_ast.specs.declared.process.Process.{Process}
use Rattle.jolie_ast.specs.declared.process.Block.{Block}
use Rattle.jolie_ast.specs.declared.process.If.{If}
use Rattle.jolie_ast.specs.declared.process.Otherwise.{Otherwise}
use Rattle.jolie_ast.specs.declared.process.Input.{Input}
use Rattle.jolie_ast.specs.declared.process.Reply.{Reply}
use Rattle.jolie_ast.specs.declared.process.Branch.{Branch}
use Rattle.jolie_ast.specs.declared.process.Answer.{Answer}
use Rattle.jolie_ast.specs.declared.process.Handler.{Handler}
use Rattle.jolie_ast.specs.Spacing.{Token, Tokens, separated}
use Rattle.jolie_ast.specs.Folds.{ProcessFold, all_are, fold_process, fold_block, fold_conditional, fold_otherwise}
use Rattle.jolie_ast.specs.Folds.{fold_input, fold_reply, fold_branch, fold_answer, fold_handler}
use Rattle.jolie_ast.specs.PrintedExpressions.{in_parens, in_brackets, in_braces, expr_tokens, path_tokens}

-- the sign of a count: `++` or `--`
abbrev pub count_token : Count → Token
count_token count.Up = codes "++"
count_token count.Down = codes "--"

-- what is done to a path
abbrev pub assignment_tokens : Assignment → Tokens
assignment_tokens (assignment.Root value) = codes "=" ∷ expr_tokens value
assignment_tokens (assignment.Copy value) = codes "<<" ∷ expr_tokens value
assignment_tokens (assignment.Count count) = count_token count ∷ []

-- what the last part of a `for` does to its path
abbrev pub for_step_tokens : ForStep → Tokens
for_step_tokens (for_step.Root value) = codes "=" ∷ expr_tokens value
for_step_tokens (for_step.Count count) = count_token count ∷ []

-- what a handler stands under: `this` or a name
abbrev pub key_token : HandlerKey → Token
key_token (key.This at) = codes "this"
key_token (key.Named name) = name.text

-- a path in parentheses, if one is written
abbrev pub path_parens : Option Path → Tokens
path_parens path = in_parens (unwrap_or (option_map path_tokens path) [])

-- a value in parentheses, if one is written
abbrev pub value_parens : Option Expr → Tokens
value_parens value = in_parens (unwrap_or (option_map expr_tokens value) [])

-- the data of a `throw` behind a comma, if any is written
abbrev pub thrown_tokens : Option Expr → Tokens
thrown_tokens value = option_map_or (λ written. codes "," ∷ expr_tokens written) value []

-- one level of a process, with the tokens of its parts
abbrev pub process_level : Process-F Tokens Tokens Tokens Tokens Tokens Tokens Tokens Tokens Tokens → Tokens
process_level (Process-F.«Process::Nothing» at) = codes "nullProcess" ∷ []
process_level (Process-F.Assign path assignment) = path_tokens path ++ assignment_tokens assignment
process_level (Process-F.Undef at path) = codes "undef" ∷ in_parens (path_tokens path)
process_level (Process-F.Correlate at variable value) =
    codes "csets" ∷ (codes "." ∷ (variable.text ∷ (codes "=" ∷ expr_tokens value)))
process_level (Process-F.If conditional) = conditional
process_level (Process-F.While at test body) = codes "while" ∷ (in_parens (expr_tokens test) ++ body)
process_level (Process-F.For at path first test stepped step body) =
    codes "for"
    ∷ (in_parens (path_tokens path ++ codes "="
    ∷ (expr_tokens first ++ codes ","
    ∷ (expr_tokens test ++ codes ","
    ∷ (path_tokens stepped ++ for_step_tokens step))))
    ++ body)
process_level (Process-F.Input input) = input
process_level (Process-F.Choice at branches) = flat_map (λ ts. ts) branches
process_level (Process-F.Output operation port value answer) =
    operation.text ∷ (codes "@" ∷ (port.text ∷ (value_parens value ++ unwrap_or answer [])))
process_level (Process-F.Scope at name body) = codes "scope" ∷ (in_parens (name.text ∷ []) ++ body)
process_level (Process-F.Install at handlers) = codes "install" ∷ in_parens (separated (codes ",") (λ ts. ts) handlers)
process_level (Process-F.Throw at fault value) = codes "throw" ∷ in_parens (fault.text ∷ thrown_tokens value)
process_level (Process-F.Compensate at scope) = codes "comp" ∷ in_parens (scope.text ∷ [])
process_level (Process-F.InnerHandler at) = codes "cH" ∷ []
process_level (Process-F.Block block) = block
process_level (Process-F.Sequence statements) = separated (codes ";") (λ ts. ts) statements
process_level (Process-F.Parallel members) = separated (codes "|") (λ ts. ts) members

-- one level of what an `if` does where its test fails
abbrev pub otherwise_level : Otherwise-F Tokens Tokens Tokens Tokens Tokens Tokens Tokens Tokens Tokens → Tokens
otherwise_level Otherwise-F.«Otherwise::Nothing» = []
otherwise_level (Otherwise-F.ElseIf conditional) = codes "else" ∷ conditional
otherwise_level (Otherwise-F.Else block) = codes "else" ∷ block

-- one level of what an output awaits: a path, and handlers in brackets, if a list is written
abbrev pub answer_level : Answer-F Tokens Tokens Tokens Tokens Tokens Tokens Tokens Tokens Tokens → Tokens
answer_level a =
    path_parens a.path
    ++ option_map_or (λ handlers. in_brackets (separated (codes ",") (λ ts. ts) handlers)) a.handlers []

-- the tokens of a part, from those of the parts in it: a block is in braces, the input of a branch in brackets
abbrev pub printed : ProcessFold (all_are Tokens)
printed = record {
  process = process_level;
  block = λ b. in_braces (unwrap_or b.body []);
  conditional = λ i. codes "if" ∷ (in_parens (expr_tokens i.test) ++ i.body ++ i.otherwise);
  otherwise = otherwise_level;
  input = λ i. i.operation.text ∷ (path_parens i.request ++ unwrap_or i.reply []);
  reply = λ r. path_parens r.path ++ r.body;
  branch = λ b. in_brackets b.input ++ b.after;
  answer = answer_level;
  handler = λ h. key_token h.key ∷ (codes "=>" ∷ h.body);
}

-- the tokens of a process
unfoldable pub process_tokens : Process → Tokens
process_tokens = fold_process printed

-- the tokens of a block
unfoldable pub block_tokens : Block → Tokens
block_tokens = fold_block printed

-- the tokens of an `if`
unfoldable pub if_tokens : If → Tokens
if_tokens = fold_conditional printed

-- the tokens of what an `if` does where its test fails
unfoldable pub otherwise_tokens : Otherwise → Tokens
otherwise_tokens = fold_otherwise printed

-- the tokens of an input
unfoldable pub input_tokens : Input → Tokens
input_tokens = fold_input printed

-- the tokens of a reply part
unfoldable pub reply_tokens : Reply → Tokens
reply_tokens = fold_reply printed

-- the tokens of a branch
unfoldable pub branch_tokens : Branch → Tokens
branch_tokens = fold_branch printed

-- the tokens of what an output awaits
unfoldable pub answer_tokens : Answer → Tokens
answer_tokens = fold_answer printed

-- the tokens of a handler
unfoldable pub handler_tokens : Handler → Tokens
handler_tokens = fold_handler printed
