-- The faults and scopes of a file, in the order of the text.
use Rattle.std.specs.Prelude.{List, [], ◌∷◌, ◌++◌, map, flat_map, unwrap_or}
use Rattle.std.specs.Option.{option_map_or}
use Rattle.jolie_ast.specs.declared.interface.Fault.{Fault}
use Rattle.jolie_ast.specs.declared.service.Clause.{Clause}
use Rattle.jolie_ast.specs.declared.service.Clause.TheVariants as clause
use Rattle.jolie_ast.specs.declared.tree.Definition.{Definition}
use Rattle.jolie_ast.specs.declared.tree.Definition.TheVariants as definition
use Rattle.jolie_ast.specs.declared.process.HandlerKey.{HandlerKey}
use Rattle.jolie_ast.specs.declared.process.HandlerKey.TheVariants as key
use Rattle.jolie_ast.specs.declared.process.Otherwise.TheOpen.{Process-F}
use Rattle.jolie_ast.specs.declared.process.Answer.{Answer}
use Rattle.jolie_ast.specs.declared.process.Block.{Block}
use Rattle.jolie_ast.specs.declared.process.Branch.{Branch}
use Rattle.jolie_ast.specs.declared.process.Handler.{Handler}
use Rattle.jolie_ast.specs.declared.process.If.{If}
use Rattle.jolie_ast.specs.declared.process.Input.{Input}
use Rattle.jolie_ast.specs.declared.process.Otherwise.{Otherwise}
use Rattle.jolie_ast.specs.declared.process.Process.{Process}
use Rattle.jolie_ast.specs.declared.process.Reply.{Reply}
use Rattle.jolie_ast.specs.Folds.{ProcessFold, all_are, else_or, fold_process, fold_block, fold_conditional}
use Rattle.jolie_ast.specs.Folds.{fold_otherwise, fold_input, fold_reply, fold_branch, fold_answer, fold_handler}
use Rattle.behaviour_tree.specs.WellFormed.{standard_names}
use Rattle.check_base.specs.Repeated.{firsts, Texts}
use Rattle.check_base.specs.Files.{Operation, operations_in}

-- the texts of parts
abbrev pub all : List Texts → Texts
all parts = flat_map (λ texts. texts) parts

-- the fault that a handler stands under; `this` is no name
abbrev pub key_texts : HandlerKey → Texts
key_texts (key.This at) = []
key_texts (key.Named n) = n.text ∷ []

-- one level of a process: a scope, a throw and a compensation name one
abbrev pub process_level : Process-F Texts Texts Texts Texts Texts Texts Texts Texts Texts → Texts
process_level (Process-F.If conditional) = conditional
process_level (Process-F.While at test body) = body
process_level (Process-F.For at path first test stepped step body) = body
process_level (Process-F.Input input) = input
process_level (Process-F.Choice at branches) = all branches
process_level (Process-F.Output operation port value answer) = unwrap_or answer []
process_level (Process-F.Scope at name body) = name.text ∷ body
process_level (Process-F.Install at handlers) = all handlers
process_level (Process-F.Throw at fault value) = fault.text ∷ []
process_level (Process-F.Compensate at scope) = scope.text ∷ []
process_level (Process-F.Block block) = block
process_level (Process-F.Sequence statements) = all statements
process_level (Process-F.Parallel members) = all members
process_level _ = []

-- what a part names, from what the parts in it name: a handler its key first
abbrev pub mentioned : ProcessFold (all_are Texts)
mentioned = record {
  process = process_level;
  block = λ b. unwrap_or b.body [];
  conditional = λ i. i.body ++ i.otherwise;
  otherwise = else_or [];
  input = λ i. unwrap_or i.reply [];
  reply = λ r. r.body;
  branch = λ b. b.input ++ b.after;
  answer = λ a. option_map_or all a.handlers [];
  handler = λ h. key_texts h.key ++ h.body;
}

-- what a block names
unfoldable pub block_texts : Block → Texts
block_texts = fold_block mentioned

-- what a process names
unfoldable pub process_texts : Process → Texts
process_texts = fold_process mentioned

-- what an `if` names
unfoldable pub conditional_texts : If → Texts
conditional_texts = fold_conditional mentioned

-- what stands in what follows an `if` names
unfoldable pub otherwise_texts : Otherwise → Texts
otherwise_texts = fold_otherwise mentioned

-- what an input names
unfoldable pub input_texts : Input → Texts
input_texts = fold_input mentioned

-- what a reply part names
unfoldable pub reply_texts : Reply → Texts
reply_texts = fold_reply mentioned

-- what a branch names
unfoldable pub branch_texts : Branch → Texts
branch_texts = fold_branch mentioned

-- what an answer to an output names
unfoldable pub answer_texts : Answer → Texts
answer_texts = fold_answer mentioned

-- what a handler names
unfoldable pub handler_texts : Handler → Texts
handler_texts = fold_handler mentioned

-- what a clause names
abbrev pub clause_texts : Clause → Texts
clause_texts (clause.Init at body) = block_texts body
clause_texts (clause.Main at body) = block_texts body
clause_texts _ = []

-- the faults that an operation throws
abbrev pub thrown_by : Operation → Texts
thrown_by o = map (λ (f : Fault). f.name.text) o.throws

-- what a definition names: the faults of an interface's operations, and what the processes of a service name
abbrev pub definition_texts : Definition → Texts
definition_texts (definition.Type ty) = []
definition_texts (definition.Interface i) = flat_map thrown_by (operations_in i)
definition_texts (definition.Service s) = flat_map clause_texts s.clauses

-- the standard faults and main, by which the names begin
unfoldable pub standard : Texts
standard = standard_names

-- the names of a file: the standard ones, and then each other once, in the order of the text
unfoldable pub names_of : List Definition → Texts
names_of file = firsts (standard ++ flat_map definition_texts file)
