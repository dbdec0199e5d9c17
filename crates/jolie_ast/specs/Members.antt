-- How many members the parallels of a file have in all, and how many they may have.
use Rattle.std.specs.Prelude.{ℕ, ◌+◌, List, length, sum, sum_by, Option, Some, None}
use Rattle.jolie_ast.specs.declared.process.Otherwise.TheOpen.{Process-F}
use Rattle.jolie_ast.specs.declared.process.Process.{Process}
use Rattle.jolie_ast.specs.declared.process.Block.{Block}
use Rattle.jolie_ast.specs.declared.process.If.{If}
use Rattle.jolie_ast.specs.declared.process.Otherwise.{Otherwise}
use Rattle.jolie_ast.specs.declared.process.Input.{Input}
use Rattle.jolie_ast.specs.declared.process.Reply.{Reply}
use Rattle.jolie_ast.specs.declared.process.Branch.{Branch}
use Rattle.jolie_ast.specs.declared.process.Answer.{Answer}
use Rattle.jolie_ast.specs.declared.process.Handler.{Handler}
use Rattle.jolie_ast.specs.declared.service.Clause.{Clause}
use Rattle.jolie_ast.specs.declared.service.Clause.TheVariants as clause
use Rattle.jolie_ast.specs.declared.tree.Definition.{Definition}
use Rattle.jolie_ast.specs.declared.tree.Definition.TheVariants as definition
use Rattle.jolie_ast.specs.Folds.{ProcessFold, all_are, else_or, fold_process, fold_block, fold_conditional}
use Rattle.jolie_ast.specs.Folds.{fold_otherwise, fold_input, fold_reply, fold_branch, fold_answer, fold_handler}

-- the most members that the parallels of a file have in all
abbrev pub most_members : ℕ
most_members = 1048576

-- what an optional part counts
abbrev pub optional_count : Option ℕ → ℕ
optional_count None = 0
optional_count (Some n) = n

-- what an optional list of parts counts
abbrev pub optional_sum : Option (List ℕ) → ℕ
optional_sum None = 0
optional_sum (Some ns) = sum ns

-- one level of a process, with what its parts count: a parallel counts its members and what is in them
abbrev pub process_level : Process-F ℕ ℕ ℕ ℕ ℕ ℕ ℕ ℕ ℕ → ℕ
process_level (Process-F.«Process::Nothing» at) = 0
process_level (Process-F.Assign path assignment) = 0
process_level (Process-F.Undef at path) = 0
process_level (Process-F.Correlate at variable value) = 0
process_level (Process-F.If n) = n
process_level (Process-F.While at test body) = body
process_level (Process-F.For at path first test stepped step body) = body
process_level (Process-F.Input n) = n
process_level (Process-F.Choice at branches) = sum branches
process_level (Process-F.Output operation port value answer) = optional_count answer
process_level (Process-F.Scope at name body) = body
process_level (Process-F.Install at handlers) = sum handlers
process_level (Process-F.Throw at fault value) = 0
process_level (Process-F.Compensate at scope) = 0
process_level (Process-F.InnerHandler at) = 0
process_level (Process-F.Block n) = n
process_level (Process-F.Sequence ns) = sum ns
process_level (Process-F.Parallel ns) = length ns + sum ns

-- how many members the parallels in a part have in all, from those of the parts in it
abbrev pub members : ProcessFold (all_are ℕ)
members = record {
  process = process_level;
  block = λ b. optional_count b.body;
  conditional = λ i. i.body + i.otherwise;
  otherwise = else_or 0;
  input = λ i. optional_count i.reply;
  reply = λ r. r.body;
  branch = λ b. b.input + b.after;
  answer = λ a. optional_sum a.handlers;
  handler = λ h. h.body;
}

-- how many members the parallels in a process have in all
unfoldable pub process_members : Process → ℕ
process_members = fold_process members

-- those in a block
unfoldable pub block_members : Block → ℕ
block_members = fold_block members

-- those in an `if`
unfoldable pub if_members : If → ℕ
if_members = fold_conditional members

-- those in what an `if` does where its test fails
unfoldable pub otherwise_members : Otherwise → ℕ
otherwise_members = fold_otherwise members

-- those in an input
unfoldable pub input_members : Input → ℕ
input_members = fold_input members

-- those in a reply part
unfoldable pub reply_members : Reply → ℕ
reply_members = fold_reply members

-- those in a branch
unfoldable pub branch_members : Branch → ℕ
branch_members = fold_branch members

-- those in what an output awaits
unfoldable pub answer_members : Answer → ℕ
answer_members = fold_answer members

-- those in a handler
unfoldable pub handler_members : Handler → ℕ
handler_members = fold_handler members

-- those in a clause of a service
abbrev pub clause_members : Clause → ℕ
clause_members (clause.Init at body) = block_members body
clause_members (clause.Main at body) = block_members body
clause_members (clause.Execution at execution) = 0
clause_members (clause.InputPort port) = 0
clause_members (clause.OutputPort port) = 0
clause_members (clause.CorrelationSet at variables) = 0

-- those in a definition
abbrev pub definition_members : Definition → ℕ
definition_members (definition.Service s) = sum_by clause_members s.clauses
definition_members (definition.Type t) = 0
definition_members (definition.Interface i) = 0

-- how many members the parallels of a file have in all
abbrev pub parallel_members : List Definition → ℕ
parallel_members definitions = sum_by definition_members definitions
