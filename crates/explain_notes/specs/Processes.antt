-- What a process mentions.
use Rattle.std.specs.Prelude.{[], ◌∷◌, ◌++◌, map, Option, None, Some, unwrap_or}
use Rattle.jolie_ast.specs.declared.name.Name.{Name}
use Rattle.jolie_ast.specs.declared.process.Otherwise.TheOpen.{Input-F, Process-F}
use Rattle.jolie_ast.specs.declared.process.Block.{Block}
use Rattle.jolie_ast.specs.Folds.{ProcessResults, ProcessFold, level, all_are, else_or, fold_block}
use Rattle.explain_notes.specs.declared.role.Role.TheVariants as role
use Rattle.explain_notes.specs.Mentions.{Seen, mention, around_scope, around_while, calling, in_role, kept_role}
use Rattle.explain_notes.specs.Mentions.{looped_role, scope_role}
use Rattle.explain_notes.specs.Expressions.{expr_mentions, joined, path_walked}
use Rattle.explain_notes.specs.Statements.{assigned_mentions, begun_mentions, handler_mentions_of, if_written}
use Rattle.explain_notes.specs.Statements.{received_mentions, request_mentions, stepped_mentions}

-- what is made of each part of a process: of an input what it mentions before what stands after it, of a reply part
-- what a request with it mentions, by its operation and what it takes
abbrev pub process_results : ProcessResults
process_results = record (all_are Seen) { input = Seen → Seen; reply = Name → Seen → Seen }

-- what a call with an answer mentions: the faults that it may come back with, and what the answer mentions
abbrev pub called_back : Name → Option Seen → Seen
called_back port None = []
called_back port (Some answer) = calling port ++ answer

-- one level of a process, with what its parts mention; nothing stands after an input that stands alone
abbrev pub process_level : level process_results Process-F → Seen
process_level (Process-F.Assign path assignment) = assigned_mentions path assignment
process_level (Process-F.Undef at path) = (path_walked path).indices
process_level (Process-F.Correlate at variable value) = expr_mentions value
process_level (Process-F.If conditional) = conditional
process_level (Process-F.While at test body) = around_while (expr_mentions test ++ body)
process_level (Process-F.For at path first test stepped step body) =
    begun_mentions path first test ++ (stepped_mentions stepped step ++ map (in_role looped_role) body)
process_level (Process-F.Input input) = input []
process_level (Process-F.Choice at branches) = joined branches
process_level (Process-F.Output operation port value answer) =
    mention role.SentTo port ∷ (if_written expr_mentions value ++ called_back port answer)
process_level (Process-F.Scope at name body) = mention (scope_role body) name ∷ around_scope body
process_level (Process-F.Install at handlers) = joined handlers
process_level (Process-F.Throw at fault value) = mention role.Thrown fault ∷ if_written expr_mentions value
process_level (Process-F.Compensate at scope) = mention role.Compensated scope ∷ []
process_level (Process-F.Block block) = block
process_level (Process-F.Sequence statements) = joined statements
process_level (Process-F.Parallel members) = joined members
process_level _ = []

-- one level of an input, with what stands after it
abbrev pub input_level : level process_results Input-F → Seen → Seen
input_level i after = elim i.reply [
  | None ↦ mention role.Taken i.operation ∷ (received_mentions i.request ++ map (in_role kept_role) after)
  | Some reply ↦ mention role.Taken i.operation ∷ (reply i.operation (received_mentions i.request) ++ after)
]

-- what a part mentions, from what the parts in it mention: an input before what comes after
abbrev pub process_seen : ProcessFold process_results
process_seen = record {
  process = process_level;
  block = λ b. unwrap_or b.body [];
  conditional = λ i. expr_mentions i.test ++ (i.body ++ i.otherwise);
  otherwise = else_or [];
  input = input_level;
  reply = λ r operation taken. request_mentions operation r.path (taken ++ r.body);
  branch = λ b. b.input b.after;
  answer = λ a. received_mentions a.path ++ joined (unwrap_or a.handlers []);
  handler = λ h. handler_mentions_of h.key h.body;
}

-- what a block mentions
unfoldable pub block_mentions : Block → Seen
block_mentions = fold_block process_seen
