-- A run of two calls, each of which has a session of its own and is answered by it.
use Rattle.std.specs.Prelude.{◌≡◌, ℕ, ℤ, pos, true, List, [], ◌∷◌, map, codes}
use Rattle.std.specs.Prelude.{false, Option, None, Some, slice_get}
use Rattle.std.proofs.Common.{refl}
use lib.Utf8.{encode}
use Rattle.std.specs.Fmt.{digits}
use Rattle.std.specs.Str.{is_utf8, chars}
use Rattle.std.specs.Float.Numeral.{scan_numeral}
use Rattle.json.specs.Print.{escape_byte}
use Rattle.json.specs.Json.{value}
use Rattle.json.specs.Lex.{punctuate, lex}
use Rattle.json.specs.Text.{content}
use Rattle.json.specs.Word.{word, after_number}
use Rattle.serde_json.specs.Read.{number_of}
use Rattle.jsonrpc_text.specs.FromJson.{root_name}
use Rattle.jsonrpc_text.specs.Posted.{posted}
use Rattle.jsonrpc_text.specs.Responses.{answer, batch, early_answer}
use Rattle.jolie_trees.specs.declared.root.Root.TheVariants as root
use Rattle.jolie_trees.specs.Data.{node, no_fields}
use Rattle.behaviour_tree.specs.declared.types.RootKind.TheVariants as kinds
use Rattle.behaviour_tree.specs.declared.program.Execution.TheVariants as execution
use Rattle.behaviour_tree.specs.declared.words.Outcome.TheVariants as outcome
use Rattle.behaviour_tree.specs.Data.{plain, no_type_fields, here, step, constant, nothing, assign, choice, no_branches, request, ProgramParts}
use Rattle.office_core.specs.declared.post.PostReply.TheVariants as answer
use Rattle.office_core.specs.declared.history.Act.TheVariants as act
use Rattle.office_core.specs.declared.history.Entry.{Entry}
use Rattle.office_core.specs.Limits.{Setting, run_of, first_worker}
use Rattle.office_core.specs.Accepted.{past_of}
use Rattle.office_core.specs.Legal.{IsLegal}
use Rattle.run_record.specs.Postings.{Post, posts_by, posts_of}
use Rattle.run_record.specs.Order.{finished_at, is_finished}
use Rattle.run_theorem.specs.Texts.{Came, posting_of, response}
use Rattle.run_theorem.specs.RunConnections.{came_with}
use Rattle.test_trials.proofs.Sent.{go, more}

-- the program: go is answered 1, and more is answered 2
abbrev pub program : ProgramParts
program = record {
  types = [];
  interfaces = (record { name = (73 ∷ []); operations = (record { name = (103 ∷ 111 ∷ []); request = (plain kinds.Void no_type_fields); response = (Some (plain kinds.Int no_type_fields)); throws = [] } ∷ record { name = (109 ∷ 111 ∷ 114 ∷ 101 ∷ []); request = (plain kinds.Void no_type_fields); response = (Some (plain kinds.Int no_type_fields)); throws = [] } ∷ []) } ∷ []);
  services = (record { name = (83 ∷ []); execution = execution.Concurrent; ports = (record { name = (73 ∷ 110 ∷ []); input = true; location = (115 ∷ 111 ∷ 99 ∷ 107 ∷ 101 ∷ 116 ∷ 58 ∷ 47 ∷ 47 ∷ 108 ∷ 111 ∷ 99 ∷ 97 ∷ 108 ∷ 104 ∷ 111 ∷ 115 ∷ 116 ∷ 58 ∷ 56 ∷ 48 ∷ 48 ∷ 48 ∷ []); interfaces = (0 ∷ []) } ∷ []); sets = []; init = nothing; main = (choice (request 0 None (Some (step (121 ∷ []) here)) (assign (step (121 ∷ []) here) (constant (root.Int (pos 1)))) nothing (request 1 None (Some (step (121 ∷ []) here)) (assign (step (121 ∷ []) here) (constant (root.Int (pos 2)))) nothing no_branches))) } ∷ []);
  names = ((73 ∷ 79 ∷ 69 ∷ 120 ∷ 99 ∷ 101 ∷ 112 ∷ 116 ∷ 105 ∷ 111 ∷ 110 ∷ []) ∷ (84 ∷ 121 ∷ 112 ∷ 101 ∷ 77 ∷ 105 ∷ 115 ∷ 109 ∷ 97 ∷ 116 ∷ 99 ∷ 104 ∷ []) ∷ (67 ∷ 111 ∷ 114 ∷ 114 ∷ 101 ∷ 108 ∷ 97 ∷ 116 ∷ 105 ∷ 111 ∷ 110 ∷ 69 ∷ 114 ∷ 114 ∷ 111 ∷ 114 ∷ []) ∷ (82 ∷ 101 ∷ 102 ∷ 117 ∷ 115 ∷ 101 ∷ 100 ∷ []) ∷ (85 ∷ 110 ∷ 100 ∷ 101 ∷ 99 ∷ 108 ∷ 97 ∷ 114 ∷ 101 ∷ 100 ∷ 70 ∷ 97 ∷ 117 ∷ 108 ∷ 116 ∷ []) ∷ (69 ∷ 120 ∷ 112 ∷ 114 ∷ 70 ∷ 97 ∷ 117 ∷ 108 ∷ 116 ∷ []) ∷ (72 ∷ 97 ∷ 110 ∷ 100 ∷ 108 ∷ 101 ∷ 114 ∷ 84 ∷ 111 ∷ 111 ∷ 76 ∷ 97 ∷ 114 ∷ 103 ∷ 101 ∷ []) ∷ (83 ∷ 116 ∷ 111 ∷ 114 ∷ 101 ∷ 84 ∷ 111 ∷ 111 ∷ 76 ∷ 97 ∷ 114 ∷ 103 ∷ 101 ∷ []) ∷ (109 ∷ 97 ∷ 105 ∷ 110 ∷ []) ∷ []);
}

-- what its office works by
abbrev pub setting : Setting
setting = run_of program

-- a call of an operation, and the value of its answer
pub record Call : Type 0 where
  pub op : List ℕ
  pub result : ℤ

abbrev pub call_go : Call
call_go = record { op = codes "go"; result = pos 1 }

abbrev pub call_more : Call
call_more = record { op = codes "more"; result = pos 2 }

-- the history of two calls in this order
abbrev pub history_of : Call → Call → List Entry
history_of first second = (
    record { actor = 4096; act = act.Post 0 0 (record { service = 0; op = first.op; value = (node root.Void no_fields) }) (answer.Accepted 0) } ∷
    record { actor = 0; act = act.Adopt 0 } ∷
    record { actor = 0; act = act.Take 0 } ∷
    record { actor = 0; act = act.Reply 0 (outcome.Value (node (root.Int first.result) no_fields)) } ∷
    record { actor = 0; act = act.End } ∷
    record { actor = 4096; act = act.Collect 0 (outcome.Value (node (root.Int first.result) no_fields)) } ∷
    record { actor = 4096; act = act.Post 1 0 (record { service = 0; op = second.op; value = (node root.Void no_fields) }) (answer.Accepted 1) } ∷
    record { actor = 1; act = act.Adopt 0 } ∷
    record { actor = 1; act = act.Take 1 } ∷
    record { actor = 1; act = act.Reply 1 (outcome.Value (node (root.Int second.result) no_fields)) } ∷
    record { actor = 1; act = act.End } ∷
    record { actor = 4096; act = act.Collect 1 (outcome.Value (node (root.Int second.result) no_fields)) } ∷
    record { actor = 4096; act = act.Close } ∷
    record { actor = 4096; act = act.Stop } ∷ [])

-- go and then more
abbrev pub history : List Entry
history = history_of call_go call_more

-- more and then go
abbrev pub another_order : List Entry
another_order = history_of call_more call_go

-- go alone
abbrev pub go_alone : List Entry
go_alone = (
    record { actor = 4096; act = act.Post 0 0 (record { service = 0; op = call_go.op; value = (node root.Void no_fields) }) (answer.Accepted 0) } ∷
    record { actor = 0; act = act.Adopt 0 } ∷
    record { actor = 0; act = act.Take 0 } ∷
    record { actor = 0; act = act.Reply 0 (outcome.Value (node (root.Int call_go.result) no_fields)) } ∷
    record { actor = 0; act = act.End } ∷
    record { actor = 4096; act = act.Collect 0 (outcome.Value (node (root.Int call_go.result) no_fields)) } ∷
    record { actor = 4096; act = act.Close } ∷
    record { actor = 4096; act = act.Stop } ∷ [])

-- both are posted before a session acts
abbrev pub at_once : List Entry
at_once = (
    record { actor = 4096; act = act.Post 0 0 (record { service = 0; op = call_go.op; value = (node root.Void no_fields) }) (answer.Accepted 0) } ∷
    record { actor = 4096; act = act.Post 1 0 (record { service = 0; op = call_more.op; value = (node root.Void no_fields) }) (answer.Accepted 1) } ∷
    record { actor = 0; act = act.Adopt 0 } ∷
    record { actor = 0; act = act.Take 0 } ∷
    record { actor = 0; act = act.Reply 0 (outcome.Value (node (root.Int call_go.result) no_fields)) } ∷
    record { actor = 0; act = act.End } ∷
    record { actor = 1; act = act.Adopt 0 } ∷
    record { actor = 1; act = act.Take 1 } ∷
    record { actor = 1; act = act.Reply 1 (outcome.Value (node (root.Int call_more.result) no_fields)) } ∷
    record { actor = 1; act = act.End } ∷
    record { actor = 4096; act = act.Collect 0 (outcome.Value (node (root.Int call_go.result) no_fields)) } ∷
    record { actor = 4096; act = act.Collect 1 (outcome.Value (node (root.Int call_more.result) no_fields)) } ∷
    record { actor = 4096; act = act.Close } ∷
    record { actor = 4096; act = act.Stop } ∷ [])

pub legal : IsLegal setting history
unfolding encode
legal = (record { allowed = refl; reply = refl }, (record { allowed = refl; reply = refl }, (record { allowed = refl; reply = refl }, (record { allowed = refl; reply = refl }, (record { allowed = refl; reply = refl }, (record { allowed = refl; reply = refl }, (record { allowed = refl; reply = refl }, (record { allowed = refl; reply = refl }, (record { allowed = refl; reply = refl }, (record { allowed = refl; reply = refl }, (record { allowed = refl; reply = refl }, (record { allowed = refl; reply = refl }, (record { allowed = refl; reply = refl }, (record { allowed = refl; reply = refl }, tt))))))))))))))

pub legal_at_once : IsLegal setting at_once
unfolding encode
legal_at_once = (record { allowed = refl; reply = refl }, (record { allowed = refl; reply = refl }, (record { allowed = refl; reply = refl }, (record { allowed = refl; reply = refl }, (record { allowed = refl; reply = refl }, (record { allowed = refl; reply = refl }, (record { allowed = refl; reply = refl }, (record { allowed = refl; reply = refl }, (record { allowed = refl; reply = refl }, (record { allowed = refl; reply = refl }, (record { allowed = refl; reply = refl }, (record { allowed = refl; reply = refl }, (record { allowed = refl; reply = refl }, (record { allowed = refl; reply = refl }, tt))))))))))))))

-- the texts of the answers, and what is to be written
abbrev pub text_go : List ℕ
text_go = codes "{\"id\":1,\"jsonrpc\":\"2.0\",\"result\":1}"

abbrev pub text_more : List ℕ
text_more = codes "{\"id\":2,\"jsonrpc\":\"2.0\",\"result\":2}"

abbrev pub written_go : List ℕ
written_go = codes "HTTP/1.1 200 OK\r\nContent-Type: application/json\r\nContent-Length: 35\r\n\r\n{\"id\":1,\"jsonrpc\":\"2.0\",\"result\":1}"

abbrev pub written_more : List ℕ
written_more = codes "HTTP/1.1 200 OK\r\nContent-Type: application/json\r\nContent-Length: 35\r\n\r\n{\"id\":2,\"jsonrpc\":\"2.0\",\"result\":2}"

-- what comes in with each
abbrev pub came_go : Came
came_go = came_with 0 go

abbrev pub came_more : Came
came_more = came_with 0 more

pub is_posted : posts_by first_worker history ≡ posts_of 0 (map posting_of (came_go ∷ came_more ∷ []))
unfolding digits escape_byte is_utf8 chars encode scan_numeral value punctuate lex content word after_number number_of root_name posted answer batch early_answer
is_posted = refl

-- the responses to the first posting and to the second
pub response_go : Some text_go ≡ response setting (past_of setting history) first_worker 0 came_go
unfolding digits escape_byte is_utf8 chars encode scan_numeral value punctuate lex content word after_number number_of root_name posted answer batch early_answer
response_go = refl

pub response_more : Some text_more ≡ response setting (past_of setting history) first_worker 1 came_more
unfolding digits escape_byte is_utf8 chars encode scan_numeral value punctuate lex content word after_number number_of root_name posted answer batch early_answer
response_more = refl

-- the same where both were posted at once
pub is_posted_at_once : posts_by first_worker at_once ≡ posts_of 0 (map posting_of (came_go ∷ came_more ∷ []))
unfolding digits escape_byte is_utf8 chars encode scan_numeral value punctuate lex content word after_number number_of root_name posted answer batch early_answer
is_posted_at_once = refl

pub response_go_at_once : Some text_go ≡ response setting (past_of setting at_once) first_worker 0 came_go
unfolding digits escape_byte is_utf8 chars encode scan_numeral value punctuate lex content word after_number number_of root_name posted answer batch early_answer
response_go_at_once = refl

pub response_more_at_once : Some text_more ≡ response setting (past_of setting at_once) first_worker 1 came_more
unfolding digits escape_byte is_utf8 chars encode scan_numeral value punctuate lex content word after_number number_of root_name posted answer batch early_answer
response_more_at_once = refl

-- where they are posted one after the other, the first posting is finished before the second
pub go_first : finished_at setting (past_of setting history) first_worker 2 0 ≡ 0
unfolding encode
go_first = refl

-- since it is finished at itself
pub go_early : is_finished setting (past_of setting history) first_worker 0 0 ≡ true
unfolding encode
go_early = refl

-- where both are posted at once, it is not
pub go_open : is_finished setting (past_of setting at_once) first_worker 0 0 ≡ false
unfolding encode
go_open = refl

-- the second post there
abbrev pub post_more : Post
post_more =
    record { posting = 1; index = 0; posted = record { service = 0; op = call_more.op; value = (node root.Void no_fields) } }

pub is_post_more : slice_get (posts_by first_worker at_once) 1 ≡ Some post_more
is_post_more = refl

-- the same where go was posted alone
pub is_posted_alone : posts_by first_worker go_alone ≡ posts_of 0 (map posting_of (came_go ∷ []))
unfolding digits escape_byte is_utf8 chars encode scan_numeral value punctuate lex content word after_number number_of root_name posted answer batch early_answer
is_posted_alone = refl

pub response_go_alone : Some text_go ≡ response setting (past_of setting go_alone) first_worker 0 came_go
unfolding digits escape_byte is_utf8 chars encode scan_numeral value punctuate lex content word after_number number_of root_name posted answer batch early_answer
response_go_alone = refl
