-- A request over a connection whose session waits: it is answered by the stop.
use Rattle.std.specs.Prelude.{◌≡◌, ℕ, zero, suc, true, false, List, [], ◌∷◌, take, length, map, count_by, codes}
use Rattle.std.specs.Prelude.{Option, None, Some, slice_get}
use Rattle.std.proofs.Common.{refl, sym, subst}
use Rattle.std.proofs.lemmas.Option.{none-some, same_Some}
use lib.Utf8.{encode}
use Rattle.std.specs.Fmt.{digits}
use Rattle.std.specs.Str.{is_utf8, chars}
use Rattle.std.specs.Float.Numeral.{scan_numeral}
use Rattle.json.specs.Print.{escape_byte}
use Rattle.json.specs.Json.{value}
use Rattle.json.specs.Lex.{punctuate, lex}
use Rattle.json.specs.Text.{content}
use Rattle.json.specs.Word.{word, after_number}
use Rattle.serde_json.specs.Read.{number_of}
use Rattle.jsonrpc_text.specs.FromJson.{root_name}
use Rattle.jsonrpc_text.specs.Posted.{posted}
use Rattle.jsonrpc_text.specs.Responses.{answer, batch, early_answer}
use Rattle.jolie_trees.specs.declared.root.Root.TheVariants as root
use Rattle.jolie_trees.specs.Data.{node, no_fields}
use Rattle.behaviour_tree.specs.declared.types.RootKind.TheVariants as kinds
use Rattle.behaviour_tree.specs.declared.program.Execution.TheVariants as execution
use Rattle.behaviour_tree.specs.declared.words.Outcome.TheVariants as outcome
use Rattle.behaviour_tree.specs.declared.words.Reason.TheVariants as reason
use Rattle.behaviour_tree.specs.Data.{plain, no_type_fields, here, step, nothing, choice, no_branches, one_way, request, ProgramParts}
use Rattle.office_core.specs.declared.post.PostReply.TheVariants as answer
use Rattle.office_core.specs.declared.history.Act.TheVariants as act
use Rattle.office_core.specs.declared.history.Entry.{Entry}
use Rattle.office_core.specs.Limits.{Setting, run_of, first_worker}
use Rattle.office_core.specs.Accepted.{past_of}
use Rattle.run_theorem.specs.Exchange.{Asked}
use Rattle.run_theorem.specs.Calls.{is_of}
use Rattle.run_record.specs.Postings.{posts_by, posts_of}
use Rattle.run_theorem.specs.Texts.{Came, posting_of, response}
use Rattle.http_port.specs.declared.head_reader.Fed.{Fed}
use Rattle.http_port.specs.declared.head_reader.Fed.TheVariants.{Request}
use Rattle.run_theorem.specs.RunConnections.{RunConnection, came_with, AreTaken, HasPassed}
use Rattle.run_theorem.specs.Served.{AreResponses, IsServed}
use Rattle.test_trials.proofs.Sent.{go, read_go, gives_go}
use Rattle.test_trials.proofs.Parts.{read_on, passed_on, IsTextAt, text_at, told_responses, one_alone, early_alone}

-- the program
abbrev pub program : ProgramParts
program = record {
  types = [];
  interfaces = (record { name = (73 ∷ []); operations = (record { name = (103 ∷ 111 ∷ []); request = (plain kinds.Void no_type_fields); response = (Some (plain kinds.Int no_type_fields)); throws = [] } ∷ record { name = (112 ∷ 97 ∷ 117 ∷ 115 ∷ 101 ∷ []); request = (plain kinds.Void no_type_fields); response = None; throws = [] } ∷ []) } ∷ []);
  services = (record { name = (83 ∷ []); execution = execution.Single; ports = (record { name = (73 ∷ 110 ∷ []); input = true; location = (115 ∷ 111 ∷ 99 ∷ 107 ∷ 101 ∷ 116 ∷ 58 ∷ 47 ∷ 47 ∷ 108 ∷ 111 ∷ 99 ∷ 97 ∷ 108 ∷ 104 ∷ 111 ∷ 115 ∷ 116 ∷ 58 ∷ 56 ∷ 48 ∷ 48 ∷ 48 ∷ []); interfaces = (0 ∷ []) } ∷ []); sets = []; init = nothing; main = (choice (request 0 None (Some (step (121 ∷ []) here)) (choice (one_way 1 None nothing no_branches)) nothing no_branches)) } ∷ []);
  names = ((73 ∷ 79 ∷ 69 ∷ 120 ∷ 99 ∷ 101 ∷ 112 ∷ 116 ∷ 105 ∷ 111 ∷ 110 ∷ []) ∷ (84 ∷ 121 ∷ 112 ∷ 101 ∷ 77 ∷ 105 ∷ 115 ∷ 109 ∷ 97 ∷ 116 ∷ 99 ∷ 104 ∷ []) ∷ (67 ∷ 111 ∷ 114 ∷ 114 ∷ 101 ∷ 108 ∷ 97 ∷ 116 ∷ 105 ∷ 111 ∷ 110 ∷ 69 ∷ 114 ∷ 114 ∷ 111 ∷ 114 ∷ []) ∷ (82 ∷ 101 ∷ 102 ∷ 117 ∷ 115 ∷ 101 ∷ 100 ∷ []) ∷ (85 ∷ 110 ∷ 100 ∷ 101 ∷ 99 ∷ 108 ∷ 97 ∷ 114 ∷ 101 ∷ 100 ∷ 70 ∷ 97 ∷ 117 ∷ 108 ∷ 116 ∷ []) ∷ (69 ∷ 120 ∷ 112 ∷ 114 ∷ 70 ∷ 97 ∷ 117 ∷ 108 ∷ 116 ∷ []) ∷ (72 ∷ 97 ∷ 110 ∷ 100 ∷ 108 ∷ 101 ∷ 114 ∷ 84 ∷ 111 ∷ 111 ∷ 76 ∷ 97 ∷ 114 ∷ 103 ∷ 101 ∷ []) ∷ (83 ∷ 116 ∷ 111 ∷ 114 ∷ 101 ∷ 84 ∷ 111 ∷ 111 ∷ 76 ∷ 97 ∷ 114 ∷ 103 ∷ 101 ∷ []) ∷ (109 ∷ 97 ∷ 105 ∷ 110 ∷ []) ∷ []);
}

-- what its office works by
abbrev pub setting : Setting
setting = run_of program

-- its history
abbrev pub history : List Entry
history = (
    record { actor = 4096; act = act.Post 0 0 (record { service = 0; op = (103 ∷ 111 ∷ []); value = (node root.Void no_fields) }) (answer.Accepted 0) } ∷
    record { actor = 0; act = act.Adopt 0 } ∷
    record { actor = 0; act = act.Take 0 } ∷
    record { actor = 4096; act = act.Close } ∷
    record { actor = 4096; act = act.Stop } ∷
    record { actor = 4096; act = act.Collect 0 (outcome.Refused reason.Stopped) } ∷ [])

-- the text of the answer
abbrev pub text : List ℕ
text = codes "{\"error\":{\"code\":-32004,\"message\":\"stopped\"},\"id\":1,\"jsonrpc\":\"2.0\"}"

-- what was written
abbrev pub written : List ℕ
written = codes "HTTP/1.1 200 OK\r\nContent-Type: application/json\r\nContent-Length: 68\r\n\r\n{\"error\":{\"code\":-32004,\"message\":\"stopped\"},\"id\":1,\"jsonrpc\":\"2.0\"}"

-- what a reader gives, and the connection, which was told the answer
abbrev pub gives : List Fed
gives = Request go false ∷ []

abbrev connection : RunConnection
connection = read_on gives (Some text ∷ [])

passed : HasPassed connection (record { read = read_go; written = written })
unfolding digits
passed = passed_on (record { read = read_go; written = written }) gives (Some text ∷ []) gives_go refl refl refl

-- its request, and what it brings in
abbrev pub asked : Asked
asked = record { traffic = 0; request = 0 }

abbrev pub came : Came
came = came_with 0 go

pub in_order : (j : ℕ) (a : Asked) → slice_get (asked ∷ []) j ≡ Some a → a.request ≡ count_by (is_of a.traffic) (take j (asked ∷ []))
in_order zero a e = subst (λ (a : Asked). a.request ≡ count_by (is_of a.traffic) []) (same_Some asked a e) refl
in_order (suc j) a e = absurd (none-some a e)

-- where one request was taken from the only connection it was asked
pub one_taken : (connection : RunConnection) → length connection.bodies ≡ 1 → AreTaken (connection ∷ []) (asked ∷ [])
one_taken connection one = record { in_order = in_order; all = all }
  where
    all : (k : ℕ) (v : RunConnection) → slice_get (connection ∷ []) k ≡ Some v → count_by (is_of k) (asked ∷ []) ≡ length v.bodies
    all zero v e = subst (λ (v : RunConnection). 1 ≡ length v.bodies) (same_Some connection v e) (sym one)
    all (suc k) v e = absurd (none-some v e)

-- the response by the history
pub is_response : Some text ≡ response setting (past_of setting history) first_worker 0 came
unfolding digits escape_byte is_utf8 chars encode scan_numeral value punctuate lex content word after_number number_of root_name posted answer batch early_answer
is_response = refl

pub responses : (connection : RunConnection) → slice_get connection.texts 0 ≡ Some (Some text)
    → AreResponses setting history (connection ∷ []) (record { asked = asked ∷ []; came = came ∷ [] })
responses connection told =
    told_responses setting history (connection ∷ []) (asked ∷ []) (came ∷ [])
    (subst (IsTextAt (connection ∷ []) asked) is_response (text_at (connection ∷ []) asked connection (Some text) refl told), tt)

pub is_posted : posts_by first_worker history ≡ posts_of 0 (map posting_of (came ∷ []))
unfolding digits escape_byte is_utf8 chars encode scan_numeral value punctuate lex content word after_number number_of root_name posted answer batch early_answer
is_posted = refl

pub served : IsServed setting history false (record { read = read_go; written = written } ∷ [])
unfolding encode
served = record {
  connections = connection ∷ [];
  all = record { asked = asked ∷ []; came = came ∷ [] };
  doors = refl;
  passed = (passed, tt);
  taken = one_taken connection refl;
  came = refl;
  posted = is_posted;
  one_by_one = one_alone setting history asked;
  responses = responses connection refl;
  told_early = early_alone setting history (connection ∷ []) asked;
  told = λ _. refl;
}
