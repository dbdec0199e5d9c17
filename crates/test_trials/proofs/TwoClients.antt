-- The run of two calls over two connections; each has the answer to its own.
use Rattle.std.specs.Prelude.{◌≡◌, ◌<◌, ◌≢◌, ℕ, zero, suc, true, false, List, [], ◌∷◌, take, length, count_by, codes}
use Rattle.std.specs.Prelude.{Option, Some, slice_get}
use Rattle.std.proofs.Common.{refl, sym, subst, arith}
use Rattle.std.proofs.lemmas.Option.{none-some, same_Some}
use lib.Utf8.{encode}
use Rattle.std.specs.Fmt.{digits}
use Rattle.std.specs.Str.{is_utf8, chars}
use Rattle.std.specs.Float.Numeral.{scan_numeral}
use Rattle.json.specs.Print.{escape_byte}
use Rattle.json.specs.Json.{value}
use Rattle.json.specs.Lex.{punctuate, lex}
use Rattle.json.specs.Text.{content}
use Rattle.json.specs.Word.{word, after_number}
use Rattle.serde_json.specs.Read.{number_of}
use Rattle.jsonrpc_text.specs.FromJson.{root_name}
use Rattle.jsonrpc_text.specs.Posted.{posted}
use Rattle.jsonrpc_text.specs.Responses.{answer, batch, early_answer}
use Rattle.office_core.specs.Limits.{first_worker}
use Rattle.office_core.specs.Accepted.{past_of}
use Rattle.run_theorem.specs.Exchange.{Asked}
use Rattle.run_theorem.specs.Calls.{is_of}
use Rattle.run_record.specs.declared.record.Traffic.{Traffic}
use Rattle.run_record.specs.Postings.{posts_by}
use Rattle.run_theorem.specs.Texts.{response}
use Rattle.http_port.specs.declared.head_reader.Fed.{Fed}
use Rattle.http_port.specs.declared.head_reader.Fed.TheVariants.{Request}
use Rattle.http_port.specs.Talk.{answer as answer_bytes}
use Rattle.run_theorem.specs.RunConnections.{RunConnection, HasPassed}
use Rattle.run_theorem.specs.Served.{AreResponses, IsServed}
use Rattle.test_trials.proofs.Requests.{cons_nil}
use Rattle.test_trials.proofs.Sent.{go, more, read_go, read_more, gives_go, gives_more, reading_go, reading_more}
use Rattle.test_trials.proofs.Parts.{read_on, passed_on, read_out, passed_out, IsTextAt, text_at, told_responses, two_by_one, has_text, two_told}
use Rattle.test_trials.proofs.First.{differ, IsOther, refused}
use Rattle.test_trials.proofs.TwoCalls.{setting, history, text_go, text_more, written_go, written_more, came_go, came_more, is_posted, at_once, is_posted_at_once, response_go, response_more, response_go_at_once, response_more_at_once}
use Rattle.test_trials.proofs.Pipelined.{one_door}

-- the connections, on which these were written
abbrev traffic : List ℕ → List ℕ → List Traffic
traffic one other = record { read = read_go; written = one } ∷ record { read = read_more; written = other } ∷ []

-- the first of them ended
abbrev connection_go : RunConnection
connection_go = read_out (Request go false ∷ []) (Some text_go ∷ [])

abbrev connection_more : RunConnection
connection_more = read_on (Request more false ∷ []) (Some text_more ∷ [])

abbrev connections : List RunConnection
connections = connection_go ∷ connection_more ∷ []

passed_go : HasPassed connection_go (record { read = read_go; written = written_go })
unfolding digits
passed_go = passed_out (record { read = read_go; written = written_go }) (Request go false ∷ []) (Some text_go ∷ []) gives_go refl refl refl

passed_more : HasPassed connection_more (record { read = read_more; written = written_more })
unfolding digits
passed_more =
    passed_on (record { read = read_more; written = written_more }) (Request more false ∷ []) (Some text_more ∷ []) gives_more refl refl refl

-- the request of each
abbrev asked_go : Asked
asked_go = record { traffic = 0; request = 0 }

abbrev asked_more : Asked
asked_more = record { traffic = 1; request = 0 }

abbrev asked : List Asked
asked = asked_go ∷ asked_more ∷ []

in_order : (j : ℕ) (a : Asked) → slice_get asked j ≡ Some a → a.request ≡ count_by (is_of a.traffic) (take j asked)
in_order zero a e = subst (λ (a : Asked). a.request ≡ count_by (is_of a.traffic) []) (same_Some asked_go a e) refl
in_order (suc zero) a e = subst (λ (a : Asked). a.request ≡ count_by (is_of a.traffic) (asked_go ∷ [])) (same_Some asked_more a e) refl
in_order (suc (suc j)) a e = absurd (none-some a e)

all_taken : (k : ℕ) (v : RunConnection) → slice_get connections k ≡ Some v → count_by (is_of k) asked ≡ length v.bodies
all_taken zero v e = subst (λ (v : RunConnection). 1 ≡ length v.bodies) (same_Some connection_go v e) refl
all_taken (suc zero) v e = subst (λ (v : RunConnection). 1 ≡ length v.bodies) (same_Some connection_more v e) refl
all_taken (suc (suc k)) v e = absurd (none-some v e)

responses : AreResponses setting history connections (record { asked = asked; came = came_go ∷ came_more ∷ [] })
responses =
    told_responses setting history connections asked (came_go ∷ came_more ∷ []) (
      subst (IsTextAt connections asked_go) response_go (text_at connections asked_go connection_go (Some text_go) refl refl),
      (subst (IsTextAt connections asked_more) response_more (text_at connections asked_more connection_more (Some text_more) refl refl), tt),
    )

none_one : 0 < 1
none_one = omega arith

-- they are two clients
apart : (n : ℕ) → n ≡ 0 → n ≡ 1 → ⊥
apart n one other = omega (arith, one, other)

pub served : IsServed setting history false (traffic written_go written_more)
unfolding encode
served = record {
  connections = connections;
  all = record { asked = asked; came = came_go ∷ came_more ∷ [] };
  doors = refl;
  passed = (passed_go, (passed_more, tt));
  taken = record { in_order = in_order; all = all_taken };
  came = refl;
  posted = is_posted;
  one_by_one = two_by_one setting history asked_go asked_more (λ same. absurd (apart 0 refl same));
  responses = responses;
  told_early = two_told setting history connections asked_go asked_more (has_text connections asked_go connection_go refl none_one) (has_text connections asked_more connection_more refl none_one);
  told = λ _. refl;
}

-- ---- posted at once

-- the first of them is kept open, and waits for its answer when the other is posted
abbrev waiting_go : RunConnection
waiting_go = read_on (Request go false ∷ []) (Some text_go ∷ [])

abbrev waiting : List RunConnection
waiting = waiting_go ∷ connection_more ∷ []

passed_waiting : HasPassed waiting_go (record { read = read_go; written = written_go })
unfolding digits
passed_waiting = passed_on (record { read = read_go; written = written_go }) (Request go false ∷ []) (Some text_go ∷ []) gives_go refl refl refl

all_taken_at_once : (k : ℕ) (v : RunConnection) → slice_get waiting k ≡ Some v → count_by (is_of k) asked ≡ length v.bodies
all_taken_at_once zero v e = subst (λ (v : RunConnection). 1 ≡ length v.bodies) (same_Some waiting_go v e) refl
all_taken_at_once (suc zero) v e = subst (λ (v : RunConnection). 1 ≡ length v.bodies) (same_Some connection_more v e) refl
all_taken_at_once (suc (suc k)) v e = absurd (none-some v e)

responses_at_once : AreResponses setting at_once waiting (record { asked = asked; came = came_go ∷ came_more ∷ [] })
responses_at_once =
    told_responses setting at_once waiting asked (came_go ∷ came_more ∷ []) (
      subst (IsTextAt waiting asked_go) response_go_at_once (text_at waiting asked_go waiting_go (Some text_go) refl refl),
      (subst (IsTextAt waiting asked_more) response_more_at_once (text_at waiting asked_more connection_more (Some text_more) refl refl), tt),
    )

pub served_at_once : IsServed setting at_once false (traffic written_go written_more)
unfolding encode
served_at_once = record {
  connections = waiting;
  all = record { asked = asked; came = came_go ∷ came_more ∷ [] };
  doors = refl;
  passed = (passed_waiting, (passed_more, tt));
  taken = record { in_order = in_order; all = all_taken_at_once };
  came = refl;
  posted = is_posted_at_once;
  one_by_one = two_by_one setting at_once asked_go asked_more (λ same. absurd (apart 0 refl same));
  responses = responses_at_once;
  told_early = two_told setting at_once waiting asked_go asked_more (has_text waiting asked_go waiting_go refl none_one) (has_text waiting asked_more connection_more refl none_one);
  told = λ _. refl;
}

-- ---- the answers exchanged

other_go : IsOther setting history (record { read = read_go; written = written_more })
unfolding digits
other_go = record {
  reading = reading_go;
  body = go;
  later = [];
  gives = gives_go reading_go;
  some = λ e. cons_nil _ _ e;
  text = Some text_go;
  is_text = sym response_go;
  apart = λ texts. differ (take (length written_more) (answer_bytes (Some text_go) false)) written_more refl refl;
}

-- were more posted first it would be answered 1
abbrev text_first : List ℕ
text_first = codes "{\"id\":2,\"jsonrpc\":\"2.0\",\"result\":1}"

response_first : response setting (past_of setting history) first_worker 0 came_more ≡ Some text_first
unfolding digits escape_byte is_utf8 chars encode scan_numeral value punctuate lex content word after_number number_of root_name posted answer batch early_answer
response_first = refl

other_more : IsOther setting history (record { read = read_more; written = written_go })
unfolding digits
other_more = record {
  reading = reading_more;
  body = more;
  later = [];
  gives = gives_more reading_more;
  some = λ e. cons_nil _ _ e;
  text = Some text_first;
  is_text = response_first;
  apart = λ texts. differ (take (length written_go) (answer_bytes (Some text_first) false)) written_go refl refl;
}

pub spoilt_answers_exchanged : IsServed setting history false (traffic written_more written_go) → ⊥
spoilt_answers_exchanged =
    refused setting history false (traffic written_more written_go) (λ e. cons_nil _ _ e) one_door (other_go, (other_more, tt))
