-- The run of two calls over one connection, on which both were sent at once.
use Rattle.std.specs.Prelude.{◌≡◌, ◌≢◌, ℕ, ◌<◌, zero, suc, true, false, List, [], ◌∷◌, ◌++◌, take, length, map, count_by}
use Rattle.std.specs.Prelude.{Option, Some, slice_get}
use Rattle.std.proofs.Common.{refl, sym, ap, subst, arith}
use Rattle.std.proofs.lemmas.Bool.{eqb-true}
use Rattle.std.proofs.lemmas.Option.{none-some, same_Some}
use lib.Utf8.{encode}
use Rattle.std.specs.Fmt.{digits}
use Rattle.std.specs.Str.{is_utf8, chars}
use Rattle.std.specs.Float.Numeral.{scan_numeral}
use Rattle.json.specs.Print.{escape_byte}
use Rattle.json.specs.Json.{value}
use Rattle.json.specs.Lex.{punctuate, lex}
use Rattle.json.specs.Text.{content}
use Rattle.json.specs.Word.{word, after_number}
use Rattle.serde_json.specs.Read.{number_of}
use Rattle.jsonrpc_text.specs.FromJson.{root_name}
use Rattle.jsonrpc_text.specs.Posted.{posted}
use Rattle.jsonrpc_text.specs.Responses.{answer, batch, early_answer}
use Rattle.httparse.proofs.OnLiterals.{httparse_on_literals}
use Rattle.http1.specs.Text.{eq_ignore_case}
use Rattle.office_core.specs.Limits.{first_worker}
use Rattle.run_theorem.specs.Exchange.{Asked}
use Rattle.run_theorem.specs.Calls.{is_of}
use Rattle.run_record.specs.declared.record.Traffic.{Traffic}
use Rattle.run_record.specs.Postings.{Post, posts_by, posts_of}
use Rattle.run_theorem.specs.Texts.{Came, posting_of}
use Rattle.http_port.specs.declared.head_reader.Fed.{Fed}
use Rattle.http_port.specs.declared.head_reader.Fed.TheVariants.{Request}
use Rattle.http_port.specs.Rules.{Judges, admission, head_of, verdict_of}
use Rattle.http_port.specs.Connections.{Reading, goes_on, given}
use Rattle.http_port.specs.Talk.{answer as answer_bytes}
use Rattle.http_port.proofs.ReadingLemmas.{tail_of}
use Rattle.http_port.proofs.TalkLemmas.{spoken}
use Rattle.run_theorem.specs.RunConnections.{RunConnection, HasPassed}
use Rattle.run_theorem.specs.Served.{AreResponses, IsServed}
use Rattle.test_trials.proofs.Requests.{judged, more_requests, cons_nil}
use Rattle.test_trials.proofs.Sent.{go, more, read_go, read_more, head_go, gives_more, reading_more}
use Rattle.test_trials.proofs.Parts.{read_on, passed_on, IsTextAt, text_at, told_responses, two_by_one, has_text, two_told}
use Rattle.test_trials.proofs.First.{differ, first_op, holds_alone, IsOther, LeadToOne, refused, refused_first, refused_early}
use Rattle.test_trials.proofs.TwoCalls.{setting, history, another_order, at_once, go_first, go_open, post_more, is_post_more, call_go, call_more, text_go, text_more, written_go, written_more, came_go, came_more, is_posted, response_go, response_more}

-- what was read
abbrev pub read : List ℕ
read = read_go ++ read_more

judged_read : Judges read (verdict_of (head_of head_go))
unfolding httparse_on_literals eq_ignore_case encode
judged_read = judged read 48 head_go refl refl (47 ∷ [], (refl, refl)) refl refl

-- what a reader gives of it
abbrev pub gives : List Fed
gives = Request go false ∷ Request more false ∷ []

pub gives_read : (r : Reading read) → given read r ≡ gives
unfolding httparse_on_literals eq_ignore_case encode
gives_read r =
    more_requests read (head_of head_go) 50 (Request more false ∷ []) refl refl (omega arith) (λ s. gives_more s) r
    (tail_of read _ judged_read r)

pub reading : Reading read
unfolding httparse_on_literals eq_ignore_case encode
reading = goes_on read (admission (head_of head_go) 50) judged_read (omega arith) refl reading_more

-- the connection, on which this was written
abbrev pub wrote : List ℕ → Traffic
wrote bytes = record { read = read; written = bytes }

-- both answers
abbrev pub written : List ℕ
written = written_go ++ written_more

abbrev pub texts : List (Option (List ℕ))
texts = Some text_go ∷ Some text_more ∷ []

abbrev connection : RunConnection
connection = read_on gives texts

passed : HasPassed connection (wrote written)
unfolding digits
passed = passed_on (wrote written) gives texts gives_read refl refl refl

-- its requests
abbrev asked_go : Asked
asked_go = record { traffic = 0; request = 0 }

abbrev asked_more : Asked
asked_more = record { traffic = 0; request = 1 }

abbrev asked : List Asked
asked = asked_go ∷ asked_more ∷ []

in_order : (j : ℕ) (a : Asked) → slice_get asked j ≡ Some a → a.request ≡ count_by (is_of a.traffic) (take j asked)
in_order zero a e = subst (λ (a : Asked). a.request ≡ count_by (is_of a.traffic) []) (same_Some asked_go a e) refl
in_order (suc zero) a e = subst (λ (a : Asked). a.request ≡ count_by (is_of a.traffic) (asked_go ∷ [])) (same_Some asked_more a e) refl
in_order (suc (suc j)) a e = absurd (none-some a e)

all_taken : (k : ℕ) (v : RunConnection) → slice_get (connection ∷ []) k ≡ Some v → count_by (is_of k) asked ≡ length v.bodies
all_taken zero v e = subst (λ (v : RunConnection). 2 ≡ length v.bodies) (same_Some connection v e) refl
all_taken (suc k) v e = absurd (none-some v e)

responses : AreResponses setting history (connection ∷ []) (record { asked = asked; came = came_go ∷ came_more ∷ [] })
responses =
    told_responses setting history (connection ∷ []) asked (came_go ∷ came_more ∷ []) (
      subst (IsTextAt (connection ∷ []) asked_go) response_go (text_at (connection ∷ []) asked_go connection (Some text_go) refl refl),
      (subst (IsTextAt (connection ∷ []) asked_more) response_more (text_at (connection ∷ []) asked_more connection (Some text_more) refl refl), tt),
    )

none_one : 0 < 1
none_one = omega arith

none_two : 0 < 2
none_two = omega arith

one_two : 1 < 2
one_two = omega arith

-- the first was answered before the second was posted
pub served : IsServed setting history false (wrote written ∷ [])
unfolding encode
served = record {
  connections = connection ∷ [];
  all = record { asked = asked; came = came_go ∷ came_more ∷ [] };
  doors = refl;
  passed = (passed, tt);
  taken = record { in_order = in_order; all = all_taken };
  came = refl;
  posted = is_posted;
  one_by_one = two_by_one setting history asked_go asked_more (λ _. subst (λ (n : ℕ). n < 1) (sym go_first) none_one);
  responses = responses;
  told_early = two_told setting history (connection ∷ []) asked_go asked_more (has_text (connection ∷ []) asked_go connection refl none_two) (has_text (connection ∷ []) asked_more connection refl one_two);
  told = λ _. refl;
}

-- ---- spoilt

pub one_door : LeadToOne setting
unfolding encode
one_door n e = eqb-true n 0 (holds_alone _ e)

pub other_first : (others : List Came)
    → posts_by first_worker another_order ≡ posts_of 0 (map posting_of (came_go ∷ others)) → ⊥
unfolding digits escape_byte is_utf8 chars encode scan_numeral value punctuate lex content word after_number number_of root_name posted answer batch early_answer
other_first others e = differ call_more.op call_go.op refl refl (ap first_op e)

-- what was sent behind the other was posted before it
pub spoilt_posted_in_another_order : IsServed setting another_order false (wrote written ∷ []) → ⊥
spoilt_posted_in_another_order =
    refused_first setting another_order false (wrote written) reading go (Request more false ∷ []) (gives_read reading)
    (λ e. cons_nil _ _ e) one_door other_first

-- what was sent behind the other was posted before that was answered
pub spoilt_posted_at_once : IsServed setting at_once false (wrote written ∷ []) → ⊥
spoilt_posted_at_once = refused_early setting at_once go_open false (wrote written) post_more is_post_more refl

-- the answers were written in another order
abbrev exchanged : List ℕ
exchanged = written_more ++ written_go

other_answer : IsOther setting history (wrote exchanged)
unfolding digits
other_answer = record {
  reading = reading;
  body = go;
  later = Request more false ∷ [];
  gives = gives_read reading;
  some = λ e. cons_nil _ _ e;
  text = Some text_go;
  is_text = sym response_go;
  apart = λ texts.
      differ (take (length exchanged) (answer_bytes (Some text_go) false ++ spoken (Request more false ∷ []) texts)) exchanged refl refl;
}

pub spoilt_answered_in_another_order : IsServed setting history false (wrote exchanged ∷ []) → ⊥
spoilt_answered_in_another_order =
    refused setting history false (wrote exchanged ∷ []) (λ e. cons_nil _ _ e) one_door (other_answer, tt)
