-- Copies of the run Stopped that are refused; and what becomes of it where its wire failed, or its front halted.
use Rattle.std.specs.Prelude.{◌≡◌, ◌≢◌, ◌<◌, ℕ, zero, suc, true, false, List, [], ◌∷◌, ◌++◌, take, length, count_by, codes}
use Rattle.std.specs.Prelude.{Option, None, Some, slice_get}
use Rattle.std.specs.Io.{StartsWith}
use Rattle.std.proofs.Common.{refl, sym, ap, subst, ◌∙◌, arith, length-take-le, true≢false}
use Rattle.std.proofs.lemmas.Bool.{eqb-true}
use Rattle.std.proofs.lemmas.Option.{none-some, same_Some}
use lib.Utf8.{encode}
use Rattle.std.specs.Fmt.{digits}
use Rattle.jolie_trees.specs.declared.root.Root.TheVariants as root
use Rattle.jolie_trees.specs.Data.{node, no_fields}
use Rattle.behaviour_tree.specs.declared.words.Outcome.TheVariants as outcome
use Rattle.behaviour_tree.specs.declared.words.Reason.TheVariants as reason
use Rattle.office_core.specs.declared.post.PostReply.TheVariants as answer
use Rattle.office_core.specs.declared.history.Act.TheVariants as act
use Rattle.office_core.specs.declared.history.Entry.{Entry}
use Rattle.office_core.specs.Limits.{first_worker}
use Rattle.office_core.specs.Accepted.{past_of}
use Rattle.run_theorem.specs.Calls.{is_of}
use Rattle.run_record.specs.declared.record.Traffic.{Traffic}
use Rattle.run_record.specs.Postings.{posts_by}
use Rattle.run_theorem.specs.Texts.{response}
use Rattle.http_port.specs.Talk.{answer as answer_bytes}
use Rattle.http_port.proofs.TalkLemmas.{spoken}
use Rattle.conn_future.specs.declared.stage.Stage.{Stage}
use Rattle.conn_future.specs.declared.stage.Stage.TheVariants as Stages
use Rattle.http_connection.proofs.Words.{same_early}
use Rattle.run_theorem.specs.RunConnections.{RunConnection, HasPassed}
use Rattle.run_theorem.specs.Served.{IsServed}
use Rattle.test_trials.proofs.Requests.{bodies_by, talk_by, cons_nil}
use Rattle.test_trials.proofs.Sent.{go, read_go, reading_go, gives_go}
use Rattle.test_trials.proofs.First.{differ, behind_first, first_op, holds_alone, IsOther, IsUncut, LeadToOne, refused, refused_once, refused_cut}
use Rattle.test_trials.proofs.Parts.{IsTextAt, told_responses, one_alone, early_alone, IsCut, passed_to_the_end, passed_in_part}
use Rattle.test_trials.proofs.ConnectionStopped.{setting, history, text, written, gives, asked, came, one_taken, is_response, responses, is_posted}

one_door : LeadToOne setting
unfolding encode
one_door n e = eqb-true n 0 (holds_alone _ e)

some_posted : posts_by first_worker history ≢ []
some_posted e = cons_nil _ _ e

-- the connection, on which this was written
abbrev wrote : List ℕ → Traffic
wrote bytes = record { read = read_go; written = bytes }

-- a run without a connection posted nothing
pub spoilt_request_of_nobody : IsServed setting history false [] → ⊥
spoilt_request_of_nobody = refused setting history false [] some_posted one_door tt

-- ---- another answer

-- bytes that are no front of the answer are another answer
other : (bytes : List ℕ) → bytes ≢ [] → (take (length bytes) (answer_bytes (Some text) false) ≡ bytes → ⊥)
    → IsOther setting history (wrote bytes)
unfolding digits
other bytes some apart = record {
  reading = reading_go;
  body = go;
  later = [];
  gives = gives_go reading_go;
  some = some;
  text = Some text;
  is_text = sym is_response;
  apart = λ texts front. apart front;
}

-- with another code
abbrev another_code : List ℕ
another_code = codes "HTTP/1.1 200 OK\r\nContent-Type: application/json\r\nContent-Length: 68\r\n\r\n{\"error\":{\"code\":-32003,\"message\":\"stopped\"},\"id\":1,\"jsonrpc\":\"2.0\"}"

pub spoilt_code : IsServed setting history false (wrote another_code ∷ []) → ⊥
unfolding digits
spoilt_code =
    refused setting history false (wrote another_code ∷ []) some_posted one_door
    (other another_code (λ e. cons_nil _ _ e) (differ (take (length another_code) (answer_bytes (Some text) false)) another_code refl refl), tt)

-- the answer twice
abbrev twice : List ℕ
twice = written ++ written

pub spoilt_answered_twice : IsServed setting history false (wrote twice ∷ []) → ⊥
unfolding digits
spoilt_answered_twice =
    refused setting history false (wrote twice ∷ []) some_posted one_door
    (other twice (λ e. cons_nil _ _ e) (differ (take (length twice) (answer_bytes (Some text) false)) twice refl refl), tt)

-- nothing to say
abbrev nothing_sent : List ℕ
nothing_sent = codes "HTTP/1.1 204 No Content\r\n\r\n"

pub spoilt_nothing_sent : IsServed setting history false (wrote nothing_sent ∷ []) → ⊥
unfolding digits
spoilt_nothing_sent =
    refused setting history false (wrote nothing_sent ∷ []) some_posted one_door
    (other nothing_sent (λ e. cons_nil _ _ e) (differ (take (length nothing_sent) (answer_bytes (Some text) false)) nothing_sent refl refl), tt)

-- ---- posted otherwise

abbrev posted_twice : List Entry
posted_twice = (
    record { actor = 4096; act = act.Post 0 0 (record { service = 0; op = (103 ∷ 111 ∷ []); value = (node root.Void no_fields) }) (answer.Accepted 0) } ∷
    record { actor = 0; act = act.Adopt 0 } ∷
    record { actor = 0; act = act.Take 0 } ∷
    record { actor = 4096; act = act.Post 1 0 (record { service = 0; op = (103 ∷ 111 ∷ []); value = (node root.Void no_fields) }) (answer.Accepted 1) } ∷
    record { actor = 4096; act = act.Close } ∷
    record { actor = 4096; act = act.Stop } ∷
    record { actor = 4096; act = act.Collect 0 (outcome.Refused reason.Stopped) } ∷
    record { actor = 4096; act = act.Collect 1 (outcome.Refused reason.Stopped) } ∷ [])

pub spoilt_posted_twice : IsServed setting posted_twice false (wrote written ∷ []) → ⊥
spoilt_posted_twice =
    refused_once setting posted_twice false (wrote written) reading_go go [] (gives_go reading_go) refl (λ e. cons_nil _ _ e) one_door
    (λ e. cons_nil _ _ (ap behind_first (e ∙ sym is_posted)))

-- another operation was posted
abbrev posted_pause : List Entry
posted_pause = (
    record { actor = 4096; act = act.Post 0 0 (record { service = 0; op = (112 ∷ 97 ∷ 117 ∷ 115 ∷ 101 ∷ []); value = (node root.Void no_fields) }) (answer.Accepted 0) } ∷
    record { actor = 0; act = act.Adopt 0 } ∷
    record { actor = 4096; act = act.Close } ∷
    record { actor = 4096; act = act.Stop } ∷
    record { actor = 4096; act = act.Collect 0 (outcome.Refused reason.Stopped) } ∷ [])

pub spoilt_posted_as_another : IsServed setting posted_pause false (wrote written ∷ []) → ⊥
spoilt_posted_as_another =
    refused_once setting posted_pause false (wrote written) reading_go go [] (gives_go reading_go) refl (λ e. cons_nil _ _ e) one_door
    (λ e. differ (codes "pause") (codes "go") refl refl (ap first_op (e ∙ sym is_posted)))

-- ---- an answer that is cut

-- the answer without its end
abbrev cut : List ℕ
cut = take 100 written

not_whole : (bytes : List ℕ) → (answer_bytes (Some text) false ≡ bytes → ⊥) → (s : IsServed setting history false (wrote bytes ∷ []))
    → ((v : RunConnection) → slice_get s.connections 0 ≡ Some v → IsUncut v) → ⊥
unfolding digits
not_whole bytes apart =
    refused_cut setting history false (wrote bytes) reading_go go [] (gives_go reading_go) refl some_posted one_door (Some text)
    (sym is_response) (λ texts e. apart (sym e))

-- It is refused where no text goes out, no write failed and nothing halted,
pub spoilt_cut : (s : IsServed setting history false (wrote cut ∷ []))
    → ((v : RunConnection) → slice_get s.connections 0 ≡ Some v → IsUncut v) → ⊥
unfolding digits
spoilt_cut = not_whole cut (differ (answer_bytes (Some text) false) cut refl refl)

-- and so is none.
pub spoilt_unwritten : (s : IsServed setting history false (wrote [] ∷ []))
    → ((v : RunConnection) → slice_get s.connections 0 ≡ Some v → IsUncut v) → ⊥
unfolding digits
spoilt_unwritten = not_whole [] (differ (answer_bytes (Some text) false) [] refl refl)

-- Each prefix of it that is not all is served where a write may have failed, and all of it where a read behind it may;
-- whether a call of its wire has failed is not sent here.
abbrev at_stage : Stage → RunConnection
at_stage stage = record { door = Some 0; service = 0; stage = stage; bodies = go ∷ []; texts = Some text ∷ [] }

served_at : (stage : Stage) (bytes : List ℕ) → HasPassed (at_stage stage) (wrote bytes) → IsServed setting history false (wrote bytes ∷ [])
unfolding encode
served_at stage bytes passed = record {
  connections = at_stage stage ∷ [];
  all = record { asked = asked ∷ []; came = came ∷ [] };
  doors = refl;
  passed = (passed, tt);
  taken = one_taken (at_stage stage) refl;
  came = refl;
  posted = is_posted;
  one_by_one = one_alone setting history asked;
  responses = responses (at_stage stage) refl;
  told_early = early_alone setting history (at_stage stage ∷ []) asked;
  told = λ _. refl;
}

front_of : (n : ℕ) (bytes : List ℕ) → StartsWith bytes (take n bytes)
front_of zero bytes = refl
front_of (suc n) [] = refl
front_of (suc n) (b ∷ bytes) = ap (λ (l : List ℕ). b ∷ l) (front_of n bytes)

-- a front of it that is not all
cut_at : (n : ℕ) → n < length written → IsCut gives (Some text ∷ []) (take n written)
unfolding digits
cut_at n short = record {
  front = front_of n written;
  part = subst (λ (m : ℕ). m < length written) (sym (length-take-le n written (omega (arith, short)))) short;
  before = λ early last e.
      subst (λ (l : List (Option (List ℕ))). StartsWith (take n written) (spoken gives l)) (same_early [] early (Some text) last e) refl;
}

pub served_where_a_write_failed : (n : ℕ) → n < length written → IsServed setting history false (wrote (take n written) ∷ [])
served_where_a_write_failed n short =
    served_at Stages.WriteFailed (take n written)
    (passed_in_part (wrote (take n written)) gives (go ∷ []) (Some text ∷ []) gives_go refl refl (cut_at n short))

-- all of it
all_written : written ≡ spoken gives (Some text ∷ [])
unfolding digits
all_written = refl

pub served_where_a_read_failed : IsServed setting history false (wrote written ∷ [])
served_where_a_read_failed =
    served_at Stages.ReadFailed written (passed_to_the_end (wrote written) gives (Some text ∷ []) gives_go refl refl all_written)

-- Or the front halted, and nothing was told any more.
abbrev owing : RunConnection
owing = record { door = Some 0; service = 0; stage = Stages.Owes; bodies = go ∷ []; texts = [] }

owing_passed : HasPassed owing (wrote [])
owing_passed = record {
  stage = λ e. let clash : Stages.Owes ≡ Stages.Spent = e in cc;
  keeps = λ r. ∣ (
    record { bodies = sym (ap (take 1) (bodies_by read_go r gives (gives_go r))); texts = refl },
    sym (talk_by read_go r gives [] (gives_go r)),
  ) ∣₁;
}

owing_told : IsTextAt (owing ∷ []) asked (response setting (past_of setting history) first_worker 0 came)
owing_told v t e f = absurd (none-some t (ap (λ (u : RunConnection). slice_get u.texts 0) (same_Some owing v e) ∙ f))

pub served_where_it_halted : IsServed setting history true (wrote [] ∷ [])
unfolding encode
served_where_it_halted = record {
  connections = owing ∷ [];
  all = record { asked = asked ∷ []; came = came ∷ [] };
  doors = refl;
  passed = (owing_passed, tt);
  taken = one_taken owing refl;
  came = refl;
  posted = is_posted;
  one_by_one = one_alone setting history asked;
  responses = told_responses setting history (owing ∷ []) (asked ∷ []) (came ∷ []) (owing_told, tt);
  told_early = early_alone setting history (owing ∷ []) asked;
  told = λ e. absurd (true≢false e);
}

-- A request that was not taken is not posted, also where nothing halted: whether it waits is not sent here.
abbrev untaken : RunConnection
untaken = record { door = Some 0; service = 0; stage = Stages.Asks; bodies = []; texts = [] }

none_asked : (k : ℕ) (v : RunConnection) → slice_get (untaken ∷ []) k ≡ Some v → count_by (is_of k) [] ≡ length v.bodies
none_asked zero v e = subst (λ (v : RunConnection). 0 ≡ length v.bodies) (same_Some untaken v e) refl
none_asked (suc k) v e = absurd (none-some v e)

pub served_before_it_is_taken : IsServed setting [] false (wrote [] ∷ [])
unfolding encode
served_before_it_is_taken = record {
  connections = untaken ∷ [];
  all = record { asked = []; came = [] };
  doors = refl;
  passed = (
    record {
      stage = λ e. let clash : Stages.Asks ≡ Stages.Spent = e in cc;
      keeps = λ r. ∣ (record { bodies = refl; texts = refl }, sym (talk_by read_go r gives [] (gives_go r))) ∣₁;
    },
    tt,
  );
  taken = record { in_order = λ j a e. absurd (none-some a e); all = none_asked };
  came = refl;
  posted = refl;
  one_by_one = λ i j a b e. absurd (none-some a e);
  responses = λ j a c v t ea ec ev et. absurd (none-some a ea);
  told_early = λ j a v e. absurd (none-some a e);
  told = λ _. refl;
}
