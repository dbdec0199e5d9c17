-- Two calls that were sent at once over one connection, of which a write failed, or a read behind them.
use Rattle.std.specs.Prelude.{◌≡◌, ◌≢◌, ◌<◌, ℕ, true, false, List, [], ◌∷◌, ◌++◌, take, drop, length, map}
use Rattle.std.specs.Prelude.{Option, Some, slice_get}
use Rattle.std.specs.Io.{StartsWith}
use Rattle.std.proofs.Common.{refl, sym, ap, subst, ◌∙◌, arith, append_assoc, take-append-drop, length-take-le}
use Rattle.std.proofs.Math.Seq.{take-append_seam}
use Rattle.std.proofs.lemmas.Bool.{ltb-true}
use lib.Utf8.{encode}
use Rattle.std.specs.Fmt.{digits}
use Rattle.std.specs.Str.{is_utf8, chars}
use Rattle.std.specs.Float.Numeral.{scan_numeral}
use Rattle.json.specs.Print.{escape_byte}
use Rattle.json.specs.Json.{value}
use Rattle.json.specs.Lex.{punctuate, lex}
use Rattle.json.specs.Text.{content}
use Rattle.json.specs.Word.{word, after_number}
use Rattle.serde_json.specs.Read.{number_of}
use Rattle.jsonrpc_text.specs.FromJson.{root_name}
use Rattle.jsonrpc_text.specs.Posted.{posted}
use Rattle.jsonrpc_text.specs.Responses.{answer, batch, early_answer}
use Rattle.office_core.specs.Limits.{first_worker}
use Rattle.run_record.specs.Postings.{Post, posts_by, posts_of}
use Rattle.run_theorem.specs.Texts.{Came, posting_of}
use Rattle.http_port.specs.declared.head_reader.Fed.TheVariants.{Request}
use Rattle.http_port.specs.Talk.{answer as answer_bytes}
use Rattle.http_port.proofs.TalkLemmas.{spoken}
use Rattle.http_port.proofs.TurnLemmas.{starts_with}
use Rattle.conn_future.specs.Stages.{IsFailed}
use Rattle.http_connection.proofs.Words.{same_early, shorter_behind}
use Rattle.run_theorem.specs.RunConnections.{RunConnection, HasPassed}
use Rattle.run_theorem.specs.Served.{IsServed}
use Rattle.test_trials.proofs.Requests.{cons_nil}
use Rattle.test_trials.proofs.Sent.{go, more}
use Rattle.test_trials.proofs.Parts.{read_failed, write_failed, IsCut, passed_to_the_end, passed_in_part}
use Rattle.test_trials.proofs.First.{differ, behind_first, first_op, IsUncut, refused_untold, refused_behind, refused_untaken}
use Rattle.test_trials.proofs.TwoCalls.{setting, history, go_alone, call_more, text_go, text_more, written_go, written_more, came_go, came_more, response_go, go_early, is_posted_alone, response_go_alone}
use Rattle.test_trials.proofs.Pipelined.{gives, gives_read, reading, wrote, written, texts, one_door}

-- ---- what passed

-- Both were answered, and a read behind them failed.
pub passed_behind_both : HasPassed (read_failed (go ∷ more ∷ []) texts) (wrote written)
unfolding digits
passed_behind_both = passed_to_the_end (wrote written) gives texts gives_read refl refl refl

-- A write cut the second answer, before its first byte or behind it.
second_cut : (n : ℕ) → n < length written_more → IsCut gives texts (written_go ++ take n written_more)
unfolding digits
second_cut n short = record {
  front = starts_with written (written_go ++ take n written_more) (
    drop n written_more,
    ap (λ (l : List ℕ). written_go ++ l) (sym (take-append-drop n written_more))
        ∙ sym (append_assoc written_go (take n written_more) (drop n written_more)),
  );
  part = shorter_behind written_go (take n written_more) written_more
      (subst (λ (m : ℕ). m < length written_more) (sym (length-take-le n written_more (omega (arith, short)))) short);
  before = λ early last e.
      subst (λ (l : List (Option (List ℕ))). StartsWith (written_go ++ take n written_more) (spoken gives l))
      (same_early (Some text_go ∷ []) early (Some text_more) last e) (take-append_seam written_go (take n written_more));
}

pub passed_where_it_was_cut : (n : ℕ) → n < length written_more
    → HasPassed (write_failed (go ∷ more ∷ []) texts) (wrote (written_go ++ take n written_more))
passed_where_it_was_cut n short =
    passed_in_part (wrote (written_go ++ take n written_more)) gives (go ∷ more ∷ []) texts gives_read refl refl (second_cut n short)

-- ---- spoilt

some_posted : posts_by first_worker history ≢ []
some_posted e = cons_nil _ _ e

-- Where both were posted and told, the first answer was not written, or not all of it; also where the connection has
-- failed.
spoilt_by : (bytes : List ℕ) → length bytes < length (answer_bytes (Some text_go) false) → IsServed setting history false (wrote bytes ∷ []) → ⊥
spoilt_by bytes =
    refused_behind setting history false (wrote bytes) reading go (Request more false ∷ []) (gives_read reading) refl some_posted one_door
    (Some text_go) (sym response_go) (λ e. cons_nil _ _ (ap behind_first (e ∙ sym is_posted_alone)))

pub spoilt_nothing_written : IsServed setting history false (wrote [] ∷ []) → ⊥
unfolding digits
spoilt_nothing_written = spoilt_by [] (ltb-true 0 (length (answer_bytes (Some text_go) false)) refl)

pub spoilt_first_cut : IsServed setting history false (wrote (take 100 written_go) ∷ []) → ⊥
unfolding digits
spoilt_first_cut =
    spoilt_by (take 100 written_go) (ltb-true (length (take 100 written_go)) (length (answer_bytes (Some text_go) false)) refl)

-- Where the connection has failed, the second request was not posted, though all of the first answer was written.
one_posted : posts_by first_worker go_alone ≢ []
one_posted e = cons_nil _ _ e

not_both : (others : List Came) → posts_by first_worker go_alone ≡ posts_of 0 (map posting_of (came_go ∷ came_more ∷ others)) → ⊥
unfolding digits escape_byte is_utf8 chars encode scan_numeral value punctuate lex content word after_number number_of root_name posted answer batch early_answer
not_both others e = differ [] call_more.op refl refl (ap (λ (ps : List Post). first_op (behind_first ps)) e)

pub spoilt_second_not_posted : (s : IsServed setting go_alone false (wrote written_go ∷ []))
    → ((v : RunConnection) → slice_get s.connections 0 ≡ Some v → IsFailed v.stage) → ⊥
unfolding digits
spoilt_second_not_posted =
    refused_untaken setting go_alone false (wrote written_go) reading go (Request more false ∷ []) (gives_read reading) refl one_posted one_door
    (Some text_go) (sym response_go_alone) more [] refl not_both refl

-- Where it halted the first request was told its answer all the same: it had that before the second was posted. So this
-- is refused where no text goes out and no write failed.
pub spoilt_untold_where_it_halted : (s : IsServed setting history true (wrote [] ∷ []))
    → ((v : RunConnection) → slice_get s.connections 0 ≡ Some v → IsUncut v) → ⊥
unfolding digits
spoilt_untold_where_it_halted =
    refused_untold setting history true (wrote []) reading go (Request more false ∷ []) (gives_read reading) go_early some_posted one_door
    (Some text_go) (sym response_go) (λ e. cons_nil _ _ (ap behind_first (e ∙ sym is_posted_alone))) (λ texts e. cons_nil _ _ (sym e))
