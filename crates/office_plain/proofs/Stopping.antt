-- The run stops: each open message is answered so, and all else stays tied.
use Rattle.std.proofs.Common.{◌≡◌, ◌≤◌, ◌<◌, ℕ, ◌+◌, ◌-◌, ◌^◌, min, Bool, true, false, ◌&&◌, List, [], ◌∷◌, ◌++◌, length, refl, sym, ap, subst, ◌∙◌, Some, option_map, arith}
use Rattle.std.specs.Prelude.{nat_lt, slice_get, if◌then◌else◌}
use Rattle.std.proofs.lemmas.Bool.Decides.{nat_tests}
use Rattle.std.proofs.lemmas.Option.{slice_get_within}
use Rattle.jolie_trees.specs.Limits.{in_u32, in_u64}
use Rattle.jolie_trees.specs.Trees.{void_tree}
use Rattle.behaviour_tree.specs.declared.words.Outcome.{Outcome}
use Rattle.behaviour_tree.specs.declared.words.Outcome.TheVariants as outcome
use Rattle.behaviour_tree.specs.declared.words.Reason.TheVariants as reason
use Rattle.reqresp_book.specs.declared.book.Book.{Book}
use Rattle.reqresp_book.specs.View.{standing_of, HaveSameOrigins}
use Rattle.office_core.specs.declared.history.Act.TheVariants as act
use Rattle.office_core.specs.declared.history.Entry.{Entry}
use Rattle.office_core.specs.declared.outgoing.OutKind.TheVariants as kind
use Rattle.office_core.specs.Limits.{Setting}
use Rattle.office_core.specs.declared.message.Message.{Message}
use Rattle.office_core.specs.Past.{Past, some_entry, stops, closes, is_running}
use Rattle.office_core.specs.Sessions.{ends}
use Rattle.office_core.specs.Accepted.{then_one, past_of}
use Rattle.office_core.specs.Answers.{is_request, at_once, by_stop, by_session, answers_of}
use Rattle.office_core.specs.Legal.{is_at_work, IsLegalEntry}
use Rattle.office_core.proofs.Longer.{some_same, some_now, messages_same}
use Rattle.office_plain.specs.declared.kept.Kept.{Kept}
use Rattle.office_plain.specs.Entries.{entry}
use Rattle.office_plain.specs.Endings.{answered_with, stopped_at}
use Rattle.office_plain.specs.Places.{places_kept}
use Rattle.office_plain.specs.Stands.{standing_by, StandsSo}
use Rattle.office_plain.specs.Ties.{Ties}
use Rattle.office_plain.proofs.Acting.{left, not_true}
use Rattle.office_plain.proofs.Grows.{past_after, places_by}
use Rattle.office_plain.proofs.Stays.{weight_stays, row_stays, places_stay, waiting_stays, handed_before, by_session_stays, keyed_sessions_stay, calls_stay, brought_stays, unfetched_stays}

-- the stop by a worker is legal
pub legal_stop : (w : Setting) (past : Past) (actor : ℕ) → is_at_work past actor ≡ true → IsLegalEntry w past (entry actor act.Stop)
legal_stop w past actor works = record { allowed = works; reply = refl }

-- a worker works while the run did not stop
pub works_unstopped : (past : Past) (actor : ℕ) → is_at_work past actor ≡ true → some_entry past stops ≡ false
works_unstopped past actor works = not_true (some_entry past stops) (left (is_running past) _ works)

-- the place that was kept for the stop is used then
pub places_after_stop : (w : Setting) (old new : List Entry) (actor kept : ℕ) → new ≡ old ++ entry actor act.Stop ∷ []
    → is_at_work (past_of w old) actor ≡ true → kept + 1 ≡ places_kept (past_of w old) → kept ≡ places_kept (past_of w new)
places_after_stop w old new actor kept added works h =
    let e : Entry = entry actor act.Stop in
    let before : places_kept (past_of w old) ≡ places_by (some_entry (past_of w old) closes) false = ap (places_by (some_entry (past_of w old) closes)) (works_unstopped (past_of w old) actor works) in
    let after : places_kept (past_of w new) ≡ places_by (some_entry (past_of w old) closes) true =
    ap places_kept (past_after w old new e added)
    ∙ (λ i. places_by (some_same w (past_of w old) e closes refl i) (some_now w (past_of w old) e stops refl i)) in
    one_less (some_entry (past_of w old) closes) kept (h ∙ before) ∙ sym after
  where
    one_less : (b : Bool) (n : ℕ) → n + 1 ≡ places_by b false → n ≡ places_by b true
    one_less true n h = omega arith
    one_less false n h = omega arith

-- a number of messages of a run is held by 32 bits
pub small : (n : ℕ) → n ≤ 65536 → in_u32 n ≡ n
small n h = omega arith

-- ---- answers

-- the answers of a message by those at once, those by its session, whether it is a request, and whether the run stopped
abbrev answers_by : Bool → Bool → List Outcome → List Outcome
answers_by request stopped [] =
    (if request then [] else outcome.Value void_tree ∷ []) ++ [] ++ (if request && stopped then outcome.Refused reason.Stopped ∷ [] else [])
answers_by request stopped (o ∷ os) = (if request then [] else outcome.Value void_tree ∷ []) ++ (o ∷ os) ++ []

by_parts : (w : Setting) (past : Past) (n : ℕ) (m : Message) (os : List Outcome)
    → at_once w m ++ os ++ by_stop w past m os ≡ answers_by (is_request w m) (some_entry past stops) os
by_parts w past n m [] = refl
by_parts w past n m (o ∷ os) = refl

-- once the run stopped, a message that had no answer has this one
stopped_by : (request : Bool) (os : List Outcome)
    → answered_with (outcome.Refused reason.Stopped) (standing_by (answers_by request false os)) ≡ standing_by (answers_by request true os)
stopped_by true [] = refl
stopped_by false [] = refl
stopped_by true (o ∷ os) = refl
stopped_by false (o ∷ os) = refl

standings_stop : (w : Setting) (past : Past) (actor count : ℕ) (old new : Book)
    → some_entry past stops ≡ false → count ≡ length past.messages → StandsSo w past old
    → ((j : ℕ) → standing_of new j ≡ stopped_at count j (standing_of old j))
    → StandsSo w (then_one w past (entry actor act.Stop)) new
standings_stop w past actor count old new unstopped all stands changes j m there unhanded =
    changes j
    ∙ ap (λ b. if b then option_map (answered_with (outcome.Refused reason.Stopped)) (standing_of old j) else standing_of old j) below
    ∙ ap (option_map (answered_with (outcome.Refused reason.Stopped))) (stands j m before (handed_before w past e j m.origin unhanded))
    ∙ ap Some (ap (λ os. answered_with (outcome.Refused reason.Stopped) (standing_by os)) was ∙ stopped_by (is_request w m) (by_session w past j m) ∙ sym (ap standing_by is_now))
  where
    e : Entry
    e = entry actor act.Stop

    before : slice_get past.messages j ≡ Some m
    before = sym (ap (λ ms. slice_get ms j) (messages_same w past e refl)) ∙ there

    below : nat_lt j count ≡ true
    below = let l : j < length past.messages = slice_get_within past.messages j m before in grind (arith, nat_tests, all)

    was : answers_of w past j m ≡ answers_by (is_request w m) false (by_session w past j m)
    was = by_parts w past j m (by_session w past j m) ∙ ap (λ b. answers_by (is_request w m) b (by_session w past j m)) unstopped

    is_now : answers_of w (then_one w past e) j m ≡ answers_by (is_request w m) true (by_session w past j m)
    is_now =
        by_parts w (then_one w past e) j m (by_session w (then_one w past e) j m)
        ∙ (λ i. answers_by (is_request w m) (some_now w past e stops refl i) (by_session_stays w past e j m refl refl refl i))

-- after the stop the book has an answer for each message
pub ties_stop : (w : Setting) (past : Past) (actor count : ℕ) (k : Kept) (book : Book)
    → some_entry past stops ≡ false → count ≡ length past.messages → Ties w past k → HaveSameOrigins k.book book
    → ((j : ℕ) → standing_of book j ≡ stopped_at count j (standing_of k.book j))
    → Ties w (then_one w past (entry actor act.Stop)) (record k { book = book })
ties_stop w past actor count k book unstopped all t from changes =
    let e : Entry = entry actor act.Stop in
    record {
      messages = t.messages ∙ sym (messages_same w past e refl);
      few = subst (λ ms. length ms ≤ w.limits.messages) (sym (messages_same w past e refl)) t.few;
      weight = t.weight ∙ ap in_u64 (sym (weight_stays past e refl));
      sessions = λ u. t.sessions u ∙ sym (row_stays w past e u refl refl);
      places = λ u. t.places u ∙ sym (places_stay w past e u refl);
      boxes = λ u h. t.boxes u (sym (some_same w past e (ends u) refl) ∙ h) ∙ sym (waiting_stays w past e u refl);
      origins = λ j. from j ∙ t.origins j ∙ ap (λ ms. option_map (λ (m : Message). m.origin) (slice_get ms j)) (sym (messages_same w past e refl));
      standings = standings_stop w past actor count k.book book unstopped all t.standings changes;
      keys = t.keys ∙ sym (keyed_sessions_stay w past e (λ u. refl) (λ u. refl));
      sent = t.sent ∙ sym (calls_stay w past e refl);
      outcomes = λ i. t.outcomes i ∙ sym (brought_stays w past e i refl (λ c. refl));
      console = t.console ∙ sym (unfetched_stays w past e kind.Console refl (λ c. refl));
      remote = t.remote ∙ sym (unfetched_stays w past e kind.Remote refl (λ c. refl));
    }
