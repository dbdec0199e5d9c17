-- A session answers a message that it took: the book has the answer, and all else stays tied.
use Rattle.std.proofs.Common.{◌≡◌, ◌≤◌, ℕ, ◌+◌, ◌-◌, Bool, true, false, ◌&&◌, List, [], ◌∷◌, ◌++◌, length, refl, sym, ap, subst, ◌∙◌, Option, None, Some, option_map, true≢false, zero-add, arith}
use Rattle.std.specs.Prelude.{nat_eq, slice_get, sum_by, if◌then◌else◌}
use Rattle.std.specs.List.{list_any}
use Rattle.std.proofs.lemmas.List.Sums.{sum_by-append}
use Rattle.jolie_trees.specs.Limits.{in_u64}
use Rattle.behaviour_tree.specs.declared.words.Outcome.{Outcome}
use Rattle.reqresp_book.specs.declared.book.Book.{Book}
use Rattle.reqresp_book.specs.View.{standing_of, HaveSameOrigins}
use Rattle.office_core.specs.declared.history.Act.TheVariants as act
use Rattle.office_core.specs.declared.history.Entry.{Entry}
use Rattle.office_core.specs.declared.outgoing.OutKind.TheVariants as kind
use Rattle.office_core.specs.Limits.{Setting}
use Rattle.office_core.specs.declared.message.Message.{Message}
use Rattle.office_core.specs.Past.{Past}
use Rattle.office_core.specs.Sessions.{ends}
use Rattle.office_core.specs.Boxes.{took, taken_in}
use Rattle.office_core.specs.Weights.{weight, outcome_weight, reply_weight, total_weight}
use Rattle.office_core.specs.Accepted.{then_one}
use Rattle.office_core.specs.Answers.{is_request, at_once, replies, reply_in, by_end, by_stop, by_session, answers_of, is_open}
use Rattle.office_core.specs.Legal.{is_acting, IsLegalEntry}
use Rattle.office_core.proofs.Longer.{some_same, given_same, given_more, messages_same}
use Rattle.office_core.proofs.OneAnswer.{front_nil, rest_nil}
use Rattle.office_plain.specs.declared.kept.Kept.{Kept}
use Rattle.office_plain.specs.Entries.{entry}
use Rattle.office_plain.specs.Endings.{answered_at, answered_with}
use Rattle.office_plain.specs.Stands.{standing_by, StandsSo}
use Rattle.office_plain.specs.Ties.{Ties}
use Rattle.office_plain.proofs.Lists.{same_of, itself, eq_true}
use Rattle.office_plain.proofs.Stays.{saturates, left_by, row_stays, places_stay, waiting_stays, handed_before, answers_stay, keyed_sessions_stay, calls_stay, brought_stays, unfetched_stays}

-- the reply to an open message that the session took is legal
pub legal_reply : (w : Setting) (past : Past) (s n : ℕ) (o : Outcome)
    → is_acting w past s ≡ true → took past s n ≡ true → is_open w past n ≡ true
    → IsLegalEntry w past (entry s (act.Reply n o))
legal_reply w past s n o acts took_it is_open_now =
    record {
      allowed = ap (λ b. b && took past s n && is_open w past n) acts
          ∙ ap (λ b. b && is_open w past n) took_it ∙ is_open_now;
      reply = refl;
    }

-- ---- weight

-- the reply adds its weight
pub weight_reply : (w : Setting) (past : Past) (s n : ℕ) (o : Outcome)
    → in_u64 (in_u64 (total_weight past) + in_u64 (outcome_weight o)) ≡ in_u64 (total_weight (then_one w past (entry s (act.Reply n o))))
weight_reply w past s n o = saturates (total_weight past) (outcome_weight o) ∙ ap in_u64 sums
  where
    sums : total_weight past + outcome_weight o ≡ total_weight (then_one w past (entry s (act.Reply n o)))
    sums =
        let more : sum_by reply_weight (past.entries ++ entry s (act.Reply n o) ∷ []) ≡ sum_by reply_weight past.entries + sum_by reply_weight (entry s (act.Reply n o) ∷ []) = sum_by-append reply_weight past.entries (entry s (act.Reply n o) ∷ []) in
        let last : sum_by reply_weight (entry s (act.Reply n o) ∷ []) ≡ outcome_weight o = zero-add (outcome_weight o) in
        let all : total_weight past + outcome_weight o ≡ sum_by (λ (m : Message). weight m.value) past.messages + sum_by reply_weight (past.entries ++ entry s (act.Reply n o) ∷ []) = omega arith in
        all ∙ ap (λ ms. sum_by (λ (m : Message). weight m.value) ms + sum_by reply_weight (past.entries ++ entry s (act.Reply n o) ∷ [])) (sym (messages_same w past (entry s (act.Reply n o)) refl))

-- ---- answers

-- an open message: it is there, and has no answer
record Open (w : Setting) (past : Past) (n : ℕ) : Type 0 where
  message : Message
  there : slice_get past.messages n ≡ Some message
  none : answers_of w past n message ≡ []

-- whether a message without these answers is open
abbrev open_by : Setting → Message → List Outcome → Bool
open_by w m os = elim os [ [] ↦ is_request w m | q ∷ qs ↦ false ]

open_of : (w : Setting) (past : Past) (n : ℕ) (m : Message) (os : List Outcome)
    → slice_get past.messages n ≡ Some m → answers_of w past n m ≡ os → open_by w m os ≡ true → Open w past n
open_of w past n m [] there e h = record { message = m; there = there; none = e }
open_of w past n m (q ∷ qs) there e h = absurd (true≢false (sym h))

open_at : (w : Setting) (past : Past) (n : ℕ) (g : Option Message) → slice_get past.messages n ≡ g
    → (elim g [ None ↦ false | Some m ↦ open_by w m (answers_of w past n m) ]) ≡ true → Open w past n
open_at w past n None there h = absurd (true≢false (sym h))
open_at w past n (Some m) there h = open_of w past n m (answers_of w past n m) there refl h

opened : (w : Setting) (past : Past) (n : ℕ) → is_open w past n ≡ true → Open w past n
opened w past n h = open_at w past n (slice_get past.messages n) refl h

-- the answers of a message that had none, once it is replied to
answered : (w : Setting) (past : Past) (s n : ℕ) (o : Outcome) (m : Message) → answers_of w past n m ≡ []
    → answers_of w (then_one w past (entry s (act.Reply n o))) n m ≡ o ∷ []
answered w past s n o m none =
    (λ i. at_none i ++ session i ++ by_stop w (then_one w past e) m (session i))
  where
    e : Entry
    e = entry s (act.Reply n o)

    at_none : at_once w m ≡ []
    at_none = front_nil (at_once w m) (by_session w past n m)
        (front_nil (at_once w m ++ by_session w past n m) (by_stop w past m (by_session w past n m)) none)

    before : by_session w past n m ≡ []
    before = rest_nil (at_once w m) (by_session w past n m)
        (front_nil (at_once w m ++ by_session w past n m) (by_stop w past m (by_session w past n m)) none)

    more : replies (then_one w past e) n ≡ o ∷ []
    more = given_more w past e (reply_in n) o (ap (λ b. if b then Some o else None) (itself n))
        ∙ ap (λ os. os ++ o ∷ []) (front_nil (replies past n) (by_end w past n m) before)

    ended : by_end w (then_one w past e) n m ≡ []
    ended =
        let same : by_end w (then_one w past e) n m ≡ by_end w past n m =
        λ i. left_by (is_request w m) (some_same w past e (ends m.session) refl i) (list_any (nat_eq n) (given_same w past e taken_in refl i)) in
        same ∙ rest_nil (replies past n) (by_end w past n m) before

    session : by_session w (then_one w past e) n m ≡ o ∷ []
    session = λ i. more i ++ ended i

standings_reply : (w : Setting) (past : Past) (s n : ℕ) (o : Outcome) (old new : Book)
    → is_open w past n ≡ true → StandsSo w past old
    → ((j : ℕ) → standing_of new j ≡ answered_at n o j (standing_of old j))
    → StandsSo w (then_one w past (entry s (act.Reply n o))) new
standings_reply w past s n o old new is_open_now stands changes j m there unhanded = by (nat_eq j n) refl
  where
    e : Entry
    e = entry s (act.Reply n o)

    before : slice_get past.messages j ≡ Some m
    before = sym (ap (λ ms. slice_get ms j) (messages_same w past e refl)) ∙ there

    stood : standing_of old j ≡ Some (standing_by (answers_of w past j m))
    stood = stands j m before (handed_before w past e j m.origin unhanded)

    by : (b : Bool) → nat_eq j n ≡ b → standing_of new j ≡ Some (standing_by (answers_of w (then_one w past e) j m))
    by true q =
        let here = opened w past n is_open_now in
        let is_n : j ≡ n = eq_true j n q in
        let same : here.message ≡ m = same_of here.message m (sym here.there ∙ ap (slice_get past.messages) (sym is_n) ∙ before) in
        let none : answers_of w past n m ≡ [] = ap (answers_of w past n) (sym same) ∙ here.none in
        changes j ∙ ap (λ b. if b then option_map (answered_with o) (standing_of old j) else standing_of old j) q
        ∙ ap (option_map (answered_with o)) (stood ∙ ap (λ i. Some (standing_by (answers_of w past i m))) is_n ∙ ap (λ os. Some (standing_by os)) none)
        ∙ sym (ap (λ i. Some (standing_by (answers_of w (then_one w past e) i m))) is_n
        ∙ ap (λ os. Some (standing_by os)) (answered w past s n o m none))
    by false q =
        changes j ∙ ap (λ b. if b then option_map (answered_with o) (standing_of old j) else standing_of old j) q
        ∙ stood
        ∙ sym (ap (λ os. Some (standing_by os)) (answers_stay w past e j m (ap (λ b. if b then Some o else None) q) refl refl refl))

-- after a reply the book has the answer
pub ties_reply : (w : Setting) (past : Past) (s n : ℕ) (o : Outcome) (k : Kept) (weight : ℕ) (book : Book)
    → is_open w past n ≡ true → weight ≡ in_u64 (k.weight + in_u64 (outcome_weight o)) → Ties w past k → HaveSameOrigins k.book book
    → ((j : ℕ) → standing_of book j ≡ answered_at n o j (standing_of k.book j))
    → Ties w (then_one w past (entry s (act.Reply n o)))
    (record k { weight = weight; book = book })
ties_reply w past s n o k weight book is_open_now heavier t from changes =
    let e : Entry = entry s (act.Reply n o) in
    record {
      messages = t.messages ∙ sym (messages_same w past e refl);
      few = subst (λ ms. length ms ≤ w.limits.messages) (sym (messages_same w past e refl)) t.few;
      weight = heavier ∙ ap (λ x. in_u64 (x + in_u64 (outcome_weight o))) t.weight ∙ weight_reply w past s n o;
      sessions = λ u. t.sessions u ∙ sym (row_stays w past e u refl refl);
      places = λ u. t.places u ∙ sym (places_stay w past e u refl);
      boxes = λ u h. t.boxes u (sym (some_same w past e (ends u) refl) ∙ h) ∙ sym (waiting_stays w past e u refl);
      origins = λ j. from j ∙ t.origins j ∙ ap (λ ms. option_map (λ (m : Message). m.origin) (slice_get ms j)) (sym (messages_same w past e refl));
      standings = standings_reply w past s n o k.book book is_open_now t.standings changes;
      keys = t.keys ∙ sym (keyed_sessions_stay w past e (λ u. refl) (λ u. refl));
      sent = t.sent ∙ sym (calls_stay w past e refl);
      outcomes = λ i. t.outcomes i ∙ sym (brought_stays w past e i refl (λ c. refl));
      console = t.console ∙ sym (unfetched_stays w past e kind.Console refl (λ c. refl));
      remote = t.remote ∙ sym (unfetched_stays w past e kind.Remote refl (λ c. refl));
    }
