-- A session takes the answer of its call: then the book has it no more, and all else stays tied.
use Rattle.std.proofs.Common.{◌≡◌, ◌≢◌, ◌≤◌, ℕ, Bool, true, false, not, ◌&&◌, length, refl, sym, ap, subst, ◌∙◌, Option, None, Some, option_map, true≢false, zero-add}
use Rattle.std.specs.Prelude.{nat_eq, slice_get, is_some, option_and_then, if◌then◌else◌}
use Rattle.jolie_trees.specs.Limits.{in_u64}
use Rattle.behaviour_tree.specs.declared.words.Outcome.{Outcome}
use Rattle.reqresp_book.specs.declared.book.Book.{Book}
use Rattle.reqresp_book.specs.declared.origin.Origin.TheVariants as origin
use Rattle.reqresp_book.specs.Standing.{collected_at}
use Rattle.reqresp_book.specs.View.{standing_of, HaveSameOrigins, Stands}
use Rattle.office_core.specs.declared.message.Call.{Call}
use Rattle.office_core.specs.declared.message.Message.{Message}
use Rattle.office_core.specs.declared.history.Act.TheVariants as act
use Rattle.office_core.specs.declared.history.Entry.{Entry}
use Rattle.office_core.specs.declared.history.Placed.{Placed}
use Rattle.office_core.specs.declared.history.Placed.TheVariants as at
use Rattle.office_core.specs.declared.outgoing.OutKind.TheVariants as kind
use Rattle.office_core.specs.Limits.{Setting}
use Rattle.office_core.specs.Past.{Past, some_entry}
use Rattle.office_core.specs.Sessions.{service_of, has_ended, is_live, ends}
use Rattle.office_core.specs.Accepted.{then_one}
use Rattle.office_core.specs.Answers.{answers_of}
use Rattle.office_core.specs.Calls.{call, calls, outcome_by, result}
use Rattle.office_core.specs.Legal.{is_acting, is_wanted, takes_answer, IsLegalEntry}
use Rattle.office_core.proofs.Longer.{some_same, some_now, messages_same}
use Rattle.office_core.proofs.Numbers.{Numbered}
use Rattle.office_core.proofs.Sent.{AreSent, IsSent}
use Rattle.office_plain.specs.declared.kept.Kept.{Kept}
use Rattle.office_plain.specs.Entries.{entry}
use Rattle.office_plain.specs.Kept.{call_places, brought_for}
use Rattle.office_plain.specs.Rows.{place_of, outcome_placed, outcome_in, outcome_of, message_placed, message_of}
use Rattle.office_plain.specs.Stands.{was_handed_out, standing_by, StandsSo}
use Rattle.office_plain.specs.Ties.{Ties}
use Rattle.office_plain.proofs.Acting.{left, right, not_true, acting_is_live}
use Rattle.office_plain.proofs.CallPlaces.{call_is, seated, Seated}
use Rattle.office_plain.proofs.Lists.{same_of, none_not_some, itself, eq_true, eq_false}
use Rattle.office_plain.proofs.Stays.{weight_stays, row_stays, places_stay, waiting_stays, handed_before, answers_stay, keyed_sessions_stay, calls_stay, brought_stays, unfetched_stays}
use Rattle.office_plain.specs.Taken.{taken_out}
use Rattle.office_plain.proofs.Collecting.{answer_kept}

-- ---- the call that is asked for

-- a call of a session whose answer is wanted: it is there, and its answer was not taken
pub record Wanted (past : Past) (s k : ℕ) : Type 0 where
  pub asked : Call
  pub named : call past s k ≡ Some asked
  pub untaken : some_entry past (takes_answer s k) ≡ false

wanted_by : (past : Past) (s k : ℕ) (g : Option Call) → call past s k ≡ g
    → (elim g [ None ↦ false | Some c ↦ c.wants ]) ≡ true → some_entry past (takes_answer s k) ≡ false → Wanted past s k
wanted_by past s k None e h u = absurd (true≢false (sym h))
wanted_by past s k (Some c) e h u = record { asked = c; named = e; untaken = u }

pub wanted : (past : Past) (s k : ℕ) → is_wanted past s k ≡ true → Wanted past s k
wanted past s k h =
    let untaken : Bool = not (some_entry past (takes_answer s k)) in
    let there : Bool = elim (call past s k) [ None ↦ false | Some c ↦ c.wants ] in
    wanted_by past s k (call past s k) refl (right untaken there h) (not_true (some_entry past (takes_answer s k)) (left untaken there h))

-- it stands at a place among all calls, by its session and its number
pub its_seat : (past : Past) (s k : ℕ) (v : Wanted past s k) → Numbered past s
    → Seated (λ c. nat_eq s c.session) 0 (calls past) k v.asked
its_seat past s k v numbered =
    seated (λ c. nat_eq s c.session) 0 (calls past) k v.asked (sym (call_is past s k numbered) ∙ v.named)

its_session : (past : Past) (s k : ℕ) (v : Wanted past s k) → Numbered past s → s ≡ v.asked.session
its_session past s k v numbered = eq_true s v.asked.session (its_seat past s k v numbered).is_it

its_number : (past : Past) (s k : ℕ) (v : Wanted past s k) → Numbered past s → v.asked.number ≡ k
its_number past s k v numbered = numbered k v.asked (sym (call_is past s k numbered) ∙ v.named)

-- the message that it became, where it went to a service of the program
pub its_message : (past : Past) (s k n : ℕ) (v : Wanted past s k) → Numbered past s → AreSent past → v.asked.placed ≡ at.At n
    → IsSent past s k n
its_message past s k n v numbered sent went =
    let seat = its_seat past s k v numbered in
    let found = sent seat.place n v.asked seat.there went in
    record {
      message = found.message;
      there = found.there;
      from = found.from ∙ ap (λ t. origin.Session t v.asked.number) (sym (its_session past s k v numbered))
          ∙ ap (origin.Session s) (its_number past s k v numbered);
    }

-- ---- its outcome

some_born : (o : Option ℕ) → is_some o ≡ true → (d : ℕ) × (o ≡ Some d)
some_born None h = absurd (true≢false (sym h))
some_born (Some d) h = (d, refl)

-- what is kept has the place of the call
place_kept : (w : Setting) (past : Past) (s k : ℕ) (kept : Kept) (v : Wanted past s k) (numbered : Numbered past s)
    → Ties w past kept → is_live w past s ≡ true → place_of kept s k ≡ Some (its_seat past s k v numbered).place
place_kept w past s k kept v numbered t lives =
    let born = some_born (service_of w past s) (left (is_some (service_of w past s)) (not (has_ended past s)) lives) in
    let seat = its_seat past s k v numbered in
    ap (option_and_then (λ ps. slice_get ps k)) (t.places s ∙ ap (option_map (λ d. call_places past s)) born.1)
    ∙ seat.placed ∙ ap Some (zero-add seat.place)

outcome_placed_is : (w : Setting) (past : Past) (s k p : ℕ) (kept : Kept) (c : Call) (r : Placed)
    → Ties w past kept → slice_get (calls past) p ≡ Some c → some_entry past (takes_answer s k) ≡ false
    → ((n : ℕ) → r ≡ at.At n → IsSent past s k n) → outcome_placed kept p r ≡ outcome_by w past c r
outcome_placed_is w past s k p kept c at.Out t there untaken sent =
    ap (option_and_then (λ o. o)) (t.outcomes p ∙ ap (option_map (brought_for past)) there)
outcome_placed_is w past s k p kept c (at.Refused why) t there untaken sent = refl
outcome_placed_is w past s k p kept c (at.At n) t there untaken sent =
    let m = sent n refl in
    answer_kept w past kept.book n m.message t.standings m.there (ap (was_handed_out past n) m.from ∙ untaken)

-- the kept outcome of a call is its result
pub outcome_kept : (w : Setting) (past : Past) (s k : ℕ) (kept : Kept) → is_acting w past s ≡ true → is_wanted past s k ≡ true
    → Numbered past s → AreSent past → Ties w past kept → outcome_of kept s k ≡ result w past s k
outcome_kept w past s k kept acts wants numbered sent t =
    let v = wanted past s k wants in
    let seat = its_seat past s k v numbered in
    let there : slice_get kept.calls seat.place ≡ Some v.asked = ap (λ cs. slice_get cs seat.place) t.sent ∙ seat.there in
    ap (option_and_then (outcome_in kept)) (place_kept w past s k kept v numbered t (acting_is_live w past s acts))
    ∙ ap (option_and_then (λ (c : Call). outcome_placed kept seat.place c.placed)) there
    ∙ outcome_placed_is w past s k seat.place kept v.asked v.asked.placed t seat.there v.untaken
    (λ n went. its_message past s k n v numbered sent went)
    ∙ sym (ap (option_and_then (λ c. outcome_by w past c c.placed)) v.named)

-- what is kept has the message that the call became
message_kept : (w : Setting) (past : Past) (s k : ℕ) (kept : Kept) (v : Wanted past s k) (numbered : Numbered past s)
    → Ties w past kept → is_live w past s ≡ true → message_of kept s k ≡ message_placed v.asked.placed
message_kept w past s k kept v numbered t lives =
    let seat = its_seat past s k v numbered in
    let there : slice_get kept.calls seat.place ≡ Some v.asked = ap (λ cs. slice_get cs seat.place) t.sent ∙ seat.there in
    ap (option_and_then (λ p. option_and_then (λ (c : Call). message_placed c.placed) (slice_get kept.calls p))) (place_kept w past s k kept v numbered t lives)
    ∙ ap (option_and_then (λ (c : Call). message_placed c.placed)) there

went_to : (r : Placed) (n : ℕ) → message_placed r ≡ Some n → r ≡ at.At n
went_to at.Out n h = absurd (none_not_some n h)
went_to (at.Refused why) n h = absurd (none_not_some n h)
went_to (at.At m) n h = ap at.At (same_of m n h)

-- a message that what is kept has for the call is that which it became
pub message_sent : (w : Setting) (past : Past) (s k : ℕ) (kept : Kept) → is_acting w past s ≡ true → is_wanted past s k ≡ true
    → Numbered past s → AreSent past → Ties w past kept → (n : ℕ) → message_of kept s k ≡ Some n → IsSent past s k n
message_sent w past s k kept acts wants numbered sent t n h =
    let v = wanted past s k wants in
    its_message past s k n v numbered sent
    (went_to v.asked.placed n (sym (message_kept w past s k kept v numbered t (acting_is_live w past s acts)) ∙ h))

-- the take of an answer is legal
pub legal_answer : (w : Setting) (past : Past) (s k : ℕ) (o : Outcome)
    → is_acting w past s ≡ true → is_wanted past s k ≡ true → result w past s k ≡ Some o
    → IsLegalEntry w past (entry s (act.Answer k o))
legal_answer w past s k o acts wants has =
    record { allowed = ap (λ b. b && is_wanted past s k) acts ∙ wants; reply = ap (option_map (act.Answer k)) has }

-- ---- what stays tied

taken_now : (w : Setting) (past : Past) (s k n : ℕ) (o : Outcome)
    → was_handed_out (then_one w past (entry s (act.Answer k o))) n (origin.Session s k) ≡ true
taken_now w past s k n o =
    some_now w past (entry s (act.Answer k o)) (takes_answer s k) (ap (λ b. b && nat_eq k k) (itself s) ∙ itself k)

-- how it stands once an answer was taken out of the book
pub out_of_book : (old new : Book) (m : ℕ) → Stands m (collected_at (standing_of old m)) old new
    → (n : ℕ) → standing_of new n ≡ taken_out (Some m) n (standing_of old n)
out_of_book old new m changes n = by (nat_eq n m) refl
  where
    by : (b : Bool) → nat_eq n m ≡ b → standing_of new n ≡ (if b then collected_at (standing_of old n) else standing_of old n)
    by true q =
        ap (standing_of new) (eq_true n m q) ∙ changes.changed
        ∙ sym (ap (λ i. collected_at (standing_of old i)) (eq_true n m q))
    by false q = changes.others n (eq_false n m q)

-- the book once the answer of the message that the call became, if it became one, was taken out
pub standings_taken : (w : Setting) (past : Past) (s k : ℕ) (o : Outcome) (old new : Book) (g : Option ℕ)
    → ((n : ℕ) → g ≡ Some n → IsSent past s k n) → StandsSo w past old
    → ((n : ℕ) → standing_of new n ≡ taken_out g n (standing_of old n))
    → StandsSo w (then_one w past (entry s (act.Answer k o))) new
standings_taken w past s k o old new g sent stands changes j m there unhanded = by g refl
  where
    e : Entry
    e = entry s (act.Answer k o)

    before : slice_get past.messages j ≡ Some m
    before = sym (ap (λ ms. slice_get ms j) (messages_same w past e refl)) ∙ there

    stays : standing_of old j ≡ Some (standing_by (answers_of w (then_one w past e) j m))
    stays =
        stands j m before (handed_before w past e j m.origin unhanded)
        ∙ sym (ap (λ os. Some (standing_by os)) (answers_stay w past e j m refl refl refl refl))

    its_own : (n : ℕ) → IsSent past s k n → (b : Bool) → nat_eq j n ≡ b
        → (if b then collected_at (standing_of old j) else standing_of old j) ≡ Some (standing_by (answers_of w (then_one w past e) j m))
    its_own n found true q =
        let same : found.message ≡ m = same_of found.message m (sym found.there ∙ ap (slice_get past.messages) (sym (eq_true j n q)) ∙ before) in
        let from : m.origin ≡ origin.Session s k = ap (λ (x : Message). x.origin) (sym same) ∙ found.from in
        let handed : was_handed_out (then_one w past e) j m.origin ≡ true =
        ap (was_handed_out (then_one w past e) j) from ∙ taken_now w past s k j o in
        absurd (true≢false (sym handed ∙ unhanded))
    its_own n found false q = stays

    by : (o : Option ℕ) → g ≡ o → standing_of new j ≡ Some (standing_by (answers_of w (then_one w past e) j m))
    by None h = changes j ∙ ap (λ x. taken_out x j (standing_of old j)) h ∙ stays
    by (Some n) h =
        changes j ∙ ap (λ x. taken_out x j (standing_of old j)) h ∙ its_own n (sent n h) (nat_eq j n) refl

-- after the take of an answer
pub ties_answer : (w : Setting) (past : Past) (s k : ℕ) (o : Outcome) (kept : Kept) (book : Book) (g : Option ℕ)
    → ((n : ℕ) → g ≡ Some n → IsSent past s k n) → Ties w past kept → HaveSameOrigins kept.book book
    → ((n : ℕ) → standing_of book n ≡ taken_out g n (standing_of kept.book n))
    → Ties w (then_one w past (entry s (act.Answer k o))) (record kept { book = book })
ties_answer w past s k o kept book g sent t from changes =
    let e : Entry = entry s (act.Answer k o) in
    record {
      messages = t.messages ∙ sym (messages_same w past e refl);
      few = subst (λ ms. length ms ≤ w.limits.messages) (sym (messages_same w past e refl)) t.few;
      weight = t.weight ∙ ap in_u64 (sym (weight_stays past e refl));
      sessions = λ u. t.sessions u ∙ sym (row_stays w past e u refl refl);
      places = λ u. t.places u ∙ sym (places_stay w past e u refl);
      boxes = λ u h. t.boxes u (sym (some_same w past e (ends u) refl) ∙ h) ∙ sym (waiting_stays w past e u refl);
      origins = λ j. from j ∙ t.origins j ∙ ap (λ ms. option_map (λ (m : Message). m.origin) (slice_get ms j)) (sym (messages_same w past e refl));
      standings = standings_taken w past s k o kept.book book g sent t.standings changes;
      keys = t.keys ∙ sym (keyed_sessions_stay w past e (λ u. refl) (λ u. refl));
      sent = t.sent ∙ sym (calls_stay w past e refl);
      outcomes = λ i. t.outcomes i ∙ sym (brought_stays w past e i refl (λ c. refl));
      console = t.console ∙ sym (unfetched_stays w past e kind.Console refl (λ c. refl));
      remote = t.remote ∙ sym (unfetched_stays w past e kind.Remote refl (λ c. refl));
    }
