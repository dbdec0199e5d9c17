-- A session takes its oldest message: that leaves its box, and all else stays tied.
use Rattle.std.proofs.Common.{◌≤◌, length, subst, ◌≡◌, ℕ, ◌+◌, Bool, true, false, List, [], ◌∷◌, ◌++◌, refl, sym, ap, ◌∙◌, Option, None, Some, option_map, zero-add}
use Rattle.std.specs.Prelude.{nat_eq, slice_get, is_some, option_and_then}
use Rattle.std.specs.List.{list_any}
use Rattle.jolie_trees.specs.Limits.{in_u64}
use Rattle.post_box.specs.declared.boxes.Boxes.{Boxes}
use Rattle.post_box.specs.Oldest.{oldest, without_oldest}
use Rattle.post_box.specs.View.{box_of, ChangesOnly}
use Rattle.office_core.specs.declared.history.Act.TheVariants as act
use Rattle.office_core.specs.declared.history.Entry.{Entry}
use Rattle.office_core.specs.declared.outgoing.OutKind.TheVariants as kind
use Rattle.office_core.specs.Limits.{Setting}
use Rattle.office_core.specs.declared.message.Message.{Message}
use Rattle.office_core.specs.Past.{Past, stops}
use Rattle.office_core.specs.Sessions.{has_ended, ends}
use Rattle.office_core.specs.Boxes.{taken, taken_in, was_taken, queue}
use Rattle.office_core.specs.Accepted.{then_one}
use Rattle.office_core.specs.Answers.{is_request, reply_in, by_session}
use Rattle.office_core.specs.Keys.{first}
use Rattle.office_core.specs.Legal.{is_acting, IsLegalEntry}
use Rattle.office_core.proofs.Longer.{some_same, given_same, given_more, messages_same}
use Rattle.office_plain.specs.declared.kept.Kept.{Kept}
use Rattle.office_core.specs.declared.post.Mail.{Mail}
use Rattle.office_plain.specs.Entries.{entry, take_entry}
use Rattle.office_plain.specs.Waits.{waiting_from, waiting_for}
use Rattle.office_plain.specs.Replies.{mail_of, next_mail}
use Rattle.office_plain.specs.Ties.{Ties}
use Rattle.office_plain.proofs.Acting.{acting_lives}
use Rattle.office_plain.proofs.Lists.{same_of, eq_true, eq_false}
use Rattle.office_plain.proofs.Waiting.{queue_oldest, Found, found_from, left_from, others_from, or_off, gone_more}
use Rattle.office_plain.proofs.Stays.{left_by, answers_same, weight_stays, row_stays, places_stay, standings_stay, keyed_sessions_stay, calls_stay, brought_stays, unfetched_stays}

-- the oldest message of a box is that of what waits for its session
pub box_oldest : (w : Setting) (past : Past) (s : ℕ) (ops : List ℕ) (k : Kept) (n : Option ℕ) → Ties w past k
    → is_acting w past s ≡ true → n ≡ oldest ops (box_of k.boxes s) → oldest ops (waiting_for past s) ≡ n
box_oldest w past s ops k n t acts first_is =
    sym (first_is ∙ ap (oldest ops) (t.boxes s (acting_lives w past s acts)))

-- the message that a session takes
abbrev taking : ℕ → ℕ → Entry
taking s n = entry s (act.Take n)

-- what the oldest of a session's box is
pub found : (past : Past) (s : ℕ) (ops : List ℕ) (n : ℕ) → oldest ops (waiting_for past s) ≡ Some n
    → Found (taken past) s ops 0 past.messages n
found past s ops n h = found_from (taken past) s ops 0 past.messages n h

pub there : (past : Past) (s : ℕ) (ops : List ℕ) (n : ℕ) (f : Found (taken past) s ops 0 past.messages n)
    → slice_get past.messages n ≡ Some f.message
there past s ops n f =
    let is_place : n ≡ f.place = f.number ∙ zero-add f.place in
    ap (slice_get past.messages) is_place ∙ f.there

-- the take of the oldest message is legal
pub legal_take : (w : Setting) (past : Past) (s : ℕ) (ops : List ℕ) (n : ℕ)
    → is_acting w past s ≡ true → oldest ops (waiting_for past s) ≡ Some n → IsLegalEntry w past (taking s n)
legal_take w past s ops n acts h =
    let f = found past s ops n h in
    record {
      allowed = acts;
      reply = ap (option_map act.Take)
          (ap (option_and_then (λ (m : Message). first (queue past s (m.op ∷ [])))) (there past s ops n f) ∙ f.alone);
    }

-- the entry of the take of what the session is given
pub take_is : (past : Past) (s : ℕ) (ops : List ℕ) (n : ℕ) (mail : Option Mail) → oldest ops (waiting_for past s) ≡ Some n
    → mail ≡ option_map (mail_of n) (slice_get past.messages n) → take_entry s mail ≡ Some (taking s n)
take_is past s ops n mail h given =
    let f = found past s ops n h in
    ap (take_entry s) given ∙ ap (λ m. take_entry s (option_map (mail_of n) m)) (there past s ops n f)

-- what the session is given
pub mail_taken : (past : Past) (s : ℕ) (ops : List ℕ) (n : ℕ) → oldest ops (waiting_for past s) ≡ Some n
    → option_map (mail_of n) (slice_get past.messages n) ≡ next_mail past s ops
mail_taken past s ops n h =
    sym (ap (option_and_then (λ k. option_map (mail_of k) (slice_get past.messages k))) (queue_oldest past s ops ∙ h))

pub no_mail : (past : Past) (s : ℕ) (ops : List ℕ) → oldest ops (waiting_for past s) ≡ None → next_mail past s ops ≡ None
no_mail past s ops h =
    ap (option_and_then (λ k. option_map (mail_of k) (slice_get past.messages k))) (queue_oldest past s ops ∙ h)

-- whether there is something that it is given
pub has_mail : (past : Past) (s : ℕ) (ops : List ℕ) → is_some (oldest ops (waiting_for past s)) ≡ is_some (next_mail past s ops)
has_mail past s ops = by (oldest ops (waiting_for past s)) refl
  where
    by : (o : Option ℕ) → oldest ops (waiting_for past s) ≡ o → is_some (oldest ops (waiting_for past s)) ≡ is_some (next_mail past s ops)
    by None h = ap is_some h ∙ sym (ap is_some (no_mail past s ops h))
    by (Some n) h =
        ap is_some h
        ∙ sym (ap is_some (sym (mail_taken past s ops n h) ∙ ap (option_map (mail_of n)) (there past s ops n (found past s ops n h))))

-- ---- what stays tied

-- the messages that were taken, with this one
taken_more : (w : Setting) (past : Past) (s n : ℕ) → taken (then_one w past (taking s n)) ≡ taken past ++ n ∷ []
taken_more w past s n = given_more w past (taking s n) taken_in n refl

waits_less : (w : Setting) (past : Past) (s t n : ℕ)
    → waiting_for (then_one w past (taking s n)) t ≡ waiting_from (taken past ++ n ∷ []) t 0 past.messages
waits_less w past s t n =
    λ i. waiting_from (taken_more w past s n i) t 0 (messages_same w past (taking s n) refl i)

boxes_take : (w : Setting) (past : Past) (s : ℕ) (ops : List ℕ) (n : ℕ) (k : Kept) (boxes : Boxes)
    → Ties w past k → has_ended past s ≡ false → oldest ops (waiting_for past s) ≡ Some n
    → ChangesOnly s (without_oldest ops (box_of k.boxes s)) k.boxes boxes
    → (t : ℕ) → has_ended past t ≡ false → box_of boxes t ≡ waiting_for (then_one w past (taking s n)) t
boxes_take w past s ops n k boxes ties lives h c t live = by (nat_eq t s) refl
  where
    by : (b : Bool) → nat_eq t s ≡ b → box_of boxes t ≡ waiting_for (then_one w past (taking s n)) t
    by true e =
        ap (box_of boxes) (eq_true t s e) ∙ c.changed ∙ ap (without_oldest ops) (ties.boxes s lives)
        ∙ sym (left_from (taken past) s ops 0 past.messages n h)
        ∙ sym (waits_less w past s s n)
        ∙ ap (waiting_for (then_one w past (taking s n))) (sym (eq_true t s e))
    by false e =
        c.others t (eq_false t s e) ∙ ties.boxes t live
        ∙ sym (others_from (taken past) s t ops 0 past.messages n (eq_false t s e) h)
        ∙ sym (waits_less w past s t n)

-- whether a message of a live session is left does not turn on whether it was taken
not_left : (a b c : Bool) → a ≡ false → left_by b a c ≡ []
not_left a true c h = ap (λ x. left_by true x c) h
not_left a false c h = refl

answers_take : (w : Setting) (past : Past) (s n j : ℕ) (m here : Message)
    → has_ended past s ≡ false → slice_get past.messages n ≡ Some here → nat_eq s here.session ≡ true
    → slice_get past.messages j ≡ Some m
    → by_session w (then_one w past (taking s n)) j m ≡ by_session w past j m
answers_take w past s n j m here lives at went g = by (nat_eq j n) refl
  where
    ended : has_ended (then_one w past (taking s n)) m.session ≡ has_ended past m.session
    ended = some_same w past (taking s n) (ends m.session) refl

    by : (b : Bool) → nat_eq j n ≡ b → by_session w (then_one w past (taking s n)) j m ≡ by_session w past j m
    by true e =
        let same : here ≡ m = same_of here m (sym at ∙ ap (slice_get past.messages) (sym (eq_true j n e)) ∙ g) in
        let session : m.session ≡ s = sym (eq_true s here.session went ∙ ap (λ (x : Message). x.session) same) in
        let before : has_ended past m.session ≡ false = ap (has_ended past) session ∙ lives in
        let lefts : left_by (is_request w m) (has_ended (then_one w past (taking s n)) m.session) (was_taken (then_one w past (taking s n)) j)
        ≡ left_by (is_request w m) (has_ended past m.session) (was_taken past j) =
        not_left (has_ended (then_one w past (taking s n)) m.session) (is_request w m) (was_taken (then_one w past (taking s n)) j) (ended ∙ before)
        ∙ sym (not_left (has_ended past m.session) (is_request w m) (was_taken past j) before) in
        λ i. given_same w past (taking s n) (reply_in j) refl i ++ lefts i
    by false e =
        let same : was_taken (then_one w past (taking s n)) j ≡ was_taken past j =
        ap (list_any (nat_eq j)) (taken_more w past s n) ∙ gone_more (taken past) j n ∙ or_off (was_taken past j) (nat_eq j n) e in
        λ i. given_same w past (taking s n) (reply_in j) refl i ++ left_by (is_request w m) (ended i) (same i)

-- after a take the box is without the message
pub ties_take : (w : Setting) (past : Past) (s : ℕ) (ops : List ℕ) (n : ℕ) (k : Kept) (boxes : Boxes)
    → Ties w past k → has_ended past s ≡ false → oldest ops (waiting_for past s) ≡ Some n
    → ChangesOnly s (without_oldest ops (box_of k.boxes s)) k.boxes boxes
    → Ties w (then_one w past (taking s n)) (record k { boxes = boxes })
ties_take w past s ops n k boxes t lives h c =
    let e : Entry = taking s n in
    let f : Found (taken past) s ops 0 past.messages n = found past s ops n h in
    record {
      messages = t.messages ∙ sym (messages_same w past e refl);
      few = subst (λ ms. length ms ≤ w.limits.messages) (sym (messages_same w past e refl)) t.few;
      weight = t.weight ∙ ap in_u64 (sym (weight_stays past e refl));
      sessions = λ u. t.sessions u ∙ sym (row_stays w past e u refl refl);
      places = λ u. t.places u ∙ sym (places_stay w past e u refl);
      boxes = λ u live. boxes_take w past s ops n k boxes t lives h c u (sym (some_same w past e (ends u) refl) ∙ live);
      origins = λ j. t.origins j ∙ ap (λ ms. option_map (λ (m : Message). m.origin) (slice_get ms j)) (sym (messages_same w past e refl));
      standings = standings_stay w past e k.book
          (λ j m g. answers_same w past (then_one w past e) j m (answers_take w past s n j m f.message lives (there past s ops n f) f.went g) (some_same w past e stops refl))
          t.standings;
      keys = t.keys ∙ sym (keyed_sessions_stay w past e (λ u. refl) (λ u. refl));
      sent = t.sent ∙ sym (calls_stay w past e refl);
      outcomes = λ i. t.outcomes i ∙ sym (brought_stays w past e i refl (λ d. refl));
      console = t.console ∙ sym (unfetched_stays w past e kind.Console refl (λ d. refl));
      remote = t.remote ∙ sym (unfetched_stays w past e kind.Remote refl (λ d. refl));
    }
