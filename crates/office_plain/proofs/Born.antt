-- Messages go to sessions that were born, so that the box of the next one is empty.
use Rattle.std.proofs.Common.{◌≡◌, ◌<◌, ◌⊎◌, inl, inr, ℕ, zero, suc, true, false, not, ◌&&◌, List, [], ◌∷◌, ◌++◌, length, refl, sym, ap, subst, ◌∙◌, Option, None, Some, is_some, true≢false, append_assoc, arith}
use Rattle.std.specs.Prelude.{nat_eq, nat_le, slice_get, option_and_then, take, if◌then◌else◌}
use Rattle.std.specs.List.{list_any, filter_map, cons_option}
use Rattle.std.proofs.lemmas.Bool.Decides.{nat_tests}
use Rattle.std.proofs.lemmas.List.Elements.{filter_map-append}
use Rattle.behaviour_tree.specs.Data.{ProgramParts}
use Rattle.post_box.specs.Oldest.{waiting}
use Rattle.post_box.specs.Refusals.{HasRoom}
use Rattle.post_box.specs.View.{box_of}
use Rattle.reqresp_book.specs.declared.origin.Origin.{Origin}
use Rattle.office_core.specs.declared.history.Entry.{Entry}
use Rattle.office_core.specs.declared.message.Message.{Message}
use Rattle.office_core.specs.declared.post.Posted.{Posted}
use Rattle.office_core.specs.Limits.{Setting, run_of}
use Rattle.office_core.specs.Past.{Past, nothing_yet}
use Rattle.office_core.specs.Sessions.{singles_from, started_by, births, service_of, has_ended}
use Rattle.office_core.specs.Boxes.{taken, box}
use Rattle.office_core.specs.Route.{Way, to_session, to_new, refused_for, Asked, asked_of, route}
use Rattle.office_core.specs.Accepted.{handed_in, origin_of, message_to, message_on, message_of, accepted_in, with_message, then_one, then_all, past_of}
use Rattle.office_core.specs.Legal.{IsLegal}
use Rattle.office_core.proofs.Unborn.{unborn_idle}
use Rattle.office_plain.specs.declared.kept.Kept.{Kept}
use Rattle.office_plain.specs.Ties.{Ties}
use Rattle.office_plain.specs.Waits.{waiting_from, waiting_for}
use Rattle.office_plain.proofs.Births.{none_at_end}
use Rattle.office_plain.proofs.Lists.{same_of, none_not_some, not_eq}
use Rattle.office_plain.proofs.Routed.{goes_to, comes}
use Rattle.office_plain.proofs.Unseen.{last_there}
use Rattle.office_plain.proofs.Waiting.{box_count}
use Rattle.office_plain.proofs.Found.{route_finds}

-- ---- lists

in_front : {A : Type 0} (xs ys : List A) (n : ℕ) → is_some (slice_get xs n) ≡ true → is_some (slice_get (xs ++ ys) n) ≡ true
in_front [] ys n h = absurd (true≢false (sym h))
in_front (x ∷ xs) ys zero h = refl
in_front (x ∷ xs) ys (suc n) h = in_front xs ys n h

-- what stands in a list with one more
last_or_before : {A : Type 0} (xs : List A) (x y : A) (i : ℕ) → slice_get (xs ++ x ∷ []) i ≡ Some y
    → (slice_get xs i ≡ Some y) ⊎ (x ≡ y)
last_or_before [] x y zero h = inr (same_of x y h)
last_or_before [] x y (suc i) h = absurd (none_not_some y h)
last_or_before (z ∷ xs) x y zero h = inl h
last_or_before (z ∷ xs) x y (suc i) h = last_or_before xs x y i h

-- ---- births

-- the births once a message more is there, where there is one
abbrev births_with : Setting → Past → Option Message → List ℕ
births_with w past o =
    take w.limits.sessions (singles_from 0 w.parts.services) ++ filter_map started_by (with_message past.messages o)

births_more : (w : Setting) (past : Past) (m : Message)
    → births_with w past (Some m) ≡ births w past ++ cons_option (started_by m) []
births_more w past m =
    ap (λ l. singles ++ l) (filter_map-append started_by past.messages (m ∷ []))
    ∙ sym (append_assoc singles (filter_map started_by past.messages) (filter_map started_by (m ∷ [])))
  where
    singles : List ℕ
    singles = take w.limits.sessions (singles_from 0 w.parts.services)

-- who was born stays born
born_still : (w : Setting) (past : Past) (o : Option Message) (s : ℕ) → is_some (service_of w past s) ≡ true
    → is_some (slice_get (births_with w past o) s) ≡ true
born_still w past None s h = h
born_still w past (Some m) s h =
    ap (λ l. is_some (slice_get l s)) (births_more w past m)
    ∙ in_front (births w past) (cons_option (started_by m) []) s h

-- the session of a message that is accepted is born then
born_then : (w : Setting) (past : Past) (from : Origin) (q : Posted) (m : Message) → message_of w past from q ≡ Some m
    → is_some (slice_get (births_with w past (Some m)) m.session) ≡ true
born_then w past from q m h = by (asked_of w q) h
  where
    on : (a : Asked) (way : Way) → route w past q ≡ way → message_on w past from a way ≡ Some m
        → is_some (slice_get (births_with w past (Some m)) m.session) ≡ true
    on a (to_session s) e g =
        born_still w past (Some m) m.session
        (ap (λ (x : Message). is_some (service_of w past x.session)) (sym (same_of (message_to w from s false a) m g))
        ∙ (route_finds w past q s (ap goes_to e)).born)
    on a to_new e g =
        subst (λ (x : Message). is_some (slice_get (births_with w past (Some x)) x.session) ≡ true)
        (same_of (message_to w from (length (births w past)) true a) m g)
        (ap (λ l. is_some (slice_get l (length (births w past))))
        (births_more w past (message_to w from (length (births w past)) true a))
        ∙ ap is_some (last_there (births w past) a.number))
    on a (refused_for why) e g = absurd (none_not_some m g)

    by : (o : Option Asked) → option_and_then (λ a. message_on w past from a (route w past q)) o ≡ Some m
        → is_some (slice_get (births_with w past (Some m)) m.session) ≡ true
    by None g = absurd (none_not_some m g)
    by (Some a) g = on a (route w past q) refl g

-- ---- messages

-- each message went to a session that was born
abbrev SentToBorn : Setting → Past → Type 0
SentToBorn w past =
    (i : ℕ) (m : Message) → slice_get past.messages i ≡ Some m → is_some (service_of w past m.session) ≡ true

handed_born : (w : Setting) (past : Past) (from : Origin) (g : Option Posted) (m : Message)
    → option_and_then (message_of w past from) g ≡ Some m
    → is_some (slice_get (births_with w past (Some m)) m.session) ≡ true
handed_born w past from None m h = absurd (none_not_some m h)
handed_born w past from (Some q) m h = born_then w past from q m h

sent_with : (w : Setting) (past : Past) (o : Option Message) → SentToBorn w past
    → ((m : Message) → o ≡ Some m → is_some (slice_get (births_with w past (Some m)) m.session) ≡ true)
    → (i : ℕ) (m : Message) → slice_get (with_message past.messages o) i ≡ Some m
    → is_some (slice_get (births_with w past o) m.session) ≡ true
sent_with w past None sent new i m h = sent i m h
sent_with w past (Some n) sent new i m h = by (last_or_before past.messages n m i h)
  where
    by : (slice_get past.messages i ≡ Some m) ⊎ (n ≡ m)
        → is_some (slice_get (births_with w past (Some n)) m.session) ≡ true
    by (inl e) = born_still w past (Some n) m.session (sent i m e)
    by (inr e) = ap (λ (x : Message). is_some (slice_get (births_with w past (Some n)) x.session)) (sym e) ∙ new n refl

sent_one : (w : Setting) (past : Past) (e : Entry) → SentToBorn w past → SentToBorn w (then_one w past e)
sent_one w past e sent =
    sent_with w past (accepted_in w past e) sent
    (handed_born w past (origin_of e.actor e.act) (handed_in w past e.actor e.act))

sent_all : (w : Setting) (past : Past) (es : List Entry) → SentToBorn w past → SentToBorn w (then_all w past es)
sent_all w past [] sent = sent
sent_all w past (e ∷ es) sent = sent_all w (then_one w past e) es (sent_one w past e sent)

sent_to_born : (w : Setting) (h : List Entry) → SentToBorn w (past_of w h)
sent_to_born w h = sent_all w nothing_yet h (λ i m e. absurd (none_not_some m e))

-- ---- the box of the next session

empty_from : (gone : List ℕ) (s k : ℕ) (ms : List Message)
    → ((i : ℕ) (m : Message) → slice_get ms i ≡ Some m → nat_eq s m.session ≡ false) → waiting_from gone s k ms ≡ []
empty_from gone s k [] h = refl
empty_from gone s k (m ∷ ms) h =
    ap (λ b. (if b && not (list_any (nat_eq k) gone) then waiting m.op k ∷ [] else []) ++ waiting_from gone s (suc k) ms)
    (h 0 m refl)
    ∙ empty_from gone s (suc k) ms (λ i. h (suc i))

-- nothing waits for the session that is born next
empty_next : (w : Setting) (h : List Entry) → waiting_for (past_of w h) (length (births w (past_of w h))) ≡ []
empty_next w h =
    empty_from (taken past) (length (births w past)) 0 past.messages
    (λ i m e. not_eq (length (births w past)) m.session
    (λ same. true≢false (sym (sent_to_born w h i m e)
    ∙ ap (λ n. is_some (slice_get (births w past) n)) (sym same) ∙ ap is_some (none_at_end (births w past)))))
  where
    past : Past
    past = past_of w h

-- ---- room

few : (n most : ℕ) → nat_le most n ≡ false → n < most
few n most h = grind (arith, nat_tests)

some_room : 0 < 256
some_room = omega arith

-- a message that is accepted finds room in the box of its session
pub finds_room : (parts : ProgramParts) (h : List Entry) (kept : Kept) (from : Origin) (q : Posted) (m : Message)
    → IsLegal (run_of parts) h → Ties (run_of parts) (past_of (run_of parts) h) kept
    → message_of (run_of parts) (past_of (run_of parts) h) from q ≡ Some m → HasRoom (box_of kept.boxes m.session)
finds_room parts h kept from q m legal ties goes = by (asked_of w q) goes
  where
    w : Setting
    w = run_of parts

    past : Past
    past = past_of w h

    lives : has_ended past m.session ≡ false
    lives = (comes w past from q m (unborn_idle w h (length (births w past)) legal) goes).lives

    boxed : length (box_of kept.boxes m.session) ≡ length (waiting_for past m.session)
    boxed = ap (λ l. length l) (ties.boxes m.session lives)

    there : (s : ℕ) → m.session ≡ s → goes_to (route w past q) ≡ Some s → length (box_of kept.boxes m.session) < 256
    there s e g =
        subst (λ n. n < 256)
        (box_count past s ∙ ap (λ t. length (waiting_for past t)) (sym e) ∙ sym boxed)
        (few (length (box past s)) 256 (route_finds w past q s g).room)

    on : (a : Asked) (way : Way) → route w past q ≡ way → message_on w past from a way ≡ Some m
        → length (box_of kept.boxes m.session) < 256
    on a (to_session s) e g =
        there s (ap (λ (x : Message). x.session) (sym (same_of (message_to w from s false a) m g))) (ap goes_to e)
    on a to_new e g =
        let next : m.session ≡ length (births w past)
        = ap (λ (x : Message). x.session) (sym (same_of (message_to w from (length (births w past)) true a) m g)) in
        subst (λ n. n < 256)
        (sym (boxed ∙ ap (λ t. length (waiting_for past t)) next ∙ ap (λ l. length l) (empty_next w h))) some_room
    on a (refused_for why) e g = absurd (none_not_some m g)

    by : (o : Option Asked) → option_and_then (λ a. message_on w past from a (route w past q)) o ≡ Some m
        → length (box_of kept.boxes m.session) < 256
    by None g = absurd (none_not_some m g)
    by (Some a) g = on a (route w past q) refl g
