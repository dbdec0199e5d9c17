-- What an entry of another kind leaves as it is.
use Rattle.std.proofs.Common.{◌≡◌, ℕ, zero, suc, ◌+◌, Bool, true, false, not, ◌&&◌, ◌||◌, List, [], ◌∷◌, ◌++◌, map, refl, sym, ap, subst, ◌∙◌, Option, None, Some, option_map, zero-add, arith}
use Rattle.std.specs.Prelude.{nat_eq, slice_get, if◌then◌else◌, sum_by, take}
use Rattle.std.specs.List.{list_any, filter_map}
use Rattle.std.proofs.lemmas.List.Sums.{sum_by-append}
use Rattle.jolie_trees.specs.Limits.{in_u64}
use Rattle.jolie_trees.specs.Trees.{void_tree}
use Rattle.behaviour_tree.specs.declared.words.Outcome.{Outcome}
use Rattle.behaviour_tree.specs.declared.words.Outcome.TheVariants as outcome
use Rattle.behaviour_tree.specs.declared.words.Reason.TheVariants as reason
use Rattle.reqresp_book.specs.declared.book.Book.{Book}
use Rattle.reqresp_book.specs.declared.origin.Origin.{Origin}
use Rattle.reqresp_book.specs.declared.origin.Origin.TheVariants as origin
use Rattle.office_core.specs.declared.history.Entry.{Entry}
use Rattle.office_core.specs.declared.outgoing.OutKind.{OutKind}
use Rattle.office_core.specs.Limits.{Setting}
use Rattle.office_core.specs.declared.message.Message.{Message}
use Rattle.office_core.specs.Past.{Past, some_entry, stops}
use Rattle.office_core.specs.Sessions.{service_of, births, has_ended, was_adopted, ends, adopts}
use Rattle.office_core.specs.Boxes.{taken, taken_in, was_taken}
use Rattle.office_core.specs.Keys.{first}
use Rattle.office_core.specs.Weights.{weight, total_weight, reply_weight}
use Rattle.office_core.specs.Answers.{is_request, at_once, reply_in, replies, by_end, by_stop, by_session, answers_of}
use Rattle.office_core.specs.declared.message.Call.{Call}
use Rattle.office_core.specs.Calls.{calls, sent_in, brought_in, fetches, kind_of, goes_out, is_waiting, same_kind}
use Rattle.office_core.specs.Legal.{collects, takes_answer}
use Rattle.office_core.proofs.Longer.{some_more, some_same, given_same}
use Rattle.office_plain.specs.declared.kept.SessionRow.{SessionRow}
use Rattle.office_plain.specs.Waits.{waiting_from, waiting_for}
use Rattle.office_plain.specs.Stands.{was_handed_out, standing_by, StandsSo}
use Rattle.office_plain.specs.Kept.{places_from, call_places, unfetched, brought_for, row_of, places_of, written_in, values_of, keyed, keyed_from, keyed_sessions, written_first, variables_of}
use Rattle.office_plain.specs.SetNumbers.{numbered_sets}

-- an entry more, and no message
abbrev pub with_one : Past → Entry → Past
with_one past e = record { entries = past.entries ++ e ∷ []; messages = past.messages }

-- ---- weight

-- a sum that stays within 64 bits
pub saturates : (a b : ℕ) → in_u64 (in_u64 a + in_u64 b) ≡ in_u64 (a + b)
saturates a b = omega arith

-- an entry that brings no weight
pub weight_stays : (past : Past) (e : Entry) → reply_weight e ≡ 0 → total_weight (with_one past e) ≡ total_weight past
weight_stays past e z = ap (λ n. sum_by (λ (m : Message). weight m.value) past.messages + n) replies_stay
  where
    replies_stay : sum_by reply_weight (past.entries ++ e ∷ []) ≡ sum_by reply_weight past.entries
    replies_stay =
        let sums : sum_by reply_weight (past.entries ++ e ∷ []) ≡ sum_by reply_weight past.entries + sum_by reply_weight (e ∷ []) = sum_by-append reply_weight past.entries (e ∷ []) in
        let last : sum_by reply_weight (e ∷ []) ≡ 0 = zero-add (reply_weight e) ∙ z in
        omega arith

-- ---- sessions

-- an entry that sends no call
pub calls_stay : (w : Setting) (past : Past) (e : Entry) → sent_in e ≡ None → calls (with_one past e) ≡ calls past
calls_stay w past e h = given_same w past e sent_in h

pub call_places_stay : (w : Setting) (past : Past) (e : Entry) (s : ℕ) → sent_in e ≡ None
    → call_places (with_one past e) s ≡ call_places past s
call_places_stay w past e s h = ap (places_from (λ (c : Call). nat_eq s c.session) 0) (calls_stay w past e h)

-- what is kept of a session by what it is made of
abbrev pub row_by : ℕ → Bool → Bool → SessionRow
row_by d adopted ended = record { service = d; adopted = adopted; ended = ended }

pub row_stays : (w : Setting) (past : Past) (e : Entry) (s : ℕ)
    → adopts s e ≡ false → ends s e ≡ false
    → row_of w (with_one past e) s ≡ row_of w past s
row_stays w past e s a d =
    λ i. option_map
    (λ service. row_by service (some_same w past e (adopts s) a i) (some_same w past e (ends s) d i))
    (service_of w past s)

pub places_stay : (w : Setting) (past : Past) (e : Entry) (s : ℕ)
    → sent_in e ≡ None → places_of w (with_one past e) s ≡ places_of w past s
places_stay w past e s c = λ i. option_map (λ d. call_places_stay w past e s c i) (service_of w past s)

-- ---- boxes

pub waiting_stays : (w : Setting) (past : Past) (e : Entry) (s : ℕ)
    → taken_in e ≡ None → waiting_for (with_one past e) s ≡ waiting_for past s
waiting_stays w past e s t = λ i. waiting_from (given_same w past e taken_in t i) s 0 past.messages

-- ---- answers

by_stop_stays : (w : Setting) (old new : Past) (m : Message) → some_entry new stops ≡ some_entry old stops
    → (os : List Outcome) → by_stop w new m os ≡ by_stop w old m os
by_stop_stays w old new m h [] =
    ap (λ b. if is_request w m && b then outcome.Refused reason.Stopped ∷ [] else []) h
by_stop_stays w old new m h (o ∷ os) = refl

-- the answers of a message where nothing changes of what they are made of
pub answers_same : (w : Setting) (old new : Past) (n : ℕ) (m : Message)
    → by_session w new n m ≡ by_session w old n m → some_entry new stops ≡ some_entry old stops
    → answers_of w new n m ≡ answers_of w old n m
answers_same w old new n m h g =
    ap (λ os. at_once w m ++ os ++ by_stop w new m os) h
    ∙ ap (λ os. at_once w m ++ by_session w old n m ++ os) (by_stop_stays w old new m g (by_session w old n m))

-- the end of a session's answer by whether it ended and whether the message was taken
abbrev pub left_by : Bool → Bool → Bool → List Outcome
left_by request ended taken =
    if request && ended && not taken then outcome.Refused reason.SessionEnded ∷ [] else []

-- the answers of a message by whether it is a request, its replies, whether its session ended and whether it was taken
abbrev pub answers_by : Bool → List Outcome → Bool → Bool → List Outcome
answers_by request rs ended taken =
    (if request then [] else outcome.Value void_tree ∷ []) ++ (rs ++ left_by request ended taken) ++ []

-- before the stop they are those of a message
pub by_parts : (w : Setting) (past : Past) (n : ℕ) (m : Message) → some_entry past stops ≡ false
    → answers_of w past n m ≡ answers_by (is_request w m) (replies past n) (has_ended past m.session) (was_taken past n)
by_parts w past n m running = ap (λ os. at_once w m ++ by_session w past n m ++ os) (unstopped (by_session w past n m))
  where
    off : (b c : Bool) → c ≡ false → (if b && c then outcome.Refused reason.Stopped ∷ [] else []) ≡ []
    off true c h = ap (λ x. if x then outcome.Refused reason.Stopped ∷ [] else []) h
    off false c h = refl

    unstopped : (os : List Outcome) → by_stop w past m os ≡ []
    unstopped [] = off (is_request w m) (some_entry past stops) running
    unstopped (o ∷ os) = refl

pub by_session_stays : (w : Setting) (past : Past) (e : Entry) (n : ℕ) (m : Message)
    → reply_in n e ≡ None → taken_in e ≡ None → ends m.session e ≡ false
    → by_session w (with_one past e) n m ≡ by_session w past n m
by_session_stays w past e n m r t d =
    λ i. given_same w past e (reply_in n) r i
    ++ left_by (is_request w m) (some_same w past e (ends m.session) d i) (list_any (nat_eq n) (given_same w past e taken_in t i))

pub answers_stay : (w : Setting) (past : Past) (e : Entry) (n : ℕ) (m : Message)
    → reply_in n e ≡ None → taken_in e ≡ None → ends m.session e ≡ false → stops e ≡ false
    → answers_of w (with_one past e) n m ≡ answers_of w past n m
answers_stay w past e n m r t d h =
    answers_same w past (with_one past e) n m (by_session_stays w past e n m r t d) (some_same w past e stops h)

or_before : (a b : Bool) → (a || b) ≡ false → a ≡ false
or_before true b h = h
or_before false b h = refl

-- what was not handed out after an entry was not handed out before
pub handed_before : (w : Setting) (past : Past) (e : Entry) (n : ℕ) (from : Origin)
    → was_handed_out (with_one past e) n from ≡ false → was_handed_out past n from ≡ false
handed_before w past e n (origin.Port posting index) h =
    or_before (some_entry past (collects n)) (collects n e) (sym (some_more w past e (collects n)) ∙ h)
handed_before w past e n (origin.Session s k) h =
    or_before (some_entry past (takes_answer s k)) (takes_answer s k e) (sym (some_more w past e (takes_answer s k)) ∙ h)

-- how it stands with messages, where an entry gives none an answer
pub standings_stay : (w : Setting) (past : Past) (e : Entry) (book : Book)
    → ((n : ℕ) (m : Message) → slice_get past.messages n ≡ Some m → answers_of w (with_one past e) n m ≡ answers_of w past n m)
    → StandsSo w past book → StandsSo w (with_one past e) book
standings_stay w past e book a stands n m there unhanded =
    stands n m there (handed_before w past e n m.origin unhanded) ∙ sym (ap (λ os. Some (standing_by os)) (a n m there))

-- ---- correlation

-- what correlation has of a session, where an entry writes nothing and the session ended or not
pub keyed_with : (w : Setting) (past : Past) (e : Entry) (s d : ℕ) (ended : Bool)
    → written_in s e ≡ None → has_ended (with_one past e) s ≡ ended
    → keyed w (with_one past e) s d
    ≡ record { number = s; sets = numbered_sets w.parts d; written = values_of w past s d; released = ended }
keyed_with w past e s d ended b f =
    λ i. record {
      number = s;
      sets = numbered_sets w.parts d;
      written =
          filter_map (written_first w past s) (variables_of w.parts d)
          ++ given_same w past e (written_in s) b i;
      released = f i;
    }

keyed_stays : (w : Setting) (past : Past) (e : Entry) (s d : ℕ)
    → written_in s e ≡ None → ends s e ≡ false
    → keyed w (with_one past e) s d ≡ keyed w past s d
keyed_stays w past e s d b f = keyed_with w past e s d (has_ended past s) b (some_same w past e (ends s) f)

keyed_from_stays : (w : Setting) (past : Past) (e : Entry) (s : ℕ) (ds : List ℕ)
    → ((t : ℕ) → written_in t e ≡ None) → ((t : ℕ) → ends t e ≡ false)
    → keyed_from w (with_one past e) s ds ≡ keyed_from w past s ds
keyed_from_stays w past e s [] b f = refl
keyed_from_stays w past e s (d ∷ ds) b f =
    λ i. keyed_stays w past e s d (b s) (f s) i ∷ keyed_from_stays w past e (suc s) ds b f i

pub keyed_sessions_stay : (w : Setting) (past : Past) (e : Entry)
    → ((t : ℕ) → written_in t e ≡ None) → ((t : ℕ) → ends t e ≡ false)
    → keyed_sessions w (with_one past e) ≡ keyed_sessions w past
keyed_sessions_stay w past e b f = keyed_from_stays w past e 0 (births w past) b f

-- ---- what was brought, and what goes out

pub brought_stays : (w : Setting) (past : Past) (e : Entry) (i : ℕ)
    → sent_in e ≡ None → ((c : Call) → brought_in c e ≡ None)
    → option_map (brought_for (with_one past e)) (slice_get (calls (with_one past e)) i)
    ≡ option_map (brought_for past) (slice_get (calls past) i)
brought_stays w past e i s b =
    ap (λ cs. option_map (brought_for (with_one past e)) (slice_get cs i)) (calls_stay w past e s)
    ∙ same (slice_get (calls past) i)
  where
    same : (o : Option Call) → option_map (brought_for (with_one past e)) o ≡ option_map (brought_for past) o
    same None = refl
    same (Some c) = ap (λ os. Some (first os)) (given_same w past e (brought_in c) (b c))

places_same : (f g : Call → Bool) (n : ℕ) (cs : List Call) → ((c : Call) → f c ≡ g c) → places_from f n cs ≡ places_from g n cs
places_same f g n [] h = refl
places_same f g n (c ∷ cs) h = λ i. (if h c i then n ∷ [] else []) ++ places_same f g (suc n) cs h i

pub unfetched_stays : (w : Setting) (past : Past) (e : Entry) (k : OutKind)
    → sent_in e ≡ None → ((c : Call) → fetches c e ≡ false)
    → unfetched w (with_one past e) k ≡ unfetched w past k
unfetched_stays w past e k s f =
    ap (places_from (λ c. is_waiting (with_one past e) c && same_kind k (kind_of w (with_one past e) c)) 0) (calls_stay w past e s)
    ∙ places_same
    (λ c. is_waiting (with_one past e) c && same_kind k (kind_of w (with_one past e) c))
    (λ c. is_waiting past c && same_kind k (kind_of w past c))
    0
    (calls past)
    (λ c. λ i. (goes_out c && not (some_same w past e (fetches c) (f c) i)) && same_kind k (kind_of w past c))
