-- In a legal history a message has at most one reply, and then it is a request that was taken: so it has one answer.
use Rattle.std.proofs.Common.{◌≡◌, ℕ, zero, suc, Bool, true, false, not, ◌&&◌, ◌||◌, List, [], ◌∷◌, ◌++◌, refl, sym, ap, subst, ◌∙◌, Option, None, Some, true≢false}
use Rattle.std.specs.Prelude.{nat_eq, slice_get, if◌then◌else◌}
use Rattle.std.specs.List.{list_any, filter_map, cons_option}
use Rattle.std.specs.Cmp.{unsigned_Decides}
use Rattle.std.proofs.lemmas.List.Elements.{filter_map-append}
use Rattle.std.proofs.lemmas.List.Folds.{list_any-append}
use Rattle.jolie_trees.specs.Trees.{void_tree}
use Rattle.behaviour_tree.specs.declared.words.Outcome.{Outcome}
use Rattle.behaviour_tree.specs.declared.words.Outcome.TheVariants as outcome
use Rattle.behaviour_tree.specs.declared.words.Reason.TheVariants as reason
use Rattle.office_core.specs.declared.history.Act.{Act}
use Rattle.office_core.specs.declared.history.Act.TheVariants as act
use Rattle.office_core.specs.declared.history.Entry.{Entry}
use Rattle.office_core.specs.Limits.{Setting}
use Rattle.office_core.specs.Past.{Message, Past, nothing_yet, some_entry, stops}
use Rattle.office_core.specs.Sessions.{has_ended}
use Rattle.office_core.specs.Boxes.{taken_in, taken, was_taken, takes, took}
use Rattle.office_core.specs.Accepted.{accepted_in, with_message, then_one, then_all, past_of}
use Rattle.office_core.specs.Answers.{is_request, at_once, reply_in, replies, is_left, by_end, by_stop, by_session, answers_of, answers, is_open}
use Rattle.office_core.specs.Legal.{is_acting, is_allowed, AreLegal, IsLegal}

-- ---- Booleans and lists

left_true : (a b : Bool) → (a && b) ≡ true → a ≡ true
left_true true b h = refl
left_true false b h = h

right_true : (a b : Bool) → (a && b) ≡ true → b ≡ true
right_true true b h = h
right_true false b h = absurd (true≢false (sym h))

still_true : (a b : Bool) → a ≡ true → (a || b) ≡ true
still_true true b h = refl
still_true false b h = absurd (true≢false (sym h))

rest_true : (a b : Bool) → b ≡ true → (a || b) ≡ true
rest_true true b h = refl
rest_true false b h = h

cons_not_nil : {A : Type 0} (x : A) (xs : List A) → x ∷ xs ≡ [] → ⊥
cons_not_nil x xs h = true≢false (ap (λ l. elim l [ [] ↦ false | y ∷ ys ↦ true ]) h)

pub front_nil : {A : Type 0} (xs ys : List A) → xs ++ ys ≡ [] → xs ≡ []
front_nil [] ys h = refl
front_nil (x ∷ xs) ys h = absurd (cons_not_nil x (xs ++ ys) h)

pub rest_nil : {A : Type 0} (xs ys : List A) → xs ++ ys ≡ [] → ys ≡ []
rest_nil [] ys h = h
rest_nil (x ∷ xs) ys h = absurd (cons_not_nil x (xs ++ ys) h)

-- what stands in a list stands there in a longer one
stays_there : {A : Type 0} (xs ys : List A) (n : ℕ) (x : A) → slice_get xs n ≡ Some x → slice_get (xs ++ ys) n ≡ Some x
stays_there [] ys n x h = absurd (true≢false (sym (ap (λ o. elim o [ None ↦ false | Some y ↦ true ]) h)))
stays_there (y ∷ xs) ys zero x h = h
stays_there (y ∷ xs) ys (suc n) x h = stays_there xs ys n x h

same_of : {A : Type 0} (x y : A) → Some x ≡ Some y → x ≡ y
same_of x y h = ap (λ o. elim o [ None ↦ x | Some z ↦ z ]) h

-- ---- one entry more

pub message_stays : (ms : List Message) (more : Option Message) (n : ℕ) (m : Message)
    → slice_get ms n ≡ Some m → slice_get (with_message ms more) n ≡ Some m
message_stays ms None n m h = h
message_stays ms (Some k) n m h = stays_there ms (k ∷ []) n m h

-- a message that session s took was taken
takes_takes : (s n actor : ℕ) (a : Act) (rest : List ℕ)
    → takes s n (record { actor = actor; act = a }) ≡ true
    → list_any (nat_eq n) (cons_option (taken_in (record { actor = actor; act = a })) rest) ≡ true
takes_takes s n actor (act.Take m) rest h =
    still_true (nat_eq n m) (list_any (nat_eq n) rest) (right_true (nat_eq s actor) (nat_eq n m) h)
takes_takes s n actor a rest h = absurd (true≢false (sym h))

passes_on : (n : ℕ) (o : Option ℕ) (rest : List ℕ)
    → list_any (nat_eq n) rest ≡ true → list_any (nat_eq n) (cons_option o rest) ≡ true
passes_on n None rest h = h
passes_on n (Some m) rest h = rest_true (nat_eq n m) (list_any (nat_eq n) rest) h

took_first : (s n : ℕ) (e : Entry) (es : List Entry) (b : Bool) → takes s n e ≡ b
    → (list_any (takes s n) es ≡ true → list_any (nat_eq n) (filter_map taken_in es) ≡ true)
    → list_any (takes s n) (e ∷ es) ≡ true → list_any (nat_eq n) (filter_map taken_in (e ∷ es)) ≡ true
took_first s n e es true q rest h = takes_takes s n e.actor e.act (filter_map taken_in es) q
took_first s n e es false q rest h =
    passes_on n (taken_in e) (filter_map taken_in es)
    (rest (subst (λ b. (b || list_any (takes s n) es) ≡ true) q h))

took_taken : (s n : ℕ) (es : List Entry)
    → list_any (takes s n) es ≡ true → list_any (nat_eq n) (filter_map taken_in es) ≡ true
took_taken s n [] h = h
took_taken s n (e ∷ es) h = took_first s n e es (takes s n e) refl (took_taken s n es) h

taken_stays : (w : Setting) (past : Past) (n : ℕ) (e : Entry)
    → was_taken past n ≡ true → was_taken (then_one w past e) n ≡ true
taken_stays w past n e h =
    subst (λ ns. list_any (nat_eq n) ns ≡ true) (sym (filter_map-append taken_in past.entries (e ∷ [])))
    (list_any-append (nat_eq n) (taken past) (filter_map taken_in (e ∷ []))
    ∙ still_true (list_any (nat_eq n) (taken past)) (list_any (nat_eq n) (filter_map taken_in (e ∷ []))) h)

-- ---- what a message has

-- a message has no reply; or it has one, and is a request that was taken
pub data Replied (w : Setting) (past : Past) (n : ℕ) : Type 0 where
  none : replies past n ≡ [] → Replied w past n
  once : (o : Outcome) (m : Message) → replies past n ≡ o ∷ [] → was_taken past n ≡ true
      → slice_get past.messages n ≡ Some m → is_request w m ≡ true → Replied w past n

-- an entry that gives the message no reply
unreplied : (w : Setting) (past : Past) (n : ℕ) (e : Entry)
    → reply_in n e ≡ None → replies (then_one w past e) n ≡ replies past n ++ []
unreplied w past n e h =
    filter_map-append (reply_in n) past.entries (e ∷ []) ∙ ap (λ r. replies past n ++ cons_option r []) h

keeps : (w : Setting) (past : Past) (n : ℕ) (e : Entry)
    → reply_in n e ≡ None → Replied w past n → Replied w (then_one w past e) n
keeps w past n e h (none r) = none (unreplied w past n e h ∙ ap (λ l. l ++ []) r)
keeps w past n e h (once o m r t there q) =
    once o m
    (unreplied w past n e h ∙ ap (λ l. l ++ []) r)
    (taken_stays w past n e t)
    (message_stays past.messages (accepted_in w past e) n m there)
    q

-- a first reply
replies_first : (w : Setting) (past : Past) (n : ℕ) (e : Entry) (o : Outcome)
    → reply_in n e ≡ Some o → replies past n ≡ [] → replies (then_one w past e) n ≡ o ∷ []
replies_first w past n e o h r =
    filter_map-append (reply_in n) past.entries (e ∷ [])
    ∙ ap (λ q. replies past n ++ cons_option q []) h ∙ ap (λ l. l ++ o ∷ []) r

-- ---- an open message

-- a message that is open: it is there, a request, and without a reply
record Opened (w : Setting) (past : Past) (n : ℕ) : Type 0 where
  message : Message
  there : slice_get past.messages n ≡ Some message
  request : is_request w message ≡ true
  unreplied : replies past n ≡ []

-- nothing of the answers, if they are none
abbrev open_by : Setting → Message → List Outcome → Bool
open_by w m os = elim os [ [] ↦ is_request w m | q ∷ qs ↦ false ]

without_reply : (w : Setting) (past : Past) (n : ℕ) (m : Message) → answers_of w past n m ≡ [] → replies past n ≡ []
without_reply w past n m e =
    front_nil (replies past n) (by_end w past n m)
    (rest_nil (at_once w m) (by_session w past n m)
    (front_nil (at_once w m ++ by_session w past n m) (by_stop w past m (by_session w past n m)) e))

opened_by : (w : Setting) (past : Past) (n : ℕ) (m : Message) (os : List Outcome)
    → slice_get past.messages n ≡ Some m → answers_of w past n m ≡ os → open_by w m os ≡ true → Opened w past n
opened_by w past n m [] there e h =
    record { message = m; there = there; request = h; unreplied = without_reply w past n m e }
opened_by w past n m (q ∷ qs) there e h = absurd (true≢false (sym h))

opened_at : (w : Setting) (past : Past) (n : ℕ) (g : Option Message) → slice_get past.messages n ≡ g
    → (elim g [ None ↦ false | Some m ↦ open_by w m (answers_of w past n m) ]) ≡ true → Opened w past n
opened_at w past n None there h = absurd (true≢false (sym h))
opened_at w past n (Some m) there h = opened_by w past n m (answers_of w past n m) there refl h

opened : (w : Setting) (past : Past) (n : ℕ) → is_open w past n ≡ true → Opened w past n
opened w past n h = opened_at w past n (slice_get past.messages n) refl h

-- ---- each entry

reply_keeps : (w : Setting) (past : Past) (n s k : ℕ) (o : Outcome) → nat_eq n k ≡ true
    → was_taken past n ≡ true → Opened w past n → Replied w (then_one w past (record { actor = s; act = act.Reply k o })) n
reply_keeps w past n s k o e t m =
    let entry : Entry = record { actor = s; act = act.Reply k o } in
    once o m.message
    (replies_first w past n entry o (ap (λ b. if b then Some o else None) e) m.unreplied)
    (taken_stays w past n entry t)
    (message_stays past.messages (accepted_in w past entry) n m.message m.there)
    m.request

by_reply : (w : Setting) (past : Past) (n s k : ℕ) (o : Outcome) (b : Bool) → nat_eq n k ≡ b
    → is_allowed w past s (act.Reply k o) ≡ true → Replied w past n
    → Replied w (then_one w past (record { actor = s; act = act.Reply k o })) n
by_reply w past n s k o false e h r =
    keeps w past n (record { actor = s; act = act.Reply k o }) (ap (λ b. if b then Some o else None) e) r
by_reply w past n s k o true e h r =
    reply_keeps w past n s k o e
    (subst (λ x. was_taken past x ≡ true) (sym ((unsigned_Decides n k).0 e))
    (took_taken s k past.entries
    (right_true (is_acting w past s) (took past s k)
    (left_true (is_acting w past s && took past s k) (is_open w past k) h))))
    (opened w past n
    (subst (λ x. is_open w past x ≡ true) (sym ((unsigned_Decides n k).0 e))
    (right_true (is_acting w past s && took past s k) (is_open w past k) h)))

by_act : (w : Setting) (past : Past) (n s : ℕ) (a : Act)
    → is_allowed w past s a ≡ true → Replied w past n → Replied w (then_one w past (record { actor = s; act = a })) n
by_act w past n s (act.Reply k o) h r = by_reply w past n s k o (nat_eq n k) refl h r
by_act w past n s a h r = keeps w past n (record { actor = s; act = a }) refl r

replied_after : (w : Setting) (past : Past) (n : ℕ) (es : List Entry)
    → AreLegal w past es → Replied w past n → Replied w (then_all w past es) n
replied_after w past n [] h r = r
replied_after w past n (e ∷ es) h r =
    replied_after w (then_one w past e) n es h.1 (by_act w past n e.actor e.act (h.0).allowed r)

-- a message of a legal history has at most one reply
pub one_reply : (w : Setting) (h : List Entry) (n : ℕ) → IsLegal w h → Replied w (past_of w h) n
one_reply w h n legal = replied_after w nothing_yet n h legal (none refl)

-- ---- one answer

-- the answers of a message, put together
abbrev answers_by : Setting → Past → Message → List Outcome → List Outcome → List Outcome → List Outcome
answers_by w past m at rs es = at ++ (rs ++ es) ++ by_stop w past m (rs ++ es)

summed : (w : Setting) (past : Past) (n : ℕ) (m : Message) (at rs es : List Outcome)
    → at_once w m ≡ at → replies past n ≡ rs → by_end w past n m ≡ es
    → answers_of w past n m ≡ answers_by w past m at rs es
summed w past n m at rs es q r e =
    ap (λ l. answers_by w past m l (replies past n) (by_end w past n m)) q
    ∙ ap (λ l. answers_by w past m at l (by_end w past n m)) r
    ∙ ap (λ l. answers_by w past m at rs l) e

-- what is said once, where a message is a request or not
abbrev once_if : Bool → List Outcome
once_if b = if b then [] else outcome.Value void_tree ∷ []

abbrev ended_if : Bool → List Outcome
ended_if b = if b then outcome.Refused reason.SessionEnded ∷ [] else []

stop_gives : (w : Setting) (past : Past) (m : Message) → is_request w m ≡ true → some_entry past stops ≡ true
    → by_stop w past m [] ≡ outcome.Refused reason.Stopped ∷ []
stop_gives w past m q s =
    ap (λ b. if b && some_entry past stops then outcome.Refused reason.Stopped ∷ [] else []) q
    ∙ ap (λ b. if b then outcome.Refused reason.Stopped ∷ [] else []) s

stop_gives_nothing : (w : Setting) (past : Past) (m : Message) → is_request w m ≡ false → by_stop w past m [] ≡ []
stop_gives_nothing w past m q =
    ap (λ b. if b && some_entry past stops then outcome.Refused reason.Stopped ∷ [] else []) q

-- the one answer of a message
abbrev OneAnswer : Setting → Past → ℕ → Message → Type 0
OneAnswer w past n m = (o : Outcome) × (answers_of w past n m ≡ o ∷ [])

-- a message that asks for none
asks_none : (w : Setting) (past : Past) (n : ℕ) (m : Message)
    → is_request w m ≡ false → replies past n ≡ [] → OneAnswer w past n m
asks_none w past n m q r = (
  outcome.Value void_tree,
  summed w past n m (outcome.Value void_tree ∷ []) [] []
      (ap once_if q)
      r
      (ap (λ b. ended_if (b && has_ended past m.session && not (was_taken past n))) q)
      ∙ ap (λ l. outcome.Value void_tree ∷ l) (stop_gives_nothing w past m q),
)

-- a request without a reply
unreplied_one : (w : Setting) (past : Past) (n : ℕ) (m : Message) (b : Bool) → is_left w past n m ≡ b
    → is_request w m ≡ true → some_entry past stops ≡ true → replies past n ≡ [] → OneAnswer w past n m
unreplied_one w past n m true left q s r = (
  outcome.Refused reason.SessionEnded,
  summed w past n m [] [] (outcome.Refused reason.SessionEnded ∷ []) (ap once_if q) r (ap ended_if left),
)
unreplied_one w past n m false left q s r = (
  outcome.Refused reason.Stopped,
  summed w past n m [] [] [] (ap once_if q) r (ap ended_if left) ∙ stop_gives w past m q s,
)

not_left : (a b : Bool) → ended_if (a && b && not true) ≡ []
not_left true true = refl
not_left true false = refl
not_left false true = refl
not_left false false = refl

-- a request with a reply
replied_one : (w : Setting) (past : Past) (n : ℕ) (m : Message) (o : Outcome)
    → is_request w m ≡ true → replies past n ≡ o ∷ [] → was_taken past n ≡ true → OneAnswer w past n m
replied_one w past n m o q r t = (
  o,
  summed w past n m [] (o ∷ []) [] (ap once_if q) r
      (ap (λ b. ended_if (is_request w m && has_ended past m.session && not b)) t
      ∙ not_left (is_request w m) (has_ended past m.session)),
)

-- a message without a reply, by whether it is a request
by_kind : (w : Setting) (past : Past) (n : ℕ) (m : Message) (b : Bool) → is_request w m ≡ b
    → some_entry past stops ≡ true → replies past n ≡ [] → OneAnswer w past n m
by_kind w past n m true q s r = unreplied_one w past n m (is_left w past n m) refl q s r
by_kind w past n m false q s r = asks_none w past n m q r

by_replies : (w : Setting) (past : Past) (n : ℕ) (m : Message) → Replied w past n
    → some_entry past stops ≡ true → slice_get past.messages n ≡ Some m → OneAnswer w past n m
by_replies w past n m (none r) s there = by_kind w past n m (is_request w m) refl s r
by_replies w past n m (once o k r t it q) s there =
    replied_one w past n m o (subst (λ k. is_request w k ≡ true) (same_of k m (sym it ∙ there)) q) r t

-- the answers of the message that has the number
abbrev answers_at : Setting → Past → ℕ → Option Message → List Outcome
answers_at w past n g = elim g [ None ↦ [] | Some m ↦ answers_of w past n m ]

of_number : (w : Setting) (past : Past) (n : ℕ) (m : Message) → slice_get past.messages n ≡ Some m
    → OneAnswer w past n m → (o : Outcome) × (answers w past n ≡ o ∷ [])
of_number w past n m there one = (one.0, ap (answers_at w past n) there ∙ one.1)

-- once the run stopped, each accepted message of a legal history has exactly one answer
pub answers_once : (w : Setting) (h : List Entry) (n : ℕ) (m : Message)
    → IsLegal w h → some_entry (past_of w h) stops ≡ true → slice_get (past_of w h).messages n ≡ Some m
    → (o : Outcome) × (answers w (past_of w h) n ≡ o ∷ [])
answers_once w h n m legal s there =
    of_number w (past_of w h) n m there (by_replies w (past_of w h) n m (one_reply w h n legal) s there)
