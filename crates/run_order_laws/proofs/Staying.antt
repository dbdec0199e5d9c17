-- An answer stays: the first answer of a message is its first in every longer legal history. And what adds no answer.
use Rattle.std.proofs.Common.{◌≡◌, ℕ, suc, ◌+◌, Bool, true, false, not, ◌&&◌, ◌||◌, List, [], ◌∷◌, ◌++◌, refl}
use Rattle.std.proofs.Common.{sym, ap, subst, ◌∙◌, Option, None, Some, option_map, option_and_then, true≢false, arith}
use Rattle.std.specs.Prelude.{nat_eq, slice_get, if◌then◌else◌, is_some}
use Rattle.std.specs.List.{list_all, list_any, filter_map, cons_option}
use Rattle.jolie_trees.specs.Trees.{void_tree}
use Rattle.behaviour_tree.specs.declared.words.Outcome.{Outcome}
use Rattle.behaviour_tree.specs.declared.words.Outcome.TheVariants as outcome
use Rattle.behaviour_tree.specs.declared.words.Reason.TheVariants as reason
use Rattle.office_core.specs.declared.history.Act.{Act}
use Rattle.office_core.specs.declared.history.Act.TheVariants as act
use Rattle.office_core.specs.declared.history.Entry.{Entry}
use Rattle.office_core.specs.declared.message.Message.{Message}
use Rattle.office_core.specs.Limits.{Setting}
use Rattle.office_core.specs.Past.{Past, some_entry, stops, is_running}
use Rattle.office_core.specs.Sessions.{ends, has_ended, is_live, service_of, was_adopted}
use Rattle.office_core.specs.Boxes.{taken_in, taken, was_taken, takes, took, numbers_without, queue}
use Rattle.office_core.specs.Keys.{first}
use Rattle.office_core.specs.Accepted.{accepted_in, then_one, then_all, past_of}
use Rattle.office_core.specs.Answers.{is_request, at_once, reply_in, replies, is_left, by_stop, by_session}
use Rattle.office_core.specs.Answers.{answers_of, answers, is_open}
use Rattle.office_core.specs.Legal.{is_acting, is_at_work, is_allowed, oldest, IsLegalEntry, IsLegal}
use Rattle.office_core.proofs.Longer.{some_more, some_same, given_same, messages_same}
use Rattle.office_core.proofs.OneAnswer.{message_stays}
pub use Rattle.run_order_laws.specs.Entries.{is_collect, adds_none}
use Rattle.run_order_laws.proofs.Lists.{left_true, right_true, both_true, not_false, true_left, true_right, eq_true}
use Rattle.run_order_laws.proofs.Lists.{append_nil, given_append, same_of, none_not_some}
use Rattle.run_order_laws.proofs.Lists.{any_append}
use Rattle.run_order_laws.proofs.Growing.{kept_longer}

-- ---- what is asked of an entry

-- an act that only a running run allows
running_of : (w : Setting) (past : Past) (s : ℕ) → is_acting w past s ≡ true → is_running past ≡ true
running_of w past s h =
    left_true (is_running past) (is_live w past s)
    (left_true (is_running past && is_live w past s) (was_adopted past s) h)

living_of : (w : Setting) (past : Past) (s : ℕ) → is_acting w past s ≡ true → has_ended past s ≡ false
living_of w past s h =
    not_false (has_ended past s)
    (right_true (is_some (service_of w past s)) (not (has_ended past s))
    (right_true (is_running past) (is_live w past s)
    (left_true (is_running past && is_live w past s) (was_adopted past s) h)))

-- what is no collection needs a run that runs
pub needs_run : (w : Setting) (past : Past) (actor : ℕ) (a : Act) → is_allowed w past actor a ≡ true
    → is_collect (record { actor = actor; act = a }) ≡ false → is_running past ≡ true
needs_run w past actor (act.Post j i q r) h g = left_true (is_running past) _ h
needs_run w past actor (act.Adopt d) h g = left_true (is_running past) _ h
needs_run w past actor (act.Take n) h g = running_of w past actor h
needs_run w past actor (act.Bind v x r) h g = running_of w past actor (left_true (is_acting w past actor) _ h)
needs_run w past actor (act.Reply n o) h g =
    running_of w past actor
    (left_true (is_acting w past actor) (took past actor n)
    (left_true (is_acting w past actor && took past actor n) (is_open w past n) h))
needs_run w past actor (act.Send k port op v wants r) h g =
    running_of w past actor (left_true (is_acting w past actor) _ h)
needs_run w past actor (act.Answer k o) h g = running_of w past actor (left_true (is_acting w past actor) _ h)
needs_run w past actor act.End h g = running_of w past actor h
needs_run w past actor (act.Collect n o) h g = absurd (true≢false g)
needs_run w past actor (act.Fetch s k) h g = left_true (is_running past) _ h
needs_run w past actor (act.Answered s k o) h g = left_true (is_running past) _ (left_true (is_at_work past actor) _ h)
needs_run w past actor act.Close h g = left_true (is_running past) _ (left_true (is_at_work past actor) _ h)
needs_run w past actor act.Stop h g = left_true (is_running past) _ h

-- ---- a message that is taken is of the session that takes it

record Found (is_it : Message → Bool) (k : ℕ) (ms : List Message) (n : ℕ) : Type 0 where
  place : ℕ
  number : n ≡ k + place
  message : Message
  there : slice_get ms place ≡ Some message
  is : is_it message ≡ true

found_in : (gone : List ℕ) (is_it : Message → Bool) (k : ℕ) (ms : List Message) (n : ℕ)
    → first (numbers_without gone is_it k ms) ≡ Some n → Found is_it k ms n
found_in gone is_it k [] n h = absurd (none_not_some n h)
found_in gone is_it k (m ∷ ms) n h =
    by (found_in gone is_it (suc k) ms n) (is_it m && not (list_any (nat_eq k) gone)) refl h
  where
    next : Found is_it (suc k) ms n → Found is_it k (m ∷ ms) n
    next f =
        record { place = suc f.place; number = step f.place f.number; message = f.message; there = f.there; is = f.is }
      where
        step : (p : ℕ) → n ≡ suc k + p → n ≡ k + suc p
        step p e = omega arith

    zero_more : k ≡ n → n ≡ k + 0
    zero_more e = omega arith

    by : (first (numbers_without gone is_it (suc k) ms) ≡ Some n → Found is_it (suc k) ms n)
        → (b : Bool) → (is_it m && not (list_any (nat_eq k) gone)) ≡ b
        → first ((if b then k ∷ [] else []) ++ numbers_without gone is_it (suc k) ms) ≡ Some n
        → Found is_it k (m ∷ ms) n
    by rest true e g =
        record {
          place = 0;
          number = zero_more (same_of k n g);
          message = m;
          there = refl;
          is = left_true
              (is_it m) _ e;
        }
    by rest false e g = next (rest g)

-- a session takes what lies in its box
taken_here : (past : Past) (s n : ℕ) (m : Message) (ops : List ℕ) → slice_get past.messages n ≡ Some m
    → first (queue past s ops) ≡ Some n → nat_eq s m.session ≡ true
taken_here past s n m ops there h =
    let f : Found (λ (x : Message). nat_eq s x.session && list_any (nat_eq x.op) ops) 0 past.messages n =
    found_in (taken past) (λ x. nat_eq s x.session && list_any (nat_eq x.op) ops) 0 past.messages n h in
    subst (λ (x : Message). nat_eq s x.session ≡ true)
    (same_of f.message m (sym f.there ∙ ap (slice_get past.messages) (place f.place f.number) ∙ there))
    (left_true (nat_eq s f.message.session) (list_any (nat_eq f.message.op) ops) f.is)
  where
    place : (p : ℕ) → n ≡ 0 + p → p ≡ n
    place p e = omega arith

take_replied : (o : Option ℕ) (n : ℕ) → option_map act.Take o ≡ Some (act.Take n) → o ≡ Some n
take_replied None n h = absurd (none_not_some (act.Take n) h)
take_replied (Some k) n h = ap (λ a. Some (elim a [ act.Take j ↦ j | _ ↦ k ])) (same_of (act.Take k) (act.Take n) h)

oldest_here : (past : Past) (s n : ℕ) (m : Message) (g : Option Message) → slice_get past.messages n ≡ g
    → slice_get past.messages n ≡ Some m
    → option_and_then (λ (x : Message). first (queue past s (x.op ∷ []))) g ≡ Some n → nat_eq s m.session ≡ true
oldest_here past s n m None e there h = absurd (none_not_some n h)
oldest_here past s n m (Some x) e there h = taken_here past s n m (x.op ∷ []) there h

-- whoever takes a message is its session, which lives
pub take_lives : (w : Setting) (past : Past) (s n : ℕ) (m : Message)
    → IsLegalEntry w past (record { actor = s; act = act.Take n }) → slice_get past.messages n ≡ Some m
    → has_ended past m.session ≡ false
take_lives w past s n m legal there =
    subst (λ t. has_ended past t ≡ false)
    (eq_true s m.session
    (oldest_here past s n m (slice_get past.messages n) refl there (take_replied (oldest past s n) n legal.reply)))
    (living_of w past s legal.allowed)

-- ---- taken messages

takes_takes : (s n actor : ℕ) (a : Act) (rest : List ℕ)
    → takes s n (record { actor = actor; act = a }) ≡ true
    → list_any (nat_eq n) (cons_option (taken_in (record { actor = actor; act = a })) rest) ≡ true
takes_takes s n actor (act.Take m) rest h =
    true_left (nat_eq n m) (list_any (nat_eq n) rest) (right_true (nat_eq s actor) (nat_eq n m) h)
takes_takes s n actor a rest h = absurd (true≢false (sym h))

passes_on : (n : ℕ) (o : Option ℕ) (rest : List ℕ)
    → list_any (nat_eq n) rest ≡ true → list_any (nat_eq n) (cons_option o rest) ≡ true
passes_on n None rest h = h
passes_on n (Some m) rest h = true_right (nat_eq n m) (list_any (nat_eq n) rest) h

took_first : (s n : ℕ) (e : Entry) (es : List Entry) (b : Bool) → takes s n e ≡ b
    → (list_any (takes s n) es ≡ true → list_any (nat_eq n) (filter_map taken_in es) ≡ true)
    → list_any (takes s n) (e ∷ es) ≡ true → list_any (nat_eq n) (filter_map taken_in (e ∷ es)) ≡ true
took_first s n e es true q rest h = takes_takes s n e.actor e.act (filter_map taken_in es) q
took_first s n e es false q rest h =
    passes_on n (taken_in e) (filter_map taken_in es)
    (rest (subst (λ b. (b || list_any (takes s n) es) ≡ true) q h))

took_taken : (s n : ℕ) (es : List Entry)
    → list_any (takes s n) es ≡ true → list_any (nat_eq n) (filter_map taken_in es) ≡ true
took_taken s n [] h = h
took_taken s n (e ∷ es) h = took_first s n e es (takes s n e) refl (took_taken s n es) h

-- ---- a request that its session left behind gets no reply and is not taken any more

-- it is so that a message was left
record Left (w : Setting) (past : Past) (n : ℕ) (m : Message) : Type 0 where
  there : slice_get past.messages n ≡ Some m
  ended : has_ended past m.session ≡ true
  untaken : was_taken past n ≡ false

unreplied_left : (w : Setting) (past : Past) (n : ℕ) (m : Message) (s : ℕ) (a : Act) → Left w past n m
    → IsLegalEntry w past (record { actor = s; act = a }) → reply_in n (record { actor = s; act = a }) ≡ None
unreplied_left w past n m s (act.Reply k o) l legal = by (nat_eq n k) refl
  where
    by : (b : Bool) → nat_eq n k ≡ b → (if nat_eq n k then Some o else None) ≡ None
    by false e = ap (λ b. if b then Some o else None) e
    by true e =
        absurd
        (true≢false
        (sym
        (took_taken s k past.entries
        (right_true (is_acting w past s) (took past s k)
        (left_true (is_acting w past s && took past s k) (is_open w past k) legal.allowed)))
        ∙ ap (was_taken past) (sym (eq_true n k e)) ∙ l.untaken))
unreplied_left w past n m s a l legal = refl

untaken_more : (w : Setting) (past : Past) (n : ℕ) (e : Entry)
    → list_any (nat_eq n) (cons_option (taken_in e) []) ≡ false
    → was_taken past n ≡ false → was_taken (then_one w past e) n ≡ false
untaken_more w past n e h g =
    ap (list_any (nat_eq n)) (given_append taken_in past.entries (e ∷ []))
    ∙ any_append (nat_eq n) (taken past) (cons_option (taken_in e) [])
    ∙ ap (λ b. b || list_any (nat_eq n) (cons_option (taken_in e) [])) g ∙ h

untaken_left : (w : Setting) (past : Past) (n : ℕ) (m : Message) (s : ℕ) (a : Act) → Left w past n m
    → IsLegalEntry w past (record { actor = s; act = a })
    → list_any (nat_eq n) (cons_option (taken_in (record { actor = s; act = a })) []) ≡ false
untaken_left w past n m s (act.Take k) l legal = by (nat_eq n k) refl
  where
    by : (b : Bool) → nat_eq n k ≡ b → (nat_eq n k || false) ≡ false
    by false e = ap (λ b. b || false) e
    by true e =
        absurd
        (true≢false
        (sym l.ended ∙ take_lives w past s k m legal (ap (slice_get past.messages) (sym (eq_true n k e)) ∙ l.there)))
untaken_left w past n m s a l legal = refl

-- ---- the first answer by its parts

-- the first answer of a message by whether it is a request, its replies, whether it was left, and whether the run
-- stopped
abbrev first_by : Bool → List Outcome → Bool → Bool → Option Outcome
first_by request rs left stopped = elim request [
  | false ↦ Some (outcome.Value void_tree)
  | true ↦ elim rs [
    | r ∷ more ↦ Some r
    | [] ↦ elim left [
      | true ↦ Some (outcome.Refused reason.SessionEnded)
      | false ↦ elim stopped [ true ↦ Some (outcome.Refused reason.Stopped) | false ↦ None ]
    ]
  ]
]

-- the answers of a message by the same
abbrev answers_by : Bool → List Outcome → Bool → Bool → List Outcome
answers_by request rs left stopped =
    let ours : List Outcome = rs ++ (if left then outcome.Refused reason.SessionEnded ∷ [] else []) in
    (if request then [] else outcome.Value void_tree ∷ []) ++ ours
    ++ (elim ours [
      | [] ↦ if request && stopped then outcome.Refused reason.Stopped ∷ [] else []
      | o ∷ os ↦ []
    ])

stop_by : (w : Setting) (past : Past) (m : Message) (os : List Outcome)
    → by_stop w past m os
    ≡ (elim os [
      | [] ↦ if is_request w m
          && some_entry past stops then outcome.Refused reason.Stopped ∷ [] else []
      | o ∷ more ↦ []
    ])
stop_by w past m [] = refl
stop_by w past m (o ∷ os) = refl

by_parts : (w : Setting) (past : Past) (n : ℕ) (m : Message)
    → answers_of w past n m ≡ answers_by (is_request w m) (replies past n) (is_left w past n m) (some_entry past stops)
by_parts w past n m = ap (λ os. at_once w m ++ by_session w past n m ++ os) (stop_by w past m (by_session w past n m))

first_of_parts : (request : Bool) (rs : List Outcome) (left stopped : Bool)
    → first (answers_by request rs left stopped) ≡ first_by request rs left stopped
first_of_parts false rs left stopped = refl
first_of_parts true (r ∷ rs) left stopped = refl
first_of_parts true [] true stopped = refl
first_of_parts true [] false true = refl
first_of_parts true [] false false = refl

-- the first answer of a message that is there
pub first_answer : (w : Setting) (past : Past) (n : ℕ) (m : Message) → slice_get past.messages n ≡ Some m
    → first (answers w past n) ≡ first_by (is_request w m) (replies past n) (is_left w past n m) (some_entry past stops)
first_answer w past n m there =
    ap (λ g. first (elim g [ None ↦ [] | Some x ↦ answers_of w past n x ])) there ∙ ap first (by_parts w past n m)
    ∙ first_of_parts (is_request w m) (replies past n) (is_left w past n m) (some_entry past stops)

-- ---- it stays

replies_more : (w : Setting) (past : Past) (n : ℕ) (e : Entry)
    → replies (then_one w past e) n ≡ replies past n ++ cons_option (reply_in n e) []
replies_more w past n e = given_append (reply_in n) past.entries (e ∷ [])

left_more : (w : Setting) (past : Past) (n : ℕ) (m : Message) (e : Entry) → slice_get past.messages n ≡ Some m
    → IsLegalEntry w past e → is_left w past n m ≡ true
    → (replies (then_one w past e) n ≡ replies past n) × (is_left w (then_one w past e) n m ≡ true)
left_more w past n m e there legal h =
    let both : (is_request w m && has_ended past m.session) ≡ true =
    left_true (is_request w m && has_ended past m.session) (not (was_taken past n)) h in
    let ended : has_ended past m.session ≡ true = right_true (is_request w m) (has_ended past m.session) both in
    let l : Left w past n m =
    record {
      there = there;
      ended = ended;
      untaken = not_false (was_taken past n) (right_true (is_request w m
          && has_ended past m.session) (not (was_taken past n)) h);
    } in (
      replies_more w past n e
          ∙ ap (λ o. replies past n ++ cons_option o []) (unreplied_left w past n m e.actor e.act l legal)
          ∙ append_nil (replies past n),
      both_true (is_request w m && has_ended (then_one w past e) m.session) (not (was_taken (then_one w past e) n))
          (both_true (is_request w m) (has_ended (then_one w past e) m.session)
          (left_true (is_request w m) (has_ended past m.session) both)
          (some_more w past e (ends m.session) ∙ true_left (has_ended past m.session) (ends m.session e) ended))
          (ap not (untaken_more w past n e (untaken_left w past n m e.actor e.act l legal) l.untaken)),
    )

-- what an entry leaves as it is
record Same (w : Setting) (past : Past) (e : Entry) : Type 0 where
  messages : (then_one w past e).messages ≡ past.messages
  replies : (n : ℕ) → replies (then_one w past e) n ≡ replies past n
  ended : (s : ℕ) → has_ended (then_one w past e) s ≡ has_ended past s
  taken : (n : ℕ) → was_taken (then_one w past e) n ≡ was_taken past n
  stopped : some_entry (then_one w past e) stops ≡ some_entry past stops

same_by : (w : Setting) (past : Past) (e : Entry) → accepted_in w past e ≡ None → ((n : ℕ) → reply_in n e ≡ None)
    → taken_in e ≡ None → ((s : ℕ) → ends s e ≡ false) → stops e ≡ false → Same w past e
same_by w past e accepts replies takes ended stopped = record {
  messages = messages_same w past e accepts;
  replies = λ n. given_same w past e (reply_in n) (replies n);
  ended = λ s. some_same w past e (ends s) (ended s);
  taken = λ n. ap (list_any (nat_eq n)) (given_same w past e taken_in takes);
  stopped = some_same w past e stops stopped;
}

all_same : (w : Setting) (past : Past) (s : ℕ) (a : Act) → adds_none (record { actor = s; act = a }) ≡ true
    → Same w past (record { actor = s; act = a })
all_same w past s (act.Adopt d) h = same_by w past _ refl (λ n. refl) refl (λ t. refl) refl
all_same w past s (act.Collect n o) h = same_by w past _ refl (λ k. refl) refl (λ t. refl) refl
all_same w past s act.Close h = same_by w past _ refl (λ n. refl) refl (λ t. refl) refl
all_same w past s (act.Fetch t k) h = same_by w past _ refl (λ n. refl) refl (λ u. refl) refl
all_same w past s (act.Answered t k o) h = same_by w past _ refl (λ n. refl) refl (λ u. refl) refl
all_same w past s a h = absurd (true≢false (sym h))

-- the answers of a message by what they are made of
abbrev parts_of_answers : Setting → Message → ℕ → List Outcome → Bool → Bool → Bool → List Outcome
parts_of_answers w m n rs ended taken stopped =
    answers_by (is_request w m) rs (is_request w m && ended && not taken) stopped

-- the answers of the message that has the number
abbrev answers_at : Setting → Past → ℕ → Option Message → List Outcome
answers_at w past n g = elim g [ None ↦ [] | Some m ↦ answers_of w past n m ]

-- where an entry answers nothing, all answers are as they were
pub answers_same : (w : Setting) (past : Past) (e : Entry) → adds_none e ≡ true → (n : ℕ)
    → answers w (then_one w past e) n ≡ answers w past n
answers_same w past e h n =
    let s : Same w past e = all_same w past e.actor e.act h in
    ap (λ ms. answers_at w (then_one w past e) n (slice_get ms n)) s.messages
    ∙ by s (slice_get past.messages n)
  where
    by : Same w past e → (g : Option Message) → answers_at w (then_one w past e) n g ≡ answers_at w past n g
    by s None = refl
    by s (Some m) =
        by_parts w (then_one w past e) n m
        ∙ (λ i. parts_of_answers w m n (s.replies n i) (s.ended m.session i) (s.taken n i) (s.stopped i))
        ∙ sym (by_parts w past n m)

-- the same behind many such entries
pub answers_same_all : (w : Setting) (past : Past) (es : List Entry) → list_all adds_none es ≡ true → (n : ℕ)
    → answers w (then_all w past es) n ≡ answers w past n
answers_same_all w past [] h n = refl
answers_same_all w past (e ∷ es) h n =
    answers_same_all w (then_one w past e) es (right_true (adds_none e) (list_all adds_none es) h) n
    ∙ answers_same w past e (left_true (adds_none e) (list_all adds_none es) h) n

-- the messages as well
pub messages_same_all : (w : Setting) (past : Past) (es : List Entry) → list_all adds_none es ≡ true
    → (then_all w past es).messages ≡ past.messages
messages_same_all w past [] h = refl
messages_same_all w past (e ∷ es) h =
    messages_same_all w (then_one w past e) es (right_true (adds_none e) (list_all adds_none es) h)
    ∙ (all_same w past e.actor e.act (left_true (adds_none e) (list_all adds_none es) h)).messages

-- ---- a request stays answered

collects_only : (s : ℕ) (a : Act) → is_collect (record { actor = s; act = a }) ≡ true
    → adds_none (record { actor = s; act = a }) ≡ true
collects_only s (act.Collect n o) h = refl
collects_only s a h = absurd (true≢false (sym h))

-- behind the stop nothing is answered any more
stopped_same : (w : Setting) (past : Past) (e : Entry) → IsLegalEntry w past e → some_entry past stops ≡ true
    → adds_none e ≡ true
stopped_same w past e legal h = by (is_collect e) refl
  where
    by : (b : Bool) → is_collect e ≡ b → adds_none e ≡ true
    by true c = collects_only e.actor e.act c
    by false c = absurd (true≢false (sym (needs_run w past e.actor e.act legal.allowed c) ∙ ap not h))

stays_by : (w : Setting) (past : Past) (e : Entry) (n : ℕ) (m : Message) (o : Outcome) → IsLegalEntry w past e
    → slice_get past.messages n ≡ Some m
    → (request : Bool) (rs : List Outcome) (left stopped : Bool)
    → is_request w m ≡ request → replies past n ≡ rs → is_left w past n m ≡ left → some_entry past stops ≡ stopped
    → first_by request rs left stopped ≡ Some o
    → first_by request (replies (then_one w past e) n) (is_left w (then_one w past e) n m)
    (some_entry (then_one w past e) stops) ≡ Some o
stays_by w past e n m o legal there false rs left stopped q r l s h = h
stays_by w past e n m o legal there true (x ∷ rs) left stopped q r l s h =
    ap
    (λ os. first_by true os (is_left w (then_one w past e) n m) (some_entry (then_one w past e) stops))
    (replies_more w past n e ∙ ap (λ os. os ++ cons_option (reply_in n e) []) r)
    ∙ h
stays_by w past e n m o legal there true [] true stopped q r l s h =
    let p : (replies (then_one w past e) n ≡ replies past n) × (is_left w (then_one w past e) n m ≡ true) =
    left_more w past n m e there legal l in
    ap (λ os. first_by true os (is_left w (then_one w past e) n m) (some_entry (then_one w past e) stops)) (p.0 ∙ r)
    ∙ ap (λ b. first_by true [] b (some_entry (then_one w past e) stops)) p.1
    ∙ h
stays_by w past e n m o legal there true [] false true q r l s h =
    let a : Same w past e = all_same w past e.actor e.act (stopped_same w past e legal s) in
    (λ i. first_by true ((a.replies n
    ∙ r) i) ((is_request w m && a.ended m.session i && not (a.taken n i))) ((a.stopped ∙ s) i))
    ∙ ap (λ b. first_by true [] b true) l ∙ h
stays_by w past e n m o legal there true [] false false q r l s h = absurd (none_not_some o h)

-- an answer stays behind one legal entry more
pub answer_stays : (w : Setting) (n : ℕ) (o : Outcome) (past : Past) (e : Entry) → IsLegalEntry w past e
    → first (answers w past n) ≡ Some o → first (answers w (then_one w past e) n) ≡ Some o
answer_stays w n o past e legal h = by (slice_get past.messages n) refl
  where
    by : (g : Option Message) → slice_get past.messages n ≡ g → first (answers w (then_one w past e) n) ≡ Some o
    by None there =
        absurd
        (none_not_some o
        (sym (ap (λ q. first (elim q [ None ↦ [] | Some x ↦ answers_of w past n x ])) there) ∙ h))
    by (Some m) there =
        first_answer w (then_one w past e) n m (message_stays past.messages (accepted_in w past e) n m there)
        ∙ stays_by w past e n m o legal there (is_request w m) (replies past n) (is_left w past n m)
        (some_entry past stops) refl refl refl refl (sym (first_answer w past n m there) ∙ h)

-- an answer stays in every longer legal history
pub answer_stays_longer : (w : Setting) (n : ℕ) (o : Outcome) (h more : List Entry) → IsLegal w (h ++ more)
    → first (answers w (past_of w h) n) ≡ Some o → first (answers w (past_of w (h ++ more)) n) ≡ Some o
answer_stays_longer w n o h more legal there =
    kept_longer w (λ past. first (answers w past n) ≡ Some o) (answer_stays w n o) h more legal there
