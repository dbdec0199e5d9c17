-- Messages that are open, and those whose answer may be collected.
use Rattle.std.proofs.Common.{◌≡◌, ℕ, Bool, true, false, not, ◌&&◌, ◌||◌, List, [], ◌∷◌, ◌++◌, refl, sym, ap, ◌∙◌, Option, None, Some}
use Rattle.std.specs.Prelude.{nat_eq, slice_get, if◌then◌else◌}
use Rattle.std.specs.List.{list_any, filter_map, cons_option}
use Rattle.jolie_trees.specs.Trees.{void_tree}
use Rattle.behaviour_tree.specs.declared.words.Outcome.{Outcome}
use Rattle.behaviour_tree.specs.declared.words.Outcome.TheVariants as outcome
use Rattle.behaviour_tree.specs.declared.words.Reason.TheVariants as reason
use Rattle.reqresp_book.specs.declared.origin.Origin.{Origin}
use Rattle.reqresp_book.specs.declared.origin.Origin.TheVariants as origin
use Rattle.office_core.specs.declared.history.Act.{Act}
use Rattle.office_core.specs.declared.history.Act.TheVariants as act
use Rattle.office_core.specs.declared.history.Entry.{Entry}
use Rattle.office_core.specs.declared.message.Message.{Message}
use Rattle.office_core.specs.Limits.{Setting}
use Rattle.office_core.specs.Past.{Past, some_entry, stops, is_running}
use Rattle.office_core.specs.Sessions.{has_ended}
use Rattle.office_core.specs.Boxes.{taken_in, was_taken}
use Rattle.office_core.specs.Answers.{is_request, at_once, reply_in, replies, by_session, by_stop, answers_of, is_open}
use Rattle.office_core.specs.Legal.{collects, posts_as, is_from_port, is_collectable}
use Rattle.office_plain.specs.Replies.{is_port}
use Rattle.office_plain.proofs.Stays.{left_by}
use Rattle.test_history.specs.Kinds.{takes_it, replies_to}
use Rattle.test_conditions.specs.Told.{open_by, collectable_by}
use Rattle.test_conditions.specs.declared.messages.Told.{Told}
use Rattle.test_conditions.specs.declared.messages.Awaited.{Awaited}

-- an entry
abbrev entry : ℕ → Act → Entry
entry actor a = record { actor = actor; act = a }

-- ---- what was taken

taken_one : (n actor : ℕ) (a : Act) (ns : List ℕ) (rest : Bool) → rest ≡ list_any (nat_eq n) ns
    → (takes_it n (entry actor a) || rest) ≡ list_any (nat_eq n) (cons_option (taken_in (entry actor a)) ns)
taken_one n actor (act.Take m) ns rest h = ap (λ b. nat_eq n m || b) h
taken_one n actor a ns rest h = h

taken_among : (n : ℕ) (es : List Entry) → list_any (takes_it n) es ≡ list_any (nat_eq n) (filter_map taken_in es)
taken_among n [] = refl
taken_among n (e ∷ es) = taken_one n e.actor e.act (filter_map taken_in es) (list_any (takes_it n) es) (taken_among n es)

-- a message was taken
pub taken_is : (past : Past) (n : ℕ) → list_any (takes_it n) past.entries ≡ was_taken past n
taken_is past n = taken_among n past.entries

-- ---- replies

-- whether there is one
abbrev pub has_one : List Outcome → Bool
has_one [] = false
has_one (o ∷ os) = true

replied_here : (o : Outcome) (os : List Outcome) (b : Bool) → (b || has_one os) ≡ has_one (cons_option (if b then Some o else None) os)
replied_here o os true = refl
replied_here o os false = refl

replied_one : (n actor : ℕ) (a : Act) (os : List Outcome) (rest : Bool) → rest ≡ has_one os
    → (replies_to n (entry actor a) || rest) ≡ has_one (cons_option (reply_in n (entry actor a)) os)
replied_one n actor (act.Reply m o) os rest h = ap (λ b. nat_eq n m || b) h ∙ replied_here o os (nat_eq n m)
replied_one n actor a os rest h = h

replied_among : (n : ℕ) (es : List Entry) → list_any (replies_to n) es ≡ has_one (filter_map (reply_in n) es)
replied_among n [] = refl
replied_among n (e ∷ es) =
    replied_one n e.actor e.act (filter_map (reply_in n) es) (list_any (replies_to n) es) (replied_among n es)

-- a message was replied to
pub replied_is : (past : Past) (n : ℕ) → list_any (replies_to n) past.entries ≡ has_one (replies past n)
replied_is past n = replied_among n past.entries

-- ---- open messages

-- whether a message is open by whether it is a request, and by its answers
abbrev opens_by : Bool → List Outcome → Bool
opens_by request os = elim os [ [] ↦ request | o ∷ rest ↦ false ]

-- the answer by the stop, by whether the message is a request and the run stopped
abbrev stop_by : Bool → Bool → List Outcome → List Outcome
stop_by request stopped [] = if request && stopped then outcome.Refused reason.Stopped ∷ [] else []
stop_by request stopped (o ∷ os) = []

stop_is : (w : Setting) (past : Past) (m : Message) (os : List Outcome)
    → by_stop w past m os ≡ stop_by (is_request w m) (some_entry past stops) os
stop_is w past m [] = refl
stop_is w past m (o ∷ os) = refl

-- all answers
abbrev all_by : Bool → List Outcome → Bool → Bool → Bool → List Outcome
all_by request rs ended taken stopped =
    (if request then [] else outcome.Value void_tree ∷ [])
    ++ (rs ++ left_by request ended taken)
    ++ stop_by request stopped (rs ++ left_by request ended taken)

opens_is : (request : Bool) (rs : List Outcome) (ended taken stopped : Bool)
    → opens_by request (all_by request rs ended taken stopped)
    ≡ (request && not stopped && not (has_one rs) && not (ended && not taken))
opens_is false rs ended taken stopped = refl
opens_is true (o ∷ os) ended taken true = refl
opens_is true (o ∷ os) ended taken false = refl
opens_is true [] true true true = refl
opens_is true [] true true false = refl
opens_is true [] true false true = refl
opens_is true [] true false false = refl
opens_is true [] false taken true = refl
opens_is true [] false taken false = refl

-- what is told of a message
abbrev pub told_of : Setting → Past → ℕ → Message → Told
told_of w past n m = record {
  is_request = is_request w m;
  is_running = is_running past;
  was_replied = list_any (replies_to n) past.entries;
  has_ended = has_ended past m.session;
  was_taken = list_any (takes_it n) past.entries;
}

pub open_is : (w : Setting) (past : Past) (n : ℕ) (m : Message) → slice_get past.messages n ≡ Some m
    → open_by (told_of w past n m) ≡ is_open w past n
open_is w past n m there =
    (λ i. is_request w m && is_running past && not (replied_is past n i) && not (has_ended past m.session && not (taken_is past n i)))
    ∙ sym (ap (λ o. elim o [ None ↦ false | Some x ↦ opens_by (is_request w x) (answers_of w past n x) ]) there
    ∙ ap (λ os. opens_by (is_request w m) (at_once w m ++ by_session w past n m ++ os)) (stop_is w past m (by_session w past n m))
    ∙ opens_is (is_request w m) (replies past n) (has_ended past m.session) (was_taken past n) (some_entry past stops))

-- a message that is not there is not open
pub none_open : (w : Setting) (past : Past) (n : ℕ) → slice_get past.messages n ≡ None → is_open w past n ≡ false
none_open w past n none = ap (λ o. elim o [ None ↦ false | Some x ↦ opens_by (is_request w x) (answers_of w past n x) ]) none

-- ---- answers that may be collected

-- what is told of it
abbrev pub awaited_of : Past → ℕ → ℕ → Message → Awaited
awaited_of past actor n m = record {
  was_collected = some_entry past (collects n);
  came_in = is_port m.origin;
  is_running = is_running past;
  was_posted = some_entry past (posts_as actor n);
}

port_is : (from : Origin) → is_port from ≡ (elim from [ origin.Port posting index ↦ true | origin.Session s k ↦ false ])
port_is (origin.Port posting index) = refl
port_is (origin.Session s k) = refl

pub collectable_is : (past : Past) (actor n : ℕ) (m : Message) → slice_get past.messages n ≡ Some m
    → collectable_by (awaited_of past actor n m) ≡ is_collectable past actor n
collectable_is past actor n m there =
    (λ i. not (some_entry past (collects n)) && port_is m.origin i && (not (is_running past) || some_entry past (posts_as actor n)))
    ∙ sym (ap (λ o. not (some_entry past (collects n)) && elim o [ None ↦ false | Some x ↦ is_from_port x ]
    && (not (is_running past) || some_entry past (posts_as actor n))) there)

pub none_collectable : (past : Past) (actor n : ℕ) → slice_get past.messages n ≡ None → is_collectable past actor n ≡ false
none_collectable past actor n none =
    ap (λ o. not (some_entry past (collects n)) && elim o [ None ↦ false | Some x ↦ is_from_port x ]
    && (not (is_running past) || some_entry past (posts_as actor n))) none
    ∙ by (not (some_entry past (collects n)))
  where
    by : (b : Bool) → (b && false && (not (is_running past) || some_entry past (posts_as actor n))) ≡ false
    by true = refl
    by false = refl
